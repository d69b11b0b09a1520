-- `netting::nets::first_over` meets its contract: no row before is over the limit.
use mathlib.Core.Path.{◌≡◌, sym, ap, ◌∙◌}
use Prim.Native.Nat.{ℕ}
use native.Mathlib.Omega.{arith}
use Rattle.book.specs.declared.Refused.{Refused}
use Rattle.book.specs.declared.Reason.TheVariants.{NetAmount}
use Rattle.book.specs.Reasons.{number_of, numbers_of, told}
use Rattle.book.specs.Refusals.{refused}
use Rattle.netting.specs.Inner.Nets.{is_over}
use Rattle.netting.proofs.Numbers.{unfound_next, found_here, found_none}
use Rattle.netting.proofs.nets.first_over.Goals as goal

-- 14 in numbers
over_limit : {r : Refused} {row : ℕ} → r ≡ record { reason = NetAmount; row = row; book = 0 } → numbers_of r ≡ refused 14 row
unfolding numbers_of number_of refused
over_limit is = ap numbers_of is

pub returns-then-is_over : goal.returns-then-is_over
unfolding told
returns-then-is_over c =
    let over = ap is_over (sym c.at.ensures) ∙ sym c.is_over.ensures ∙ c.if-is_over.true in
    over_limit c.at_row.ensures ∙ sym (found_here _ _ _ c.loop-row.row (omega arith) c.loop-row.invariant over)

pub loop-row-preserved : goal.loop-row-preserved
loop-row-preserved c =
    unfound_next _ _ _ c.loop-row.row (omega arith) c.loop-row.invariant (ap is_over (sym c.at.ensures) ∙ sym c.is_over.ensures ∙ c.if-is_over.false)

pub returns : goal.returns
unfolding told
returns c = sym (found_none _ _ _ _ (omega arith) c.loop-row.invariant)
