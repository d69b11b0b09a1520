-- `book::limits::check_amounts` meets its contract: of a row with 8 or 9 it is 8 by its sides.
use mathlib.Core.Path.{◌≡◌, refl, sym, ap, ◌∙◌}
use mathlib.Core.Bool.{Bool, true, false, cond, beq, ◌||◌}
use Prim.Native.Nat.{ℕ}
use lib.Dec.{eqb, ltb}
use borrow.Author.Tests.{eqb-true, eqb-false}
use Rattle.book.specs.Rows.{Row}
use Rattle.book.specs.declared.reasons.Reason.TheVariants.{Sides, Amount}
use Rattle.book.specs.Reasons.{number_of, number_in}
use Rattle.book.specs.Refusals.{most_amount, amounts_refusal}
use Rattle.book.proofs.limits.check_amounts.Goals as goal

pub returns-then-are_amounts_allowed : goal.returns-then-are_amounts_allowed
unfolding number_in
returns-then-are_amounts_allowed c = sym (eqb-true _ 0 (sym c.are_amounts_allowed.ensures ∙ c.if-are_amounts_allowed.true))

-- the number of the reason of a row that has one of them
either_of : (row : Row) → (amounts_refusal row ≡ 0 → ⊥) → number_of (cond (beq (eqb row.long 0) (eqb row.short 0)) Sides Amount) ≡ amounts_refusal row
unfolding amounts_refusal number_of
either_of row = go (beq (eqb row.long 0) (eqb row.short 0)) (ltb most_amount row.long || ltb most_amount row.short)
  where
    go : (sides over : Bool) → (cond {A = ℕ} sides 8 (cond over 9 0) ≡ 0 → ⊥) → number_of (cond sides Sides Amount) ≡ cond sides 8 (cond over 9 0)
    go true over some = refl
    go false true some = refl
    go false false some = absurd (some refl)

pub returns : goal.returns
unfolding number_in
returns c =
    ap number_of c.either.ensures
    ∙ either_of c.args.row (eqb-false _ 0 (sym c.are_amounts_allowed.ensures ∙ c.if-are_amounts_allowed.false))
