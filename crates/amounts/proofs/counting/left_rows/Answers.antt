-- `amounts::counting::left_rows` meets its contract: the rows before are counted.
use mathlib.Core.Path.{◌≡◌, sym, ap, ◌∙◌}
use mathlib.Core.Bool.{Bool, true, false, cond}
use Prim.Native.Nat.{ℕ, ◌+◌}
use native.Mathlib.Omega.{arith}
use Rattle.sums.proofs.Spans.{summed_none, summed_next}
use Rattle.amounts.specs.Inner.Standing.{positions_in}
use Rattle.amounts.specs.Inner.Counting.{is_left}
use Rattle.amounts.proofs.counting.left_rows.Goals.{Joined-is_left, then-is_left, else-is_left}
use Rattle.amounts.proofs.counting.left_rows.Goals as goal

pub loop-row-init : goal.loop-row-init
loop-row-init c = (summed_none _ _, omega arith)

-- the test is the definition's
counted : {test left : Bool} → test ≡ left → (given : Bool) → test ≡ given → cond given 1 0 ≡ cond {A = ℕ} left 1 0
counted is given e = ap (λ (b : Bool). cond {A = ℕ} b 1 0) (sym e ∙ is)

pub loop-row-preserved : goal.loop-row-preserved
loop-row-preserved c =
    let tested : c.is_left.result ≡ is_left (positions_in c.args.amounts.now (c.args.first + c.loop-row.row)) =
    c.is_left.ensures ∙ ap is_left (c.at.ensures ∙ ap (λ (k : ℕ). positions_in c.args.amounts.now (c.args.first + k)) c.from.ensures) in
    elim c.if-is_left.branch [
      | then-is_left w ↦
          let next = summed_next _ _ _ _ 1 c.loop-row.invariant.0 (omega arith) (counted tested true w.if-is_left.true) in
          (record { reached = next.reached; is_sum = omega (arith, next.is_sum, w.left-is) }, omega arith)
      | else-is_left w ↦
          let next = summed_next _ _ _ _ 0 c.loop-row.invariant.0 (omega arith) (counted tested false w.if-is_left.false) in
          (record { reached = next.reached; is_sum = omega (arith, next.is_sum, w.left-is) }, omega arith)
    ]
