-- `amounts::counting::left_rows` meets its contract: the rows before are counted.
use mathlib.Core.Bool.{cond}
use Prim.Native.Nat.{◌+◌, ◌≤◌}
use Rattle.sums.proofs.Spans.{Summed}
use Rattle.amounts.specs.Inner.Standing.{positions_in}
use Rattle.amounts.specs.Inner.Counting.{is_left}
use Rattle.amounts.proofs.counting.left_rows.Given as goal

abbrev pub invariant-loop-row : goal.invariant-loop-row
invariant-loop-row l =
    Summed (λ k. cond (is_left (positions_in l.amounts (l.first + k))) 1 0) l.many l.left l.row × (l.left ≤ l.row)
