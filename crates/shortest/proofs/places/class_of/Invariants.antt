-- `shortest::places::class_of` meets its contract: the row is not before the first row of the class that is looked at.
use Prim.Native.Nat.{◌≤◌}
use Rattle.book.specs.Counts.{rows_before}
use Rattle.shortest.proofs.places.class_of.Given as goal

abbrev pub invariant-loop-class : goal.invariant-loop-class
invariant-loop-class l = rows_before l.counts l.class ≤ l.row
