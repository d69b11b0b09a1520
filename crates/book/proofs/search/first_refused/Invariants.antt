-- `book::search::first_refused` meets its contract: the rows passed are clean, so that the search of all legs is the search of what is left.
use Prim.Native.Nat.{◌-◌}
use Rattle.book.specs.Legs.{legs_of}
use Rattle.book.proofs.Searching.{AtClass, InClass, Passed}
use Rattle.book.proofs.search.first_refused.Given as goal

abbrev pub invariant-loop-row : goal.invariant-loop-row
invariant-loop-row l = InClass l.book l.class l.end l.row × Passed (legs_of l.book) l.row

abbrev pub decreases-loop-row : goal.decreases-loop-row
decreases-loop-row l = l.end - l.row

abbrev pub invariant-loop-class : goal.invariant-loop-class
invariant-loop-class l = AtClass l.book l.class l.first × Passed (legs_of l.book) l.first

abbrev pub decreases-loop-class : goal.decreases-loop-class
decreases-loop-class l = 5 - l.class
