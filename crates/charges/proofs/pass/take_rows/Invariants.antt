-- `charges::pass::take_rows` meets its contract: both loops keep that the legs taken passed and are in the sums.
use Rattle.book.specs.Legs.{legs_of}
use Rattle.book.proofs.Searching.{AtClass, InClass}
use Rattle.charges.proofs.Progress.{Progress}
use Rattle.charges.proofs.pass.take_rows.Given as goal

abbrev pub invariant-loop-at : goal.invariant-loop-at
invariant-loop-at l = InClass l.book l.class l.end l.at × Progress (legs_of l.book) l.at l.sums

abbrev pub invariant-loop-class : goal.invariant-loop-class
invariant-loop-class l = AtClass l.book l.class l.taken × Progress (legs_of l.book) l.taken l.sums
