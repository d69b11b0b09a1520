-- `charges::ladders::tally` meets its contract: the loop keeps that the array holds the group's positions of the rows passed.
use lib.ListN.{take}
use Rattle.book.specs.Inner.Reading.{part_rows}
use Rattle.charges.specs.Inner.Ladders.{GroupSums}
use Rattle.charges.proofs.ladders.tally.Given as goal

abbrev pub invariant-loop-i : goal.invariant-loop-i
invariant-loop-i l = GroupSums l.class l.group (take l.i (part_rows l.part)) l.positions
