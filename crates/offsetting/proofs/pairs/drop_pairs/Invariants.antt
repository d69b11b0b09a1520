-- `offsetting::pairs::drop_pairs` meets its contract: the pairs of the rows before are dropped.
use Rattle.book.specs.Inner.Reading.{part_rows}
use Rattle.offsetting.proofs.Dropping.{DroppedTo}
use Rattle.offsetting.proofs.pairs.drop_pairs.Given as goal

abbrev pub invariant-loop-row : goal.invariant-loop-row
invariant-loop-row l = DroppedTo (part_rows l.part) l.initial.amounts l.row l.amounts
