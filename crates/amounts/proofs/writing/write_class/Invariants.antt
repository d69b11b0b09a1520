-- `amounts::writing::write_class` meets its contract: writing the rows that are left makes the whole.
use Rattle.book.specs.Inner.Reading.{part_rows}
use Rattle.amounts.specs.Inner.Standing.{positions_in}
use Rattle.amounts.proofs.Bytes.{Wrote}
use Rattle.amounts.proofs.writing.write_class.Given as goal

abbrev pub invariant-loop-row : goal.invariant-loop-row
invariant-loop-row l = Wrote (positions_in l.amounts) l.first (part_rows l.part) l.initial.out l.at l.row l.end l.out
