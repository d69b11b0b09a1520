-- `amounts::own::class_amounts` meets its contract: the rows before stand in the tables.
use Rattle.book.specs.Inner.Reading.{part_rows}
use Rattle.amounts.proofs.Filling.{Filled}
use Rattle.amounts.proofs.own.class_amounts.Given as goal

abbrev pub invariant-loop-row : goal.invariant-loop-row
invariant-loop-row l = Filled l.first (part_rows l.part) l.initial.amounts l.row l.amounts
