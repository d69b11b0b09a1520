-- `netting::gathering::gather_class` meets its contract: the rows taken do not differ and are in the tables.
use Rattle.book.specs.Inner.Reading.{part_rows}
use Rattle.netting.proofs.Adding.{Adds}
use Rattle.netting.proofs.gathering.gather_class.Given as goal

abbrev pub invariant-loop-row : goal.invariant-loop-row
invariant-loop-row l =
    Adds l.first (part_rows l.part) l.initial.amounts l.row l.compared l.kept l.amounts
