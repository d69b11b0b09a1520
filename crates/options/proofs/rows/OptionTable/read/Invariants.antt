-- `options::rows::OptionTable::read` meets its contract: the rows before are in range.
use Rattle.options.proofs.Walking.{Passed}
use Rattle.options.proofs.rows.OptionTable.read.Given as goal

abbrev pub invariant-loop-row : goal.invariant-loop-row
invariant-loop-row l = Passed l.bytes l.row
