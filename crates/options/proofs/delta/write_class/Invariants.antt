-- `options::delta::write_class` meets its contract: the rows before are written.
use Rattle.options.proofs.Bytes.{Rows}
use Rattle.options.proofs.delta.write_class.Given as goal

abbrev pub invariant-loop-row : goal.invariant-loop-row
invariant-loop-row l = Rows l.class l.table.bytes.now l.at l.initial.out l.out l.end l.row
