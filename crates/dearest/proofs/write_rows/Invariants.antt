-- `dearest::write_rows` meets its contract: after each turn one row more is written.
use Rattle.dearest.proofs.Times.{Rows}
use Rattle.dearest.proofs.write_rows.Given as goal

abbrev pub invariant-loop-at : goal.invariant-loop-at
invariant-loop-at l = Rows l.row l.rows l.initial.out l.out l.at
