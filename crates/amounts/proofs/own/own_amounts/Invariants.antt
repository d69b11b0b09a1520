-- `amounts::own::own_amounts` meets its contract: the classes before stand in the tables.
use Rattle.amounts.proofs.Filling.{FilledTo}
use Rattle.amounts.proofs.own.own_amounts.Given as goal

abbrev pub invariant-loop-class : goal.invariant-loop-class
invariant-loop-class l = FilledTo l.book.bytes.now l.class l.amounts
