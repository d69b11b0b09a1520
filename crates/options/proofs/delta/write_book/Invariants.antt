-- `options::delta::write_book` meets its contract: the rows of the classes before are written.
use lib.ListN.{take}
use Rattle.options.proofs.Outcome.{Classes}
use Rattle.options.proofs.delta.write_book.Given as goal

abbrev pub invariant-loop-class : goal.invariant-loop-class
invariant-loop-class l = Classes l.table.bytes.now l.fn.counts l.fn.out l.out l.end (take l.class-index l.class-items)
