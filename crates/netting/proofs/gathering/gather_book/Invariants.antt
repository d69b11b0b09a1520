-- `netting::gathering::gather_book` meets its contract: the classes before are gathered, and none of their rows differs.
use Rattle.netting.proofs.Classes.{GatheredTo}
use Rattle.netting.proofs.gathering.gather_book.Given as goal

abbrev pub invariant-loop-class : goal.invariant-loop-class
invariant-loop-class l = GatheredTo l.book.bytes.now l.class l.compared l.amounts
