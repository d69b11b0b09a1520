-- `amounts::writing::write_bodies` meets its contract: the loop writes the bodies one after the other.
use Rattle.layout.proofs.Classwise.{Writes}
use Rattle.amounts.specs.Inner.Standing.{positions_in}
use Rattle.amounts.specs.Inner.Writing.{standing_body}
use Rattle.amounts.proofs.writing.write_bodies.Given as goal

abbrev pub invariant-loop-class : goal.invariant-loop-class
invariant-loop-class l = Writes (standing_body (positions_in l.amounts) l.book.bytes.now) l.initial.out 8 l.out l.at l.class
