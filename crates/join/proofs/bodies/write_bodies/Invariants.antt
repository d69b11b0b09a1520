-- `join::bodies::write_bodies` meets its contract: the loop writes the joined bodies one after the other.
-- Assumes nothing.
use Rattle.join.specs.Joined.{joined_body}
use Rattle.layout.proofs.Classwise.{Writes}
use Rattle.join.proofs.bodies.write_bodies.Given as goal

abbrev pub invariant-loop-class : goal.invariant-loop-class
invariant-loop-class l = Writes (joined_body l.fn.first.bytes.now l.fn.second.bytes.now) l.initial.out 8 l.out l.at l.class
