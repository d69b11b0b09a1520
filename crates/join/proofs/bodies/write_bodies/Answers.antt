-- `join::bodies::write_bodies` meets its contract: the loop writes the joined bodies one after the other.
-- Assumes nothing.
use mathlib.Core.Path.{◌≡◌, ap, ◌∙◌}
use mathlib.Core.List.{List, ◌++◌}
use Prim.Native.Nat.{ℕ, ◌+◌, ◌≤◌}
use native.Mathlib.Omega.{arith}
use lib.ListN.{length, length-append}
use Rattle.layout.specs.Written.{written}
use Rattle.layout.proofs.Writing.{written-length, written_after}
use Rattle.layout.proofs.Classwise.{begins, piece_room, writes-next, all_written}
use Rattle.join.specs.Joined.{joined_body}
use Rattle.join.proofs.bodies.write_bodies.Goals.{After-body-b}
use Rattle.join.proofs.bodies.write_bodies.Goals as goal

-- the two parts of a class are its joined body, for which there is room
pair : (c : After-body-b) → c.body-a.result.now ++ c.body-b.result.now ≡ joined_body c.args.first.bytes.now c.args.second.bytes.now c.loop-class.class
unfolding joined_body
pair c = cc (c.body-a.ensures, c.body-b.ensures)

room : (c : After-body-b) → c.loop-class.at + length c.body-a.result.now + length c.body-b.result.now ≤ length c.loop-class.out
room c =
    let size = simp length-append at (ap length (pair c)) in
    omega (arith, piece_room _ _ _ _ _ _ c.loop-class.invariant (omega arith))

pub loop-class-init : goal.loop-class-init
loop-class-init c = begins _ _ 8 c.requires

pub write_at-requires : goal.write_at-requires
write_at-requires c = omega (arith, room (goal.at.write_at-requires c).After-body-b)

pub write_at-requires-in-loop-class : goal.write_at-requires-in-loop-class
write_at-requires-in-loop-class c =
    let fits = room (goal.at.write_at-requires-in-loop-class c).After-body-b in
    omega (arith, ap length c.write_at.ensures, written-length c.loop-class.out c.body-a.result.now c.loop-class.at (omega arith))

pub overflow_add-at-in-loop-class-2 : goal.overflow_add-at-in-loop-class-2
overflow_add-at-in-loop-class-2 c =
    let fits = room (goal.at.overflow_add-at-in-loop-class-2 c).After-body-b in
    record { fits = omega arith }

pub loop-class-preserved : goal.loop-class-preserved
loop-class-preserved c =
    let parts = pair (goal.at.loop-class-preserved c).After-body-b in
    let both = written_after c.loop-class.out c.body-a.result.now c.body-b.result.now c.loop-class.at (room (goal.at.loop-class-preserved c).After-body-b) in
    writes-next _ _ _ c.loop-class.out _ _ c.loop-class.invariant (omega arith) _ _
    (c.write_at-in-loop-class.ensures
    ∙ ap (λ (l : List ℕ). written l (c.loop-class.at + length c.body-a.result.now) c.body-b.result.now) c.write_at.ensures
    ∙ both
    ∙ ap (written c.loop-class.out c.loop-class.at) parts)
    (omega (arith, simp length-append at (ap length parts)))

pub returns : goal.returns
returns c = all_written _ _ _ _ _ _ c.loop-class.invariant (omega arith)
