-- `charges::pass::take_rows` meets its contract: both loops keep that the legs taken passed and are in the sums.
use Rattle.std.proofs.Common.{◌≡◌, refl, sym, ap, ◌∙◌, ◌+◌, List, [], length, get_or, arith}
use Rattle.book.specs.declared.Counts.{Counts}
use Rattle.book.specs.Counts.{count_in}
use Rattle.book.specs.Legs.{Leg, leg_of, legs_of}
use Rattle.book.specs.Reasons.{number_in}
use Rattle.book.proofs.Numbers.{some_number}
use Rattle.book.proofs.Walking.{legs_length}
use Rattle.book.proofs.Searching.{Stands, starts, enters, goes_on, next_class, at_end, leg-there}
use Rattle.charges.specs.Inner.Slots.{leg_with, Room}
use Rattle.charges.specs.Inner.Pass.{Took}
use Rattle.charges.proofs.Progress.{none_taken, leg-room, leg-taken, leg-refused, all_taken}
use Rattle.charges.proofs.pass.take_rows.Goals.{After-row_from-row, Joined-class}
use Rattle.charges.proofs.pass.take_rows.Goals.{in-1, in-2, in-3, in_default}
use Rattle.charges.proofs.pass.take_rows.Goals as goal

-- the leg of a turn: the next of the book's, and room for it
module _ (c : After-row_from-row) where
  abbrev legs : List Leg
  legs = legs_of c.args.book.now

  abbrev leg : Leg
  leg = leg_with c.loop-class.class c.row_from-row.result

  there : Stands c.args.book.now c.loop-class.class c.loop-at.at
  there = leg-there c.args.book.now c.requires.counts_value.1.sized _ _ c.loop-at.at c.loop-at.invariant.0 c.loop-at-test.true

  is_leg : get_or legs c.loop-at.at (leg_of c.loop-class.class []) ≡ leg
  is_leg = there.is_leg ∙ ap (leg_with c.loop-class.class) (sym c.row_from-row.ensures)

  room : Room c.loop-at.sums
  room =
      let sized = c.requires.counts_value.1 in
      leg-room legs _ c.loop-at.at c.loop-at.invariant.1 (omega (arith, there.within, legs_length c.args.book.now sized.sized, sized.few))

-- what a turn did, by the class
turn : (c : Joined-class) → Took (leg_with c.loop-class.class c.row_from-row.result) (number_in c.match-class.took) c.loop-at.sums c.match-class.sums
turn c =
    elim c.match-class.branch [
      | in-1 w ↦ rw (w.sums-is, w.took-is, w.in-1.is) w.take_row-took.ensures
      | in-2 w ↦ rw (w.sums-is, w.took-is, w.in-2.is) w.take_row-took-in-2.ensures
      | in-3 w ↦ rw (w.sums-is, w.took-is, w.in-3.is) w.take_row-took-in-3.ensures
      | in_default w ↦
          let fourth : c.loop-class.class ≡ 4 = omega arith in rw (w.sums-is, w.took-is, fourth) w.take_row-took-in_default.ensures
    ]

pub loop-class-init : goal.loop-class-init
loop-class-init c = (starts c.args.book.now, none_taken (legs_of c.args.book.now) _ c.requires.clear)

pub loop-at-init : goal.loop-at-init
loop-at-init c =
    let rows = c.from.ensures ∙ c.class_rows.ensures ∙ ap (λ (counts : Counts). count_in counts c.loop-class.class) c.requires.counts_value.0 in
    (enters c.args.book.now _ _ _ c.loop-class.invariant.0 (omega arith) rows, c.loop-class.invariant.1)

pub take_row-took-requires-clause-room : goal.take_row-took-requires-clause-room
take_row-took-requires-clause-room c = room (goal.at.take_row-took-requires-clause-room c).After-row_from-row

pub take_row-took-requires-in-2-clause-room : goal.take_row-took-requires-in-2-clause-room
take_row-took-requires-in-2-clause-room c = room (goal.at.take_row-took-requires-in-2-clause-room c).After-row_from-row

pub take_row-took-requires-in-3-clause-room : goal.take_row-took-requires-in-3-clause-room
take_row-took-requires-in-3-clause-room c = room (goal.at.take_row-took-requires-in-3-clause-room c).After-row_from-row

pub take_row-took-requires-in_default-clause-room : goal.take_row-took-requires-in_default-clause-room
take_row-took-requires-in_default-clause-room c = room (goal.at.take_row-took-requires-in_default-clause-room c).After-row_from-row

pub loop-at-preserved : goal.loop-at-preserved
unfolding number_in
loop-at-preserved c =
    let at = (goal.at.loop-at-preserved c).After-row_from-row in
    let did = rw c.in_default-took.is at (turn (goal.at.loop-at-preserved c).Joined-class) in (
      goes_on c.args.book.now _ _ _ c.loop-at.invariant.0 c.loop-at-test.true,
      rw (did.added refl) (leg-taken (legs at) _ _ c.loop-at.invariant.1 (leg at) _ (there at).within (is_leg at) (sym did.is)),
    )

pub loop-class-preserved : goal.loop-class-preserved
loop-class-preserved c =
    let done : c.loop-at.at ≡ c.loop-class.taken + c.from.result = omega arith in
    rw (← done) (next_class _ _ _ _ c.loop-at.invariant.0 c.loop-at-test.false, c.loop-at.invariant.1)

pub returns-in-Err : goal.returns-in-Err
unfolding number_in
returns-in-Err c =
    let at = (goal.at.returns-in-Err c).After-row_from-row in
    let did = rw c.in-Err.is at (turn (goal.at.returns-in-Err c).Joined-class) in
    rw (did.kept (some_number c.in-Err.reason), c.at_row.ensures)
    (leg-refused (legs at) _ _ c.loop-at.invariant.1 (leg at) _ (there at).within (is_leg at) c.in-Err.reason did.is)

pub returns-after-loop-class : goal.returns-after-loop-class
returns-after-loop-class c =
    let s = c.args.book.now in
    let all : c.loop-class.taken ≡ length (legs_of s) = sym (legs_length s c.requires.counts_value.1.sized ∙ at_end s _ _ c.loop-class.invariant.0 (omega arith)) in
    all_taken (legs_of s) _ _ c.loop-class.invariant.1 all
