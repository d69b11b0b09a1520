-- `charges::adding::Sums::add_interest` meets its contract: the slots are those of the leg, and have room for it.
use Rattle.std.proofs.Common.{refl, ap, get_or, arith}
use native.Mathlib.Nat.{zero-add}
use Rattle.charges.specs.Inner.Slots.{Sums, leg_with, leg_counted, with_leg}
use Rattle.charges.proofs.Places.{interest_slot, group_slot_lem}
use Rattle.charges.proofs.Progress.{most_specific}
use Rattle.charges.proofs.adding.Sums.add_interest.Goals as goal

pub overflow_add-self : goal.overflow_add-self
overflow_add-self c =
    let clean = c.requires.clean in
    let at = c.from-group.result in
    omega (
      arith,
      ap (λ (sums : Sums). get_or sums.specifics at 0) c.add_amounts.ensures,
      c.requires.room.in_specifics.room at (omega (arith, clean.group)),
      c.specific_charge.ensures,
      most_specific (leg_with 1 c.args.row) clean,
    )

pub returns : goal.returns
unfolding with_leg leg_counted
returns c =
    let row = c.args.row in
    rw (interest_slot row, group_slot_lem row 1 0 refl, zero-add row.group, c.add_amounts.ensures, c.from-group.ensures, c.interest_band-band.ensures.0, c.specific_charge.ensures)
