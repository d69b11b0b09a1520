-- `charges::adding::Sums::add_equity` meets its contract: the slots are those of the leg, and have room for it.
use Rattle.std.proofs.Common.{refl, ap, get_or, ◌+◌, arith}
use Rattle.sums.proofs.Tables.{placed-none}
use Rattle.charges.specs.Inner.Slots.{Sums, leg_with, group_slot, leg_counted, with_leg}
use Rattle.charges.proofs.Places.{equity-slot, group_slot_lem}
use Rattle.charges.proofs.Progress.{most_specific}
use Rattle.charges.proofs.adding.Sums.add_equity.Goals as goal

pub overflow_add-self-2 : goal.overflow_add-self-2
overflow_add-self-2 c =
    let clean = c.requires.clean in
    let at = 32 + c.from-group.result in
    omega (
      arith,
      ap (λ (sums : Sums). get_or sums.specifics at 0) c.add_amounts.ensures,
      c.requires.room.in_specifics.room at (omega (arith, clean.group)),
      c.specific_charge.ensures,
      most_specific (leg_with 2 c.args.row) clean,
    )

pub returns : goal.returns
unfolding with_leg leg_counted
returns c =
    let row = c.args.row in
    let leg = leg_with 2 row in
    rw (placed-none group_slot leg_counted c.args.self.now.rows leg refl, equity-slot row, group_slot_lem row 2 32 refl, c.add_amounts.ensures, c.from-group.ensures, c.specific_charge.ensures)
