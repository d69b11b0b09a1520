-- `charges::adding::Sums::add_commodity` meets its contract: the slots are those of the leg, and have room for it.
use Rattle.std.proofs.Common.{refl, arith}
use Rattle.sums.proofs.Tables.{placed-none}
use Rattle.charges.specs.Weights.{specific_weight}
use Rattle.charges.specs.Charges.{specific_of}
use Rattle.charges.specs.Inner.Slots.{leg_with, group_slot, leg_specific, leg_counted, with_leg}
use Rattle.charges.proofs.Places.{commodity-slot, group_slot_lem}
use Rattle.charges.proofs.adding.Sums.add_commodity.Goals as goal

pub returns : goal.returns
unfolding with_leg leg_counted specific_of specific_weight
returns c =
    let row = c.args.row in
    let leg = leg_with 4 row in
    rw (placed-none group_slot leg_specific c.args.self.now.specifics leg (omega arith), commodity-slot row, group_slot_lem row 4 96 refl, c.add_amounts.ensures, c.from-group.ensures, c.commodity_band-band.ensures.0)
