-- `charges::adding::Sums::add_exchange` meets its contract: the slot is that of the leg.
use Rattle.std.proofs.Common.{refl, arith}
use Rattle.sums.proofs.Tables.{placed-none}
use Rattle.charges.specs.Weights.{specific_weight}
use Rattle.charges.specs.Charges.{specific_of}
use Rattle.charges.specs.Inner.Slots.{leg_with, group_slot, leg_specific, leg_counted, with_leg}
use Rattle.charges.proofs.Places.{exchange_slot}
use Rattle.charges.proofs.adding.Sums.add_exchange.Goals as goal

pub returns : goal.returns
unfolding with_leg leg_counted specific_of specific_weight
returns c =
    let row = c.args.row in
    let sums = c.args.self.now in
    let leg = leg_with 3 row in
    rw (placed-none group_slot leg_counted sums.rows leg refl, placed-none group_slot leg_specific sums.specifics leg (omega arith), exchange_slot row, c.add_amounts.ensures, c.from.ensures)
