-- `trade::search::Open::charge` meets its contract: the open band with the amount is within the ladder's limit.
use Prim.Native.Nat.{◌*◌, ◌≤◌}
use mathlib.Core.Path.{◌∙◌, ap}
use native.Mathlib.Nat.{mul-le-mul_left}
use native.Mathlib.Omega.{arith}
use borrow.Author.Rules.{rules}
use Rattle.ladder.specs.declared.InterestFigures.{InterestFigures}
use Rattle.ladder.specs.Inner.Steps.{gathered_with, gathered_figures}
use Rattle.trade.specs.Trade.{most_trade}
use Rattle.trade.specs.Inner.Searching.{open_charge}
use Rattle.trade.proofs.search.Open.charge.Goals.{Start}
use Rattle.trade.proofs.search.Open.charge.Goals as goal

weighted≤ : (c : Start) → c.args.self.weight * c.args.amount ≤ c.args.self.weight * most_trade
weighted≤ c = mul-le-mul_left c.args.self.weight c.requires

pub overflow_mul-self : goal.overflow_mul-self
overflow_mul-self c =
    let within = weighted≤ (goal.at.overflow_mul-self c).Start in
    let room = c.args.self.searchable.room in
    search rules

pub added-position-requires : goal.added-position-requires
added-position-requires c = omega (arith, weighted≤ (goal.at.added-position-requires c).Start, c.args.self.searchable.room)

pub with_band-zones-requires : goal.with_band-zones-requires
with_band-zones-requires c =
    record { summed = c.args.self.searchable.summed; room = omega (arith, weighted≤ (goal.at.with_band-zones-requires c).Start, c.args.self.searchable.room, c.added-position.ensures.gross) }

pub returns : goal.returns
unfolding open_charge
returns c =
    let self = c.args.self in
    let zones = c.with_band-zones.ensures.0 ∙ ap (gathered_with self.zones self.band) c.added-position.ensures.is in
    ap (λ (figures : InterestFigures). figures.charge) (c.figures.ensures ∙ ap (gathered_figures self.percents) zones)
