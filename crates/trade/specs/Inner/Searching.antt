-- A ladder with one band open, and what a search over the amounts of that band asks for.
use Rattle.std.specs.Prelude.{ℕ, ◌+◌, ◌*◌, ◌≤◌, ◌<◌, ◌≡◌, List, length}
use Rattle.ladder.specs.declared.Table.{Table}
use Rattle.ladder.specs.declared.positions.Position.{Position}
use Rattle.ladder.specs.Position.{◌⊕◌, gross, at_band}
use Rattle.ladder.specs.declared.Percents.{Percents}
use Rattle.ladder.specs.declared.whole.Gathered.{Gathered}
use Rattle.ladder.specs.Table.{AcceptedPercents, weight_in}
use Rattle.ladder.specs.Interest.{interest_figures}
use Rattle.ladder.specs.Inner.Steps.{limit, band_count, TableBounds, Summed, gathered_gross, gathered_with, gathered_figures}
use Rattle.charges.specs.Inner.Tables.{most_gross, weighted_from, gross_from}
use Rattle.trade.specs.Trade.{on_side, most_trade, last_band}
use Rattle.trade.specs.declared.side.Side.{Side}
use Rattle.trade.specs.Inner.Sides.{side_number, excess_in}

-- ---- the open band
-- the zones without it, what stands in it, weighted, and the side and weight of what is added there
pub record Opening : Type 0 where
  pub zones : Gathered
  pub own : Position
  pub band : ℕ
  pub side : Side
  pub weight : ℕ
  pub percents : Percents

-- the charge with an amount in the open band
unfoldable pub open_charge : Opening → ℕ → ℕ
open_charge opened amount =
    (gathered_figures opened.percents (gathered_with opened.zones opened.band (opened.own ⊕ on_side (side_number opened.side) (opened.weight * amount)))).charge

-- the nets of the zones and what stands in the open band, put together: the net of the whole ladder
abbrev pub open_nets : Opening → Position
open_nets opened = opened.zones.first.nets ⊕ (opened.zones.second.nets ⊕ opened.zones.third.nets) ⊕ opened.own

abbrev pub excess_of : Opening → ℕ
excess_of opened = excess_in (side_number opened.side) (open_nets opened)

-- what is known of it: the zones add up, nothing wraps, and the charge falls, or stays, until what is added makes up the excess, and then rises, or stays
pub record Searchable (opened : Opening) : Type 0 where
  pub percents : AcceptedPercents opened.percents
  pub summed : Summed opened.zones
  pub room : gathered_gross opened.zones + gross opened.own + opened.weight * most_trade ≤ limit
  pub falling : (low high : ℕ) → low ≤ high → opened.weight * high ≤ excess_of opened → open_charge opened high ≤ open_charge opened low
  pub rising : (low high : ℕ) → low ≤ high → excess_of opened ≤ opened.weight * low → open_charge opened low ≤ open_charge opened high

-- the last amount that does not more than make up the excess, or the last of all
pub record TurnOf (opened : Opening) (turn : ℕ) : Type 0 where
  pub in_range : turn ≤ most_trade
  pub falls-to : opened.weight * turn ≤ excess_of opened
  pub rises_from : turn < most_trade → excess_of opened ≤ opened.weight * (turn + 1)

-- the weighted bands of a currency with the open one taken out
pub record OpenOf (table : Table) (positions : List Position) (band : ℕ) (side : Side) (opened : Opening) : Type 0 where
  pub charges : (amount : ℕ) → open_charge opened amount
      ≡ (interest_figures table.percents (λ k. weighted_from table positions 0 k ⊕ at_band band (on_side (side_number side) (weight_in table band * amount)) k)).charge

-- what is asked to open a band
pub record CanOpen (table : Table) (positions : List Position) (band : ℕ) : Type 0 where
  pub bounds : TableBounds table
  pub sized : length positions ≡ band_count
  pub fits : gross_from band_count positions 0 ≤ most_gross
  pub in_range : band ≤ last_band
