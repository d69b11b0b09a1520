-- Where the sums of a leg stand in the code's tables, and what the leg adds to each.
use Rattle.std.specs.Prelude.{ℕ, ◌+◌, ◌-◌, ◌*◌, ◌≤◌, ◌<◌, ◌≡◌, cond, ◌||◌, List, eqb, length, get_or, set, replicate}
use Rattle.sums.specs.Inner.Tables.{tally, placed}
use Rattle.book.specs.declared.Row.{Row}
use Rattle.book.specs.Legs.{Leg}
use Rattle.book.specs.Refusals.{last_group, most_rows, most_amount}
use Rattle.ladder.specs.Commodity.{commodity_band_count}
use Rattle.ladder.specs.declared.positions.Position.{Position}
use Rattle.ladder.specs.Position.{◌⊕◌, empty}
use Rattle.ladder.specs.Inner.Steps.{band_count, bands, longs_of, shorts_of}
use Rattle.charges.specs.Bands.{band_in}
use Rattle.charges.specs.Charges.{eight_per_cent, specific_of}
pub use Rattle.charges.specs.declared.adding.Sums.{Sums}

-- ---- the slots
-- the groups of a class
abbrev pub group_count : ℕ
group_count = last_group + 1

-- after the slots of interest those of commodities, of equity and of foreign exchange
abbrev pub commodity_first : ℕ
commodity_first = group_count * band_count

abbrev pub equity_first : ℕ
equity_first = commodity_first + group_count * commodity_band_count

abbrev pub exchange_first : ℕ
exchange_first = equity_first + group_count

abbrev pub slot_count : ℕ
slot_count = exchange_first + group_count

-- the slot of a band of a group of a class
unfoldable pub slot_at : ℕ → ℕ → ℕ → ℕ
slot_at class group band =
    cond (eqb class 1) (band_count * group + band)
    (cond (eqb class 4) (commodity_first + commodity_band_count * group + band)
    (cond (eqb class 2) (equity_first + group) (exchange_first + group)))

unfoldable pub leg_slot : Leg → ℕ
leg_slot leg = slot_at leg.class leg.row.group (band_in leg.class leg.row)

-- the slot of a leg's class and group, in the tables that have one for each
abbrev pub group_slots : ℕ
group_slots = 4 * group_count

unfoldable pub group_slot : Leg → ℕ
group_slot leg = group_count * (leg.class - 1) + leg.row.group

-- ---- what a leg adds to each table
abbrev pub leg_with : ℕ → Row → Leg
leg_with class row = record { class = class; row = row }

abbrev pub leg_long : Leg → ℕ
leg_long leg = leg.row.long

abbrev pub leg_short : Leg → ℕ
leg_short leg = leg.row.short

abbrev pub leg_specific : Leg → ℕ
leg_specific leg = specific_of leg.class leg.row

-- the rows of a currency and of a commodity are counted: these classes have ladders
unfoldable pub leg_counted : Leg → ℕ
leg_counted leg = cond (eqb leg.class 1 || eqb leg.class 4) 1 0

-- ---- the tables
-- the position of a row
abbrev pub amounts_of : Row → Position
amounts_of row = record { long = row.long; short = row.short }

-- the sums of some legs: longs and shorts by slot, and by class and group the specific charges and the rows of ladders
pub record LegSums (legs : List Leg) (positions : List Position) (specifics rows : List ℕ) : Type 0 where
  pub is_longs : longs_of positions ≡ tally leg_slot leg_long (replicate slot_count 0) legs
  pub is_shorts : shorts_of positions ≡ tally leg_slot leg_short (replicate slot_count 0) legs
  pub is_specifics : specifics ≡ tally group_slot leg_specific (replicate group_slots 0) legs
  pub is_rows : rows ≡ tally group_slot leg_counted (replicate group_slots 0) legs

-- sums of no rows: nothing
pub record Clear (sums : Sums) : Type 0 where
  pub no_positions : sums.positions ≡ replicate slot_count empty
  pub no_specifics : sums.specifics ≡ replicate group_slots 0
  pub no_rows : sums.rows ≡ replicate group_slots 0

-- a table in which each slot has room for what one leg more adds at most, up to 4,000 legs
pub record Roomy (size most : ℕ) (table : List ℕ) : Type 0 where
  pub sized : length table ≡ size
  pub room : (k : ℕ) → k < size → get_or table k 0 + most ≤ most * most_rows

pub record Room (sums : Sums) : Type 0 where
  pub in_longs : Roomy slot_count most_amount (longs_of sums.positions)
  pub in_shorts : Roomy slot_count most_amount (shorts_of sums.positions)
  pub in_specifics : Roomy group_slots (eight_per_cent * most_amount) sums.specifics
  pub in_rows : Roomy group_slots 1 sums.rows

-- the sums with one leg more
unfoldable pub with_leg : Leg → Sums → Sums
with_leg leg sums =
    record {
      positions = set sums.positions (leg_slot leg) (bands sums.positions (leg_slot leg) ⊕ amounts_of leg.row);
      specifics = placed group_slot leg_specific sums.specifics leg;
      rows = placed group_slot leg_counted sums.rows leg;
    }
