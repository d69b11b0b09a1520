-- What the code reads out of its tables of sums.
use Rattle.std.specs.Prelude.{ℕ, ◌+◌, ◌*◌, ◌≤◌, ◌≡◌, cond, List, [], ◌∷◌, eqb, get_or, take}
use Rattle.sums.specs.Sums.{span}
use Rattle.book.specs.Refusals.{most_rows, most_amount}
use Rattle.ladder.specs.declared.positions.Position.{Position}
use Rattle.ladder.specs.Position.{Bands, empty, gross, total}
use Rattle.ladder.specs.declared.Table.{Table}
use Rattle.ladder.specs.Table.{weight_in}
use Rattle.ladder.specs.Commodity.{commodity_band_count}
use Rattle.ladder.specs.Inner.Steps.{band_count}
use Rattle.charges.specs.Charges.{groups}
use Rattle.charges.specs.Inner.Slots.{group_count, commodity_first}
pub use Rattle.charges.specs.declared.tables.Used.{Used}

-- no class's gross is above this: 4,000 rows of the largest amount; nor its specific charge above 8% of it
abbrev pub most_gross : ℕ
most_gross = most_amount * most_rows

-- the bands from a slot on
abbrev pub bands_from : List Position → ℕ → Bands
bands_from positions first = λ k. get_or positions (first + k) empty

-- what so many bands from a slot on come to on both sides
abbrev pub gross_from : ℕ → List Position → ℕ → ℕ
gross_from many positions first = gross (total (bands_from positions first) (span 0 many))

-- a position times its weight; and the weighted bands from a slot on
abbrev pub weighted : ℕ → Position → Position
weighted weight position = record { long = weight * position.long; short = weight * position.short }

abbrev pub weighted_from : Table → List Position → ℕ → Bands
weighted_from table positions first = λ k. weighted (weight_in table k) (bands_from positions first k)

-- the first slot of a currency, and of a commodity
abbrev pub currency_at : ℕ → ℕ
currency_at group = band_count * group

abbrev pub commodity_at : ℕ → ℕ
commodity_at group = commodity_first + commodity_band_count * group

-- what a commodity's bands come to, from a slot on; and the position of each commodity, whatever its bands
abbrev pub band_sum : List Position → ℕ → Position
band_sum positions first = total (bands_from positions first) (span 0 commodity_band_count)

abbrev pub commodity_groups : List Position → Bands
commodity_groups positions = λ group. band_sum positions (commodity_at group)

-- the groups of a list that are counted, in their order
unfoldable pub counted_groups : (ℕ → ℕ) → List ℕ → List ℕ
counted_groups count [] = []
counted_groups count (group ∷ list) = cond (eqb (count group) 0) (counted_groups count list) (group ∷ counted_groups count list)

-- all counted groups of a class at the front of a list; what stands after them is free
pub record UsedOf (count : ℕ → ℕ) (used : Used) : Type 0 where
  pub few : used.many ≤ group_count
  pub is : take used.many used.list ≡ counted_groups count groups
