-- The ladders add up (P8): what the figures of the two ladder calls come to, over the rows of the book.
use Rattle.std.specs.Prelude.{ℕ, ◌+◌, ◌*◌, ◌≤◌, ◌≡◌, List}
use Rattle.sums.specs.Sums.{sum_of}
use Rattle.book.specs.declared.Row.{Row}
use Rattle.book.specs.Refusals.{last_group, refusal_of}
use Rattle.ladder.specs.declared.positions.Position.{Position}
use Rattle.ladder.specs.declared.InterestFigures.{InterestFigures}
use Rattle.ladder.specs.declared.CommodityFigures.{CommodityFigures}
use Rattle.ladder.specs.Position.{gross, absolute_net}
use Rattle.ladder.specs.declared.Table.{Table}
use Rattle.ladder.specs.Table.{weight_in}
use Rattle.ladder.specs.Interest.{match_sum}
use Rattle.table.specs.Loaded.{table_refusal, table_of}
use Rattle.charges.specs.Bands.{interest_band}
use Rattle.charges.specs.Charges.{of_group}
use Rattle.charges.specs.Report.{class_rows, interest_ladder_of, commodity_ladder_of}

-- the weighted positions of some interest rows together, on each side (document 01, The book file)
unfoldable pub weighted_sum : Table → List Row → Position
weighted_sum table rows =
    record {
      long = sum_of (λ row. weight_in table (interest_band row) * row.long) rows;
      short = sum_of (λ row. weight_in table (interest_band row) * row.short) rows;
    }

-- the amounts of some rows together, on each side, without weights
unfoldable pub plain_sum : List Row → Position
plain_sum rows = record { long = sum_of (λ row. row.long) rows; short = sum_of (λ row. row.short) rows }

-- ---- the interest ladder, its rows coming to a position
pub record InterestAddsUp (figures : InterestFigures) (position : Position) : Type 0 where
  pub is_gross : figures.matches.gross ≡ gross position
  pub adds_up : 2 * match_sum figures.matches + figures.matches.residual ≡ figures.matches.gross
  pub is_residual : figures.matches.residual ≡ absolute_net position
  pub least : 100 * figures.matches.residual ≤ figures.charge
  pub most : 2 * figures.charge ≤ 100 * (figures.matches.gross + figures.matches.residual)

-- for every accepted book and every currency, whatever zones it uses
abbrev pub InterestAddingUpHolds : Type 0
InterestAddingUpHolds =
    (table : List ℕ) → table_refusal table ≡ 0 → (s : List ℕ) → (refusal_of s).number ≡ 0 → (currency : ℕ) → currency ≤ last_group
    → InterestAddsUp (interest_ladder_of table s currency).figures (weighted_sum (table_of table) (of_group currency (class_rows s 1)))

-- ---- the commodities ladder, its rows coming to a position
pub record CommodityAddsUp (figures : CommodityFigures) (position : Position) : Type 0 where
  pub adds_up : 2 * figures.matches + figures.residual ≡ gross position
  pub is_residual : figures.residual ≡ absolute_net position
  pub is_charge : figures.charge ≡ 15000 * gross position + 135000 * figures.residual + 6000 * figures.carried

-- for every accepted book and every commodity
abbrev pub CommodityAddingUpHolds : Type 0
CommodityAddingUpHolds =
    (s : List ℕ) → (refusal_of s).number ≡ 0 → (commodity : ℕ) → commodity ≤ last_group
    → CommodityAddsUp (commodity_ladder_of s commodity).figures (plain_sum (of_group commodity (class_rows s 4)))
