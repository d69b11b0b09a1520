-- The ladders add up (P8): the figures of the ladder calls, for every accepted table, book and group.
-- Assumes nothing.
use Prim.Native.Nat.{ℕ, ◌≤◌}
use mathlib.Core.Path.{◌≡◌, sym, ap, ◌∙◌}
use mathlib.Core.List.{List}
use native.Mathlib.Omega.{arith}
use borrow.Author.Tests.{le-ltb}
use Rattle.sums.specs.Sums.{sum_of, span}
use Rattle.sums.proofs.Every.{every_all}
use Rattle.book.specs.declared.Row.{Row}
use Rattle.book.specs.Refusals.{last_group}
use Rattle.ladder.specs.Position.{gross, absolute_net, total}
use Rattle.ladder.specs.declared.Table.{Table}
use Rattle.ladder.specs.Interest.{zones, matches}
use Rattle.ladder.specs.Commodity.{commodity_bands}
use Rattle.ladder.specs.Rows.{weighing, ladder_of}
use Rattle.ladder.proofs.Matching.{same_position}
use Rattle.ladder.proofs.AddsUp.{adds_up}
use Rattle.ladder.proofs.Carrying.{carry-gross, carry-residual, carry-charge}
use Rattle.ladder.proofs.Bounds.{positions_by_all}
use Rattle.ladder.specs.Inner.Steps.{TableBounds}
use Rattle.table.specs.Loaded.{table_of}
use Rattle.table.proofs.Accepting.{described, accepted_table}
use Rattle.charges.specs.Bands.{band_in}
use Rattle.charges.specs.Charges.{reading, of_group, interest_figures_of, commodity_figures_of}
use Rattle.charges.specs.Report.{class_rows, before, ladder_refusal, interest_ladder_of, commodity_ladder_of}
use Rattle.charges.proofs.Currencies.{alone_sum}
use Rattle.charges.proofs.Places.{bands_in, band_within}
use Rattle.claims.specs.AddingUp.{weighted_sum, plain_sum, InterestAddsUp, InterestAddingUpHolds, CommodityAddsUp, CommodityAddingUpHolds}

-- what a group's ladder comes to is what its rows do: each lies in one band
ladder_sum : (class g : ℕ) → 1 ≤ class → class ≤ 4 → (long short : Row → ℕ) (rows : List Row)
    → total (ladder_of (record { group = λ row. row.group; band = band_in class; long = long; short = short }) g rows) (span 0 (bands_in class))
    ≡ record { long = sum_of long (of_group g rows); short = sum_of short (of_group g rows) }
ladder_sum class g low high long short rows =
    positions_by_all (band_in class) _ _ (bands_in class) (every_all (λ row. band_within row class low high) rows)
    ∙ same_position (sym (alone_sum g long rows)) (sym (alone_sum g short rows))

-- ---- interest
currency-sum : (table : Table) (g : ℕ) (rows : List Row) → total (ladder_of (weighing table (reading 1)) g rows) (span 0 15) ≡ weighted_sum table (of_group g rows)
unfolding weighted_sum bands_in band_in
currency-sum table g rows = ladder_sum 1 g (omega arith) (omega arith) (weighing table (reading 1)).long (weighing table (reading 1)).short rows

figures_add_up : (table : Table) → TableBounds table → (g : ℕ) (rows : List Row) → InterestAddsUp (interest_figures_of table g rows) (weighted_sum table (of_group g rows))
unfolding interest_figures_of span matches
figures_add_up table ok g rows =
    let all = adds_up table.percents ok.percents zones (ladder_of (weighing table (reading 1)) g rows) in
    let whole = currency-sum table g rows in
    record {
      is_gross = ap gross whole;
      adds_up = all.gross;
      is_residual = all.residual ∙ ap absolute_net whole;
      least = all.least;
      most = all.most;
    }

pub interest_adding_up : InterestAddingUpHolds
unfolding interest_ladder_of ladder_refusal before
interest_adding_up table fine s none currency h =
    simp (le-ltb last_group currency h, fine, none) (figures_add_up (table_of table) (accepted_table table (described table fine)) currency (class_rows s 1))

-- ---- commodities
commodity-sum : (g : ℕ) (rows : List Row) → total (ladder_of (reading 4) g rows) commodity_bands ≡ plain_sum (of_group g rows)
unfolding plain_sum bands_in
commodity-sum g rows = ladder_sum 4 g (omega arith) (omega arith) (λ row. row.long) (λ row. row.short) rows

commodity-adds_up : (g : ℕ) (rows : List Row) → CommodityAddsUp (commodity_figures_of g rows) (plain_sum (of_group g rows))
unfolding commodity_figures_of
commodity-adds_up g rows =
    let f = ladder_of (reading 4) g rows in
    let whole = commodity-sum g rows in
    let same = ap gross whole in
    record {
      adds_up = carry-gross f commodity_bands ∙ same;
      is_residual = carry-residual f commodity_bands ∙ ap absolute_net whole;
      is_charge = omega (arith, carry-charge f commodity_bands, carry-residual f commodity_bands, same);
    }

pub commodity-adding_up : CommodityAddingUpHolds
unfolding commodity_ladder_of ladder_refusal
commodity-adding_up s none commodity h = simp (le-ltb last_group commodity h, none) (commodity-adds_up commodity (class_rows s 4))
