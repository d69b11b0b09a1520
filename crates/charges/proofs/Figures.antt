-- Bands that agree with a group's ladder have its figures; and the sums of one group's rows are its ladder.
-- Assumes nothing.
use mathlib.Core.Path.{◌≡◌, sym, ap, ◌∙◌}
use mathlib.Core.List.{List}
use Prim.Native.Nat.{ℕ, ◌≤◌}
use native.Mathlib.Nat.{zero-add}
use native.Mathlib.Omega.{arith}
use lib.ListN.{length, replicate, length-replicate}
use Rattle.sums.specs.Every.{Every}
use Rattle.sums.specs.Inner.Tables.{tally}
use Rattle.sums.proofs.Tables.{length_tally, tallied}
use Rattle.book.specs.declared.Row.{Row}
use Rattle.book.specs.Refusals.{most_rows}
use Rattle.book.specs.Accepted.{Clean}
use Rattle.ladder.specs.declared.positions.Position.{Position}
use Rattle.ladder.specs.Position.{Bands}
use Rattle.ladder.specs.declared.Table.{Table}
use Rattle.ladder.specs.Table.{weight_in}
use Rattle.ladder.specs.Interest.{interest_figures}
use Rattle.ladder.specs.Commodity.{commodity_band_count, commodity_figures}
use Rattle.ladder.specs.Rows.{weighing, in_group, ladder_of}
use Rattle.ladder.specs.Inner.Steps.{band_count}
use Rattle.ladder.proofs.Matching.{same_position}
use Rattle.ladder.proofs.Arrays.{bands_by, sized_by}
use Rattle.ladder.proofs.Agreeing.{Agree, gross-agree, interest_agree, commodity-agree}
use Rattle.ladder.proofs.Books.{ladder_of_weighted}
use Rattle.ladder.proofs.Bounds.{ladder_within}
use Rattle.charges.specs.Bands.{band_in}
use Rattle.charges.specs.Charges.{reading, interest_figures_of, commodity_figures_of}
use Rattle.charges.specs.Inner.Tables.{most_gross, bands_from, gross_from, weighted, weighted_from}
use Rattle.charges.specs.Report.{class_rows}
use Rattle.charges.specs.Inner.Ladders.{GroupSums}
use Rattle.charges.specs.Inner.Answers.{SumsGiven}
use Rattle.charges.proofs.Legs.{amounts, amounts_within}

-- ---- bands from a slot on that agree with the ladder of a group
module _ (positions : List Position) (first g : ℕ) (rows : List Row) where
  pub weighted_agree : (table : Table) → Agree band_count (bands_from positions first) (ladder_of (reading 1) g rows)
      → Agree band_count (weighted_from table positions first) (ladder_of (weighing table (reading 1)) g rows)
  weighted_agree table agree =
      record {
        below = λ k h.
            ap (weighted (weight_in table k)) (agree.below k h)
            ∙ ap (λ (f : Bands). f k) (sym (ladder_of_weighted (reading 1) table g rows));
      }

  pub interest_from : (table : Table) → Agree band_count (bands_from positions first) (ladder_of (reading 1) g rows)
      → interest_figures table.percents (weighted_from table positions first) ≡ interest_figures_of table g rows
  unfolding interest_figures_of
  interest_from table agree = interest_agree table.percents (weighted_agree table agree)

  pub commodity-from : Agree commodity_band_count (bands_from positions first) (ladder_of (reading 4) g rows) → commodity_figures (bands_from positions first) ≡ commodity_figures_of g rows
  unfolding commodity_figures_of
  commodity-from agree = commodity-agree agree

  pub ladder_fits : (class n : ℕ) → Agree n (bands_from positions first) (ladder_of (reading class) g rows) → Every (Clean class) rows → length rows ≤ most_rows
      → gross_from n positions first ≤ most_gross
  unfolding amounts
  ladder_fits class n agree clean few = omega (arith, gross-agree agree, ladder_within (reading class) n rows g, amounts_within class clean)

-- the sums of one group are its ladder
pub group_agree : (class g : ℕ) (rows : List Row) (positions : List Position) → GroupSums class g rows positions → Agree band_count (bands_from positions 0) (ladder_of (reading class) g rows)
group_agree class g rows positions of =
    record {
      below = λ k h.
          rw zero-add
          (bands_by positions of.is_longs of.is_shorts k
          ∙ same_position (tallied (band_in class) (in_group (reading class) g (λ row. row.long)) band_count rows k h)
          (tallied (band_in class) (in_group (reading class) g (λ row. row.short)) band_count rows k h));
    }

pub group_sized : (class g : ℕ) (rows : List Row) (positions : List Position) → GroupSums class g rows positions → length positions ≡ band_count
group_sized class g rows positions of = sized_by positions of.is_longs (sized (λ row. row.long))
  where
    sized : (amount : Row → ℕ) → length (tally (band_in class) (in_group (reading class) g amount) (replicate band_count 0) rows) ≡ band_count
    sized amount = length_tally (band_in class) (in_group (reading class) g amount) (replicate band_count 0) rows ∙ length-replicate {A = ℕ} band_count 0

-- the sums that a ladder call is given are its group's ladder, and fit
module _ {s : List ℕ} {class group : ℕ} {positions : List Position} (given : SumsGiven s class group positions) where
  pub given_sized : length positions ≡ band_count
  given_sized = group_sized class group (class_rows s class) positions given.sums

  pub given_agree : (n : ℕ) → n ≤ band_count → Agree n (bands_from positions 0) (ladder_of (reading class) group (class_rows s class))
  given_agree n few = record { below = λ k h. (group_agree class group (class_rows s class) positions given.sums).below k (omega arith) }

  pub given_fits : (n : ℕ) → n ≤ band_count → gross_from n positions 0 ≤ most_gross
  given_fits n few = ladder_fits positions 0 group (class_rows s class) class n (given_agree n few) given.clean given.few
