-- What machine numbers must hold: the charges of a list of rows, from the sum of the rows' amounts; and what rows without shorts cost.
-- Assumes nothing.
use Prim.Native.Nat.{ℕ, suc, ◌+◌, ◌*◌, ◌≤◌, ◌<◌}
use mathlib.Core.Path.{◌≡◌, ap, ◌∙◌, fun_ext}
use mathlib.Core.List.{List}
use native.Mathlib.Nat.{mul-le-mul_left, mul-le-mul_right}
use native.Mathlib.Omega.{arith}
use Rattle.sums.specs.Sums.{span, sum_of, sum_at}
use Rattle.sums.proofs.Sums.{sum_of_plus, sum_of_times, sum_of≤, sum_of_rate, sum_at≤}
use Rattle.sums.specs.Every.{Every}
use Rattle.sums.proofs.Spans.{slots_within, slots_all, sum_room, sum_same}
use Rattle.ladder.specs.Position.{Position, Bands, gross, total}
use Rattle.ladder.specs.Table.{Percents, Table, AcceptedPercents, weight_in}
use Rattle.ladder.specs.Interest.{matches, zones, interest_figures}
use Rattle.ladder.specs.Rows.{Reading, weighing, positions_by, in_group, ladder_of, groups_of}
use Rattle.ladder.proofs.Matching.{same_position}
use Rattle.ladder.proofs.Totals.{total-sides, gross-sum}
use Rattle.ladder.proofs.AddsUp.{charge-within, charge-unopposed}
use Rattle.ladder.proofs.Carrying.{commodity-within}
use Rattle.ladder.proofs.Books.{weighted, interest_charge, commodity_charge, amount_of, grouped, ladder_of_weighted}

-- each row is counted at one index at most
pub positions_by_within : {Row : Type 0} (index long short : Row → ℕ) (n : ℕ) (rows : List Row)
    → gross (total (positions_by index long short rows) (span 0 n)) ≤ sum_of long rows + sum_of short rows
positions_by_within index long short n rows =
    let of : (_ → ℕ) → ℕ → ℕ = λ amount k. sum_at index amount k rows in
    omega (
      arith,
      gross-sum (positions_by index long short rows) (span 0 n),
      sum_of_plus (of long) (of short) (span 0 n),
      slots_within index long n rows,
      slots_within index short n rows,
    )

-- and at exactly one where each index is in the span
pub positions_by_all : {Row : Type 0} (index long short : Row → ℕ) (n : ℕ) {rows : List Row} → Every (λ row. index row < n) rows
    → total (positions_by index long short rows) (span 0 n) ≡ record { long = sum_of long rows; short = sum_of short rows }
positions_by_all index long short n {rows} below =
    total-sides (positions_by index long short rows) (span 0 n) ∙ same_position (slots_all index long n below) (slots_all index short n below)

module _ {Row : Type 0} (read : Reading Row) (n : ℕ) (rows : List Row) where
  pub groups-within : gross (total (groups_of read rows) (span 0 n)) ≤ sum_of (amount_of read) rows
  groups-within = omega (arith, positions_by_within read.group read.long read.short n rows, sum_of_plus read.long read.short rows)

  -- the ladders of all groups, and so that of one
  pub ladders_within : (many : ℕ) → sum_of (λ g. gross (total (ladder_of read g rows) (span 0 n))) (span 0 many) ≤ sum_of (amount_of read) rows
  ladders_within many =
      let of : (Row → ℕ) → ℕ → ℕ = λ amount g. sum_at read.group amount g rows in
      omega (
        arith,
        sum_of≤ _ (λ g. of read.long g + of read.short g) (span 0 many)
            (λ g m. positions_by_within read.band (in_group read g read.long) (in_group read g read.short) n rows),
        sum_of_plus (of read.long) (of read.short) (span 0 many),
        slots_within read.group read.long many rows,
        slots_within read.group read.short many rows,
        sum_of_plus read.long read.short rows,
      )

  pub ladder_within : (g : ℕ) → gross (total (ladder_of read g rows) (span 0 n)) ≤ sum_of (amount_of read) rows
  ladder_within g = omega (arith, sum_room (λ g. gross (total (ladder_of read g rows) (span 0 n))) g (suc g) (omega arith), ladders_within (suc g))

  -- a cost that is at most a rate of each ladder's gross
  grouped_within : (cost : Bands → ℕ) (rate : ℕ) → ((f : Bands) → cost f ≤ rate * gross (total f (span 0 n))) → (many : ℕ)
      → grouped read cost (span 0 many) rows ≤ rate * sum_of (amount_of read) rows
  grouped_within cost rate each many =
      let ladders : ℕ → ℕ = λ g. gross (total (ladder_of read g rows) (span 0 n)) in
      omega (
        arith,
        sum_of_rate rate (λ g. cost (ladder_of read g rows)) ladders (span 0 many) (λ g. each (ladder_of read g rows)),
        mul-le-mul_left rate (ladders_within many),
      )

-- ---- interest: no weight is above the most of a table, and no charge above 100%
module _ (table : Table) (most : ℕ) (weights : (band : ℕ) → weight_in table band ≤ most) where
  pub weighted_gross : (f : Bands) (list : List ℕ) → gross (total (weighted table f) list) ≤ most * gross (total f list)
  weighted_gross f list =
      omega (
        arith,
        gross-sum (weighted table f) list,
        ap (λ (n : ℕ). most * n) (gross-sum f list),
        sum_of_rate most (λ k. gross (weighted table f k)) (λ k. gross (f k)) list
            (λ k. omega (arith, mul-le-mul_right (f k).long (weights k), mul-le-mul_right (f k).short (weights k))),
      )

  pub general_within : {Row : Type 0} (read : Reading Row) → AcceptedPercents table.percents → (many : ℕ) (rows : List Row)
      → grouped (weighing table read) (interest_charge table) (span 0 many) rows ≤ 100 * most * sum_of (amount_of read) rows
  unfolding matches span
  general_within read ok many rows =
      rw (fun_ext (λ g. ap (interest_charge table) (ladder_of_weighted read table g rows)))
      (grouped_within read 15 rows (λ f. interest_charge table (weighted table f)) (100 * most)
      (λ f. omega (arith, charge-within table.percents ok zones (weighted table f), weighted_gross f (span 0 15))) many)

-- rows without shorts cost 100% of their longs
pub general_unopposed : {Row : Type 0} (read : Reading Row) (p : Percents) → AcceptedPercents p → (many : ℕ) {rows : List Row}
    → Every (λ row. read.band row < 15) rows → Every (λ row. read.group row < many) rows → sum_of read.short rows ≡ 0
    → grouped read (λ f. (interest_figures p f).charge) (span 0 many) rows ≡ 100 * sum_of read.long rows
unfolding span
general_unopposed read p ok many {rows} bands groups none =
    let of : ℕ → ℕ = λ g. sum_at read.group read.long g rows in
    sum_same _ (λ g. 100 * of g) many
    (λ g h.
    let whole = positions_by_all read.band (in_group read g read.long) (in_group read g read.short) 15 bands in
    charge-unopposed p ok zones (ladder_of read g rows) (ap (λ (a : Position). a.short) whole ∙ omega (arith, none, sum_at≤ read.group read.short g rows))
    ∙ ap (λ (a : Position). 100 * a.long) whole)
    ∙ sum_of_times 100 of (span 0 many)
    ∙ ap (λ (n : ℕ). 100 * n) (slots_all read.group read.long many groups)

-- ---- commodities
pub commodities_within : {Row : Type 0} (read : Reading Row) (many : ℕ) (rows : List Row)
    → grouped read commodity_charge (span 0 many) rows ≤ 186000 * sum_of (amount_of read) rows
commodities_within read many rows = grouped_within read 7 rows commodity_charge 186000 commodity-within many
