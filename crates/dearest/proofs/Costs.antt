-- What the dearest book costs by document 01's table: 205,000 mils for each unit of its rows.
-- Assumes nothing.
use mathlib.Core.Path.{◌≡◌, refl, ap, ◌∙◌}
use Prim.Native.Nat.{ℕ, ◌+◌, ◌*◌, ◌≤◌, ◌<◌}
use native.Mathlib.Nat.{mul-le-mul}
use native.Mathlib.Omega.{arith}
use lib.ListN.{replicate}
use Rattle.sums.specs.Sums.{span}
use Rattle.sums.proofs.Every.{every_replicate}
use Rattle.sums.proofs.Sums.{sum_of_replicate}
use Rattle.book.specs.declared.Row.{Row}
use Rattle.book.specs.Fields.{u16_at}
use Rattle.book.specs.Refusals.{most_rows, most_amount}
use Rattle.ladder.specs.Table.{weight_in}
use Rattle.table.specs.Loaded.{weight_at, table_of, standard_bytes}
use Rattle.table.proofs.Accepting.{standard_bounds}
use Rattle.charges.specs.Bands.{first_band, low_coupon, interest_band}
use Rattle.charges.specs.Weights.{interest_weight, specific_weight}
use Rattle.charges.specs.Charges.{specific_of, specific_charge, interest_general}
use Rattle.charges.specs.Inner.Slots.{group_count}
use Rattle.charges.specs.Report.{report_of}
use Rattle.charges.proofs.Rates.{interest_unopposed}
use Rattle.charges.proofs.StandardRates.{most_each, interest_least}
use Rattle.dearest.specs.Dearest.{dearest_row, dearest_book}
use Rattle.dearest.proofs.Whole.{Limits, dearest_rows, dearest_legs, dearest_accepted, dearest_many}

-- ---- its rows
module _ (rows most : ℕ) where
  specific : specific_charge 1 (replicate rows (dearest_row most)) ≡ 80000 * (rows * most)
  unfolding specific_charge specific_of specific_weight interest_weight dearest_row
  specific = omega (arith, sum_of_replicate (specific_of 1) rows (dearest_row most))

  weight : weight_in (table_of standard_bytes) (interest_band (dearest_row most)) ≡ 1250
  unfolding weight_in table_of weight_at span u16_at interest_band low_coupon first_band dearest_row
  weight = refl

  general : interest_general (table_of standard_bytes) (replicate rows (dearest_row most)) ≡ 125000 * (rows * most)
  unfolding dearest_row
  general =
      let grouped = every_replicate (λ row. row.group < group_count) rows (dearest_row most) (omega arith) in
      let weighted : Row → ℕ = λ row. weight_in (table_of standard_bytes) (interest_band row) * row.long in
      interest_unopposed (table_of standard_bytes) standard_bounds.percents grouped (sum_of_replicate (λ row. row.short) rows (dearest_row most) ∙ omega arith)
      ∙ omega (arith, sum_of_replicate weighted rows (dearest_row most), ap (λ (n : ℕ). rows * (n * most)) weight)

  -- ---- the book
  module _ (ok : Limits rows most) where
    -- 205,000 times so much is below 2 ^ 64
    pub dearest_fits : rows * most ≤ most_rows * most_amount
    dearest_fits = mul-le-mul ok.few ok.within

    pub dearest_costs : (report_of standard_bytes (dearest_book rows most)).total ≡ 205000 * (rows * most)
    unfolding dearest_row
    dearest_costs =
        let book = dearest_book rows most in
        let accepted = dearest_accepted rows most ok in
        let each = dearest_legs rows most (λ row. row.long + row.short ≤ most) (omega arith) in
        omega (
          arith,
          rw (dearest_rows rows most) at (interest_least book accepted),
          specific,
          general,
          rw (dearest_many rows most ok) at (most_each book accepted most each),
        )
