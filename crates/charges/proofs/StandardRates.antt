-- What rows cost at most by document 01's table, for each unit of their amounts; and so what a book costs.
-- Assumes nothing.
use mathlib.Core.Path.{◌≡◌, sym, ap, ◌∙◌}
use mathlib.Core.List.{List, map, flat_map}
use Prim.Native.Nat.{ℕ, ◌+◌, ◌*◌, ◌≤◌}
use native.Mathlib.Omega.{arith}
use lib.ListN.{length}
use Rattle.sums.specs.Sums.{sum_of}
use Rattle.sums.specs.Every.{Every}
use Rattle.sums.proofs.Every.{every_bound}
use Rattle.sums.proofs.Sums.{sum_of_append, sum_of_map}
use Rattle.book.specs.declared.Row.{Row}
use Rattle.book.specs.Rows.{rows_of, decode}
use Rattle.book.specs.Legs.{Leg, leg_of, legs_of}
use Rattle.book.specs.Accepted.{Accepted}
use Rattle.book.proofs.Walking.{class_rows_lem}
use Rattle.table.specs.Loaded.{table_of, standard_bytes}
use Rattle.table.proofs.Accepting.{standard_accepted, standard_bounds, standard_most}
use Rattle.charges.specs.Charges.{specific_charge, interest_general, equity_general, interest_risk, equity_risk}
use Rattle.charges.specs.Report.{class_rows, report_with, charged_report, report_of}
use Rattle.charges.proofs.Legs.{amounts, specific_within}
use Rattle.charges.proofs.Rates.{interest_rate, equity-rate, exchange_rate, commodity-rate}
use Rattle.charges.proofs.Reporting.{accepted_report}

-- ---- the rows of a class; foreign exchange and commodities have their rates in Rates
-- 8% specific, and 12.5% general
interest_most : (rows : List Row) → specific_charge 1 rows + interest_general (table_of standard_bytes) rows ≤ 205000 * amounts rows
unfolding specific_charge
interest_most rows = omega (arith, specific_within 1 rows, interest_rate (table_of standard_bytes) 1250 standard_most standard_bounds.percents rows)

-- 8% specific, and 8% general
equity-most : (rows : List Row) → specific_charge 2 rows + equity_general rows ≤ 160000 * amounts rows
unfolding specific_charge
equity-most rows = omega (arith, specific_within 2 rows, equity-rate rows)

-- ---- a book
-- the amount of a leg
abbrev pub leg_amount : Leg → ℕ
leg_amount leg = leg.row.long + leg.row.short

module _ (s : List ℕ) where
  class_amounts_lem : (class : ℕ) → 1 ≤ class → class ≤ 4 → sum_of leg_amount (map (leg_of class) (rows_of s class)) ≡ amounts (class_rows s class)
  unfolding amounts
  class_amounts_lem class low high =
      sum_of_map leg_amount (leg_of class) (rows_of s class) ∙ sym (ap amounts (class_rows_lem s class low high) ∙ sum_of_map (λ row. row.long + row.short) decode (rows_of s class))

  all_amounts : sum_of leg_amount (legs_of s) ≡ amounts (class_rows s 1) + amounts (class_rows s 2) + amounts (class_rows s 3) + amounts (class_rows s 4)
  unfolding legs_of flat_map sum_of
  all_amounts =
      simp sum_of_append
      (omega (
        arith,
        class_amounts_lem 1 (omega arith) (omega arith),
        class_amounts_lem 2 (omega arith) (omega arith),
        class_amounts_lem 3 (omega arith) (omega arith),
        class_amounts_lem 4 (omega arith) (omega arith),
      ))

  module _ (ok : Accepted s) where
    -- no row costs more than other paper of the last band
    total-most : (report_of standard_bytes s).total ≤ 205000 * sum_of leg_amount (legs_of s)
    unfolding charged_report report_with interest_risk equity_risk
    total-most =
        rw (accepted_report standard_bytes s standard_accepted ok)
        (omega (
          arith,
          all_amounts,
          interest_most (class_rows s 1),
          equity-most (class_rows s 2),
          exchange_rate (class_rows s 3),
          commodity-rate (class_rows s 4),
        ))

    -- of rows of at most an amount each
    pub most_each : (most : ℕ) → Every (λ leg. leg_amount leg ≤ most) (legs_of s) → (report_of standard_bytes s).total ≤ 205000 * (length (legs_of s) * most)
    most_each most each = omega (arith, total-most, every_bound leg_amount most (λ leg h. h) each)

    -- and no less than its interest rows
    pub interest_least : specific_charge 1 (class_rows s 1) + interest_general (table_of standard_bytes) (class_rows s 1) ≤ (report_of standard_bytes s).total
    unfolding charged_report report_with interest_risk equity_risk
    interest_least = rw (accepted_report standard_bytes s standard_accepted ok) (omega arith)
