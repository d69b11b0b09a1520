-- From what a pass took to the report.
-- Assumes nothing.
use mathlib.Core.Path.{◌≡◌, ap, ◌∙◌}
use mathlib.Core.Bool.{Bool, true, false, cond}
use mathlib.Core.List.{List, map}
use Prim.Native.Nat.{ℕ, ◌+◌, ◌*◌, ◌≤◌}
use native.Mathlib.Omega.{arith}
use lib.Dec.{eqb}
use lib.ListN.{length, get_or, length-replicate}
use borrow.Author.Tests.{eq-eqb, ne_eqb}
use Rattle.sums.specs.Sums.{sum_of}
use Rattle.book.specs.Counts.{count_in, count_of_rows}
use Rattle.book.specs.Legs.{legs_of}
use Rattle.book.specs.Refusals.{refused, refusal_of}
use Rattle.std.proofs.Common.{Result, Ok, Err}
use Rattle.std.specs.Result.{IsErrAnd}
use Rattle.book.specs.declared.reasons.Refused.{Refused}
use Rattle.book.specs.Reasons.{number_of, numbers_of, at_start}
use Rattle.book.specs.declared.reasons.Reason.{Reason}
use Rattle.book.specs.Accepted.{Accepted}
use Rattle.book.proofs.Numbers.{some_of}
use Rattle.book.proofs.Handing.{refused_accepts}
use Rattle.book.specs.Parts.{accepts}
use Rattle.ladder.specs.declared.Table.{Table}
use Rattle.ladder.specs.Table.{most_weight}
use Rattle.ladder.specs.Inner.Steps.{TableBounds}
use Rattle.table.specs.Loaded.{table_refusal, table_of}
use Rattle.charges.specs.Charges.{specific_charge, interest_general, equity_general, exchange_general, commodity_general, interest_risk, equity_risk, by_currency, eight_per_cent, groups, currencies}
use Rattle.charges.specs.Report.{Report, class_rows, report_with, refused_report, charged_report, before, report_of}
use Rattle.ladder.specs.Interest.{interest_figures}
use Rattle.ladder.specs.Commodity.{commodity_figures}
use Rattle.ladder.specs.Nets.{absolute_nets, shorthand}
use Rattle.charges.specs.Inner.Slots.{group_count, equity_first, exchange_first, Sums, LegSums}
use Rattle.charges.specs.Inner.Tables.{bands_from, weighted_from, currency_at, commodity_at}
use Rattle.charges.specs.Inner.Answers.{most_total, reported, report_by}
use Rattle.charges.proofs.Legs.{amounts_within, specific_within}
use Rattle.charges.proofs.Rates.{interest_rate, equity-rate, exchange_rate, commodity-rate}
use Rattle.charges.proofs.Currencies.{specifics_sum, generals_sum, currencies-many, currency-sum}
use Rattle.book.proofs.Acceptance.{refused-with_none}
use Rattle.book.proofs.ClassRows.{class_size, rows_clean}
use Rattle.charges.proofs.Costs.{rows_grouped, Costs, costs, generals_are}

-- ---- the report
-- no total is over 280,000 mils for each unit of 4,000 rows of the largest amount
pub total-fits : (table : Table) → TableBounds table → (s : List ℕ) → Accepted s
    → specific_charge 1 (class_rows s 1) + interest_general table (class_rows s 1) + specific_charge 2 (class_rows s 2) + equity_general (class_rows s 2)
    + exchange_general (class_rows s 3) + commodity_general (class_rows s 4) ≤ most_total
unfolding specific_charge count_of_rows count_in
total-fits table ok s of =
    omega (
      arith,
      of.few,
      class_size s of 1 (omega arith) (omega arith),
      class_size s of 2 (omega arith) (omega arith),
      class_size s of 3 (omega arith) (omega arith),
      class_size s of 4 (omega arith) (omega arith),
      amounts_within 1 (rows_clean s of 1 (omega arith) (omega arith)),
      amounts_within 2 (rows_clean s of 2 (omega arith) (omega arith)),
      amounts_within 3 (rows_clean s of 3 (omega arith) (omega arith)),
      amounts_within 4 (rows_clean s of 4 (omega arith) (omega arith)),
      specific_within 1 (class_rows s 1),
      specific_within 2 (class_rows s 2),
      interest_rate table most_weight ok.weights ok.percents (class_rows s 1),
      equity-rate (class_rows s 2),
      exchange_rate (class_rows s 3),
      commodity-rate (class_rows s 4),
    )

-- the interest charges of a book by currency
pub record Lists (table : Table) (s specifics generals : List ℕ) : Type 0 where
  pub specifics_are : specifics ≡ by_currency (specific_charge 1) (class_rows s 1)
  pub generals_are : generals ≡ by_currency (interest_general table) (class_rows s 1)

-- each comes to the charge that it splits
module _ (table : Table) (s specifics generals : List ℕ) (of : Accepted s) (lists : Lists table s specifics generals) where
  pub specifics_total : sum_of (λ entry. entry) specifics ≡ specific_charge 1 (class_rows s 1)
  specifics_total =
      rw lists.specifics_are (currency-sum (specific_charge 1) (class_rows s 1) ∙ specifics_sum (rows_grouped s of 1 (omega arith) (omega arith)))

  pub generals_total : sum_of (λ entry. entry) generals ≡ interest_general table (class_rows s 1)
  generals_total = rw lists.generals_are (currency-sum (interest_general table) (class_rows s 1) ∙ generals_sum table (class_rows s 1))

-- of any bytes each list has an entry for each currency
pub record ListsSized (report : Report) : Type 0 where
  pub specifics_many : length report.specifics ≡ group_count
  pub generals_many : length report.generals ≡ group_count

pub lists_sized : (table s : List ℕ) → ListsSized (report_of table s)
unfolding report_of charged_report report_with refused_report
lists_sized table s = go (eqb (before (table_refusal table) (refusal_of s)).number 0)
  where
    go : (test : Bool) → ListsSized (cond test (charged_report (table_of table) s) (refused_report (before (table_refusal table) (refusal_of s))))
    go true =
        record { specifics_many = currencies-many (specific_charge 1) (class_rows s 1); generals_many = currencies-many (interest_general (table_of table)) (class_rows s 1) }
    go false = record { specifics_many = length-replicate {A = ℕ} group_count 0; generals_many = length-replicate {A = ℕ} group_count 0 }

-- a refused table, and one that was loaded
pub table_refused : (table s : List ℕ) (answer : Result Report Refused) (reason : Reason) → IsErrAnd answer (λ y. y ≡ at_start reason) → number_of reason ≡ table_refusal table → reported answer ≡ report_of table s
unfolding reported report_of before numbers_of refused
table_refused table s (Ok report) reason h e = absurd h
table_refused table s (Err own) reason h e = rw (h, e) (simp (ne_eqb _ _ (some_of reason e)))

pub table_loaded : (table s : List ℕ) → table_refusal table ≡ 0 → report_by (table_of table) s ≡ report_of table s
unfolding report_of report_by before accepts
table_loaded table s none = simp none

-- the report of an accepted book, by an accepted table
pub accepted_report : (table s : List ℕ) → table_refusal table ≡ 0 → Accepted s → report_of table s ≡ charged_report (table_of table) s
unfolding report_of before refused
accepted_report table s fine ok = simp (fine, refused-with_none s ok)

-- the six charges of a book
pub record Six (table : Table) (s : List ℕ) (p g q h x y : ℕ) : Type 0 where
  pub interest_specific : p ≡ specific_charge 1 (class_rows s 1)
  pub interest_general_lem : g ≡ interest_general table (class_rows s 1)
  pub equity-specific : q ≡ specific_charge 2 (class_rows s 2)
  pub equity-general : h ≡ equity_general (class_rows s 2)
  pub exchange : x ≡ exchange_general (class_rows s 3)
  pub commodity : y ≡ commodity_general (class_rows s 4)

-- what is read out of the sums of an accepted book's rows
module _ (table : Table) (s : List ℕ) (ok : Accepted s) (sums : Sums) (of : LegSums (legs_of s) sums.positions sums.specifics sums.rows) where
  cost : Costs s sums.positions sums.specifics sums.rows
  cost = costs s sums.positions sums.specifics sums.rows ok of

  module _ {specifics generals : List ℕ} (is_specifics : specifics ≡ map (λ g. get_or sums.specifics (0 + g) 0) groups)
      (is_generals : generals ≡ map (λ g. (interest_figures table.percents (weighted_from table sums.positions (currency_at g))).charge) groups) where
    pub lists : Lists table s specifics generals
    lists =
        record {
          specifics_are = is_specifics ∙ cost.specifics_are;
          generals_are = is_generals ∙ generals_are s sums.positions sums.specifics sums.rows ok of table;
        }

    pub six : {equity : List ℕ} {p g q h x y : ℕ} → equity ≡ map (λ g. get_or sums.specifics (32 + g) 0) groups
        → p ≡ sum_of (λ entry. entry) specifics → g ≡ sum_of (λ entry. entry) generals → q ≡ sum_of (λ entry. entry) equity
        → h ≡ eight_per_cent * absolute_nets groups (bands_from sums.positions equity_first)
        → x ≡ eight_per_cent * shorthand currencies (bands_from sums.positions exchange_first)
        → y ≡ sum_of (λ g. (commodity_figures (bands_from sums.positions (commodity_at g))).charge) groups
        → Six table s p g q h x y
    six is_equity p g q h x y =
        record {
          interest_specific = p ∙ specifics_total table s _ _ ok lists;
          interest_general_lem = g ∙ generals_total table s _ _ ok lists;
          equity-specific = q ∙ ap (sum_of (λ entry. entry)) is_equity ∙ cost.equity-specific_is;
          equity-general = h ∙ cost.equity-is;
          exchange = x ∙ cost.exchange_is;
          commodity = y ∙ cost.commodity-is;
        }

module _ (table : Table) (s : List ℕ) where
  module _ {p g q h x y : ℕ} (six : Six table s p g q h x y) where
    pub six_fit : TableBounds table → Accepted s → p + g + q + h + x + y ≤ most_total
    six_fit ok of = omega (arith, total-fits table ok s of, six.interest_specific, six.interest_general_lem, six.equity-specific, six.equity-general, six.exchange, six.commodity)

    pub report_charged : {specifics generals : List ℕ} {rows : ℕ} → Lists table s specifics generals → rows ≡ length (legs_of s)
        → report_with (record { specific = p; general = g }) (record { specific = q; general = h }) x y rows specifics generals ≡ charged_report table s
    unfolding charged_report interest_risk equity_risk
    report_charged lists all =
        rw (
          six.interest_specific,
          six.interest_general_lem,
          six.equity-specific,
          six.equity-general,
          six.exchange,
          six.commodity,
          all,
          lists.specifics_are,
          lists.generals_are,
        )

  -- an answer of a refused book, and the report of one that passes
  pub report_refused : (answer : Result Report Refused) (r : Refused) → IsErrAnd answer (λ y. y ≡ r) → numbers_of r ≡ refusal_of s → reported answer ≡ report_by table s
  unfolding reported report_by
  report_refused (Ok report) r h e = absurd h
  report_refused (Err own) r h e = let told = ap numbers_of h ∙ e in rw told (simp (refused_accepts s r e))

  pub report_passed : (refusal_of s).number ≡ 0 → charged_report table s ≡ report_by table s
  unfolding report_by accepts
  report_passed good = simp (eq-eqb _ _ good)
