-- The charge of each currency (P6): what the two lists of a report come to, and a currency of a joined book.
use Rattle.std.specs.Prelude.{ℕ, ◌+◌, ◌≤◌, ◌≡◌, List, length, get_or}
use Rattle.sums.specs.Sums.{sum_of}
use Rattle.book.specs.Refusals.{last_group}
use Rattle.ladder.specs.Rows.{AtMostTwoZones}
use Rattle.table.specs.Loaded.{table_refusal}
use Rattle.charges.specs.Charges.{reading}
use Rattle.charges.specs.declared.Report.{Report}
use Rattle.charges.specs.Report.{class_rows, report_of, interest_ladder_of}
use Rattle.join.specs.Joined.{join_refusal}
use Rattle.claims.specs.Demands.{joined_book}

-- the specific and the general charge of a currency, by a report
abbrev pub specific_in : Report → ℕ → ℕ
specific_in report currency = get_or report.specifics currency 0

abbrev pub general_in : Report → ℕ → ℕ
general_in report currency = get_or report.generals currency 0

-- ---- of any bytes: an entry for each currency, the entries sum to the figure that they split, and a general one is what the ladder call gives
pub record Splitting (table s : List ℕ) : Type 0 where
  pub specifics_many : length (report_of table s).specifics ≡ last_group + 1
  pub generals_many : length (report_of table s).generals ≡ last_group + 1
  pub specific : sum_of (λ entry. entry) (report_of table s).specifics ≡ (report_of table s).interest.specific
  pub general : sum_of (λ entry. entry) (report_of table s).generals ≡ (report_of table s).interest.general
  pub ladder : (currency : ℕ) → currency ≤ last_group → general_in (report_of table s) currency ≡ (interest_ladder_of table s currency).figures.charge

abbrev pub SplittingHolds : Type 0
SplittingHolds = (table s : List ℕ) → Splitting table s

-- ---- in a joined book a currency costs at most what it cost in the two
pub record CurrencyNoDearer (j a b : Report) (currency : ℕ) : Type 0 where
  pub specific : specific_in j currency ≤ specific_in a currency + specific_in b currency
  pub general : general_in j currency ≤ general_in a currency + general_in b currency

-- if it uses at most two zones there itself, whatever the other currencies use
abbrev pub CurrencyJoiningHolds : Type 0
CurrencyJoiningHolds =
    (table : List ℕ) → table_refusal table ≡ 0 → (a b out : List ℕ) → (join_refusal a b (length out)).number ≡ 0
    → (currency : ℕ) → currency ≤ last_group → AtMostTwoZones (reading 1) (class_rows (joined_book a b out) 1) currency
    → CurrencyNoDearer (report_of table (joined_book a b out)) (report_of table a) (report_of table b) currency
