-- What the calls give for any bytes: the figures of an accepted book, by an accepted table, or the refusal with all figures zero.
use Rattle.std.specs.Prelude.{ℕ, ◌+◌, cond, List, Result, Ok, Err, ltb, eqb, length, replicate}
use Rattle.book.specs.declared.Row.{Row}
use Rattle.book.specs.Legs.{legs_of, of_class}
use Rattle.book.specs.declared.Refusal.{Refusal}
use Rattle.book.specs.Refusals.{last_group, refused, refusal_of}
use Rattle.book.specs.declared.reasons.Refused.{Refused}
use Rattle.book.specs.Reasons.{told}
use Rattle.ladder.specs.declared.InterestFigures.{InterestFigures}
use Rattle.ladder.specs.declared.CommodityFigures.{CommodityFigures}
use Rattle.ladder.specs.declared.zones.Matches.{Matches}
use Rattle.ladder.specs.declared.Table.{Table}
use Rattle.table.specs.Loaded.{table_refusal, table_of}
use Rattle.charges.specs.Charges.{Risk, specific_charge, interest_general, interest_figures_of, commodity_figures_of, interest_risk, equity_risk, exchange_general, commodity_general, by_currency}
pub use Rattle.charges.specs.declared.Report.{Report}

-- the rows of a class of a book (document 01, The book file)
abbrev pub class_rows : List ℕ → ℕ → List Row
class_rows s class = of_class class (legs_of s)

-- ---- the report
-- six charges: their sum is the total (document 01, The book file); how many rows were taken for them (P4); and the interest charges by currency (P6)
unfoldable pub report_with : (interest equity : Risk) (exchange commodity taken : ℕ) (specifics generals : List ℕ) → Report
report_with interest equity exchange commodity taken specifics generals =
    record {
      refusal = refused 0 0;
      interest = interest;
      equity = equity;
      exchange = exchange;
      commodity = commodity;
      total = interest.specific + interest.general + equity.specific + equity.general + exchange + commodity;
      taken = taken;
      specifics = specifics;
      generals = generals;
    }

-- no charge (document 01, Who is told no, and why)
abbrev pub no_risk : Risk
no_risk = record { specific = 0; general = 0 }

-- nor of any currency (P6)
abbrev pub no_currency : List ℕ
no_currency = replicate (last_group + 1) 0

-- the report of a refusal: no charge, and no row (document 01, Who is told no, and why; P4; P6)
unfoldable pub refused_report : Refusal → Report
refused_report refusal =
    record {
      refusal = refusal;
      interest = no_risk;
      equity = no_risk;
      exchange = 0;
      commodity = 0;
      total = 0;
      taken = 0;
      specifics = no_currency;
      generals = no_currency;
    }

-- the report of an accepted book, by a table: each of its rows is taken (document 01, The book file; P4; P6)
unfoldable pub charged_report : Table → List ℕ → Report
charged_report table s =
    report_with
    (interest_risk table (class_rows s 1))
    (equity_risk (class_rows s 2))
    (exchange_general (class_rows s 3))
    (commodity_general (class_rows s 4))
    (length (legs_of s))
    (by_currency (specific_charge 1) (class_rows s 1))
    (by_currency (interest_general table) (class_rows s 1))

-- what is refused first, or else what comes after it (document 01, Who is told no, and why)
unfoldable pub before : ℕ → Refusal → Refusal
before number refusal = cond (eqb number 0) refusal (refused number 0)

-- the report of any bytes, by a table of any bytes: 18 and 19 come before the book is looked at (document 01, Who is told no, and why; P10)
unfoldable pub report_of : (table s : List ℕ) → Report
report_of table s =
    let refusal = before (table_refusal table) (refusal_of s) in
    cond (eqb refusal.number 0) (charged_report (table_of table) s) (refused_report refusal)

-- ---- the ladder calls
-- 10 comes first, then what else the call refuses (document 01, Who is told no, and why)
unfoldable pub ladder_refusal : Refusal → ℕ → Refusal
ladder_refusal refusal group = cond (ltb last_group group) (refused 10 0) refusal

-- no figure of a ladder (document 01, Who is told no, and why)
abbrev pub no_matches : Matches
no_matches = record { gross = 0; vertical = 0; zone1 = 0; zone2 = 0; zone3 = 0; zones12 = 0; zones23 = 0; zones13 = 0; residual = 0 }

-- of a currency (document 01, Who is told no, and why)
abbrev pub no_interest : InterestFigures
no_interest = record { matches = no_matches; charge = 0 }

-- of a commodity (document 01, Who is told no, and why)
abbrev pub no_commodity : CommodityFigures
no_commodity = record { matches = 0; carried = 0; residual = 0; charge = 0 }

-- a refusal, and the ladder of a currency or of a commodity: its figures all zero where it is refused (document 01, Who is told no, and why)
pub record InterestLadder : Type 0 where
  pub refusal : Refusal
  pub figures : InterestFigures

pub record CommodityLadder : Type 0 where
  pub refusal : Refusal
  pub figures : CommodityFigures

-- an answer's figures, or none where it is refused
unfoldable pub figures_or : {A : Type 0} → A → Result A Refused → A
figures_or none (Ok figures) = figures
figures_or none (Err _) = none

-- the answers of the calls in numbers (document 01, Who is told no, and why)
unfoldable pub interest_answer : Result InterestFigures Refused → InterestLadder
interest_answer r = record { refusal = told r; figures = figures_or no_interest r }

unfoldable pub commodity_answer : Result CommodityFigures Refused → CommodityLadder
commodity_answer r = record { refusal = told r; figures = figures_or no_commodity r }

-- the interest ladder of a currency, in weighted positions, by a table (document 01, Interest: bands and zones; P10)
unfoldable pub interest_ladder_of : (table s : List ℕ) → ℕ → InterestLadder
interest_ladder_of table s group =
    let refusal = ladder_refusal (before (table_refusal table) (refusal_of s)) group in
    record { refusal = refusal; figures = cond (eqb refusal.number 0) (interest_figures_of (table_of table) group (class_rows s 1)) no_interest }

-- the ladder of a commodity, in amount units (document 01, The commodities ladder)
unfoldable pub commodity_ladder_of : List ℕ → ℕ → CommodityLadder
commodity_ladder_of s group =
    let refusal = ladder_refusal (refusal_of s) group in
    record { refusal = refusal; figures = cond (eqb refusal.number 0) (commodity_figures_of group (class_rows s 4)) no_commodity }
