-- The trade that brings a currency under its limit (P13): what the amount is that the call gives,
-- what it means that there is none, and that an amount added is a row more of the book.
use Rattle.std.specs.Prelude.{ℕ, ◌≤◌, ◌<◌, ◌≡◌, true, false, cond, List, [], ◌∷◌, ◌++◌, eqb, get_or}
use Rattle.book.specs.declared.Row.{Row}
use Rattle.book.specs.Counts.{counts_of, count_of_rows}
use Rattle.book.specs.Refusals.{most_rows, last_group, most_days, row_refusal, refusal_of}
use Rattle.layout.specs.Files.{book_by}
use Rattle.table.specs.Loaded.{table_of}
use Rattle.charges.specs.Bands.{low_column, interest_band}
use Rattle.charges.specs.Report.{class_rows, interest_ladder_of}
use Rattle.trade.specs.Trade.{Least, on_side, most_trade, last_band, charge_with, trade_refusal, least_trade_of}

-- the currency's charge by the lent table when an amount is added to the side of the band (P13)
abbrev pub charge_at : (table s : List ℕ) → (group band side : ℕ) → ℕ → ℕ
charge_at table s group band side = charge_with (table_of table) group band side (class_rows s 1)

-- an amount that is given is in the range and brings the charge within the limit, and no smaller one does; where none is given no amount in the range
-- does (P13)
pub record LeastAmount (charge : ℕ → ℕ) (limit : ℕ) (least : Least) : Type 0 where
  pub in_range : least.found ≡ true → least.amount ≤ most_trade
  pub within : least.found ≡ true → charge least.amount ≤ limit
  pub smaller : least.found ≡ true → (amount : ℕ) → amount < least.amount → limit < charge amount
  pub none : least.found ≡ false → (amount : ℕ) → amount ≤ most_trade → limit < charge amount

-- for all bytes and all numbers that the call does not refuse (P13)
abbrev pub LeastTradeHolds : Type 0
LeastTradeHolds =
    (table s : List ℕ) (group band side limit : ℕ) → (trade_refusal table s group band side).number ≡ 0
    → LeastAmount (charge_at table s group band side) limit (least_trade_of table s group band side limit).least

-- with nothing added it is the charge that the ladder call gives (P13)
abbrev pub NothingAddedHolds : Type 0
NothingAddedHolds =
    (table s : List ℕ) (group band side : ℕ) → (trade_refusal table s group band side).number ≡ 0
    → charge_at table s group band side 0 ≡ (interest_ladder_of table s group).figures.charge

-- ---- an amount as a row of the book
-- an interest row that is accepted, of the currency, in the band, with the amount on the side (P13)
pub record TradeRow (group band side amount : ℕ) (row : Row) : Type 0 where
  pub accepted : row_refusal 1 row ≡ 0
  pub of_currency : row.group ≡ group
  pub in_band : interest_band row ≡ band
  pub long : row.long ≡ (on_side side amount).long
  pub short : row.short ≡ (on_side side amount).short

-- the book with a row more, after its interest rows (document 01, The book file)
unfoldable pub with_row : List ℕ → Row → List ℕ
with_row s row =
    book_by (λ class. cond (eqb class 1) (class_rows s 1 ++ (row ∷ [])) (class_rows s class))

-- for every amount and every such row, where the book has room for one more: the book with it is
-- accepted, and the charge with the amount added is the one that the ladder call gives of it (P13)
abbrev pub AmountAddedHolds : Type 0
AmountAddedHolds =
    (table s : List ℕ) (group band side amount : ℕ) (row : Row)
    → (trade_refusal table s group band side).number ≡ 0 → count_of_rows (counts_of s) < most_rows
    → TradeRow group band side amount row
    → ((refusal_of (with_row s row)).number ≡ 0)
    × (charge_at table s group band side amount
    ≡ (interest_ladder_of table (with_row s row) group).figures.charge)

-- a government bond without coupon that runs to the last day of its band, in the last band to the
-- last day of all (document 01, Interest: bands and zones)
abbrev pub trade_bond : (group band side amount : ℕ) → Row
trade_bond group band side amount =
    record {
      group = group;
      kind = 1;
      days = get_or low_column band (most_days 1);
      coupon = 0;
      issue = 0;
      long = (on_side side amount).long;
      short = (on_side side amount).short;
    }

-- it is such a row: there is one for every band, side and amount that the call tries, but 0, which
-- no row may have (P13; document 01, Who is told no, and why)
abbrev pub TradeBondsHold : Type 0
TradeBondsHold =
    (group band side amount : ℕ) → group ≤ last_group → band ≤ last_band → 1 ≤ amount
    → amount ≤ most_trade → TradeRow group band side amount (trade_bond group band side amount)
