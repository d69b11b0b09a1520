-- The least trade (P13), worked by hand: what its call answers, the charge with some amounts added, and who is told no.
use Rattle.std.specs.Prelude.{ℕ, List, [], ◌∷◌, map, replicate}
use Rattle.book.specs.Legs.{Leg}
use Rattle.table.specs.Loaded.{standard_bytes}
use Rattle.layout.specs.Files.{book_of}
use Rattle.charges.specs.Report.{interest_ladder_of}
use Rattle.market_risk.specs.Entries.{trade_entries}
use Rattle.trade.specs.Trade.{least_trade_of}
use Rattle.claims.specs.Trade.{charge_at, with_row}
use Rattle.worked.specs.Worked.{Worked, government, equity, currency, commodity}
use Rattle.worked.specs.Tables.{flat}

-- the answer for a table, a book, a currency, a band, a side and a limit: number, row, book, whether there is an amount, the amount
abbrev pub trades : (table book : List ℕ) (group band side limit : ℕ) → List ℕ → Worked
trades table book group band side limit expected = record { given = trade_entries (least_trade_of table book group band side limit); expected = expected }

-- an amount
abbrev pub amount_of : ℕ → List ℕ
amount_of amount = 0 ∷ 0 ∷ 0 ∷ 1 ∷ amount ∷ []

-- the charge with some amounts added
abbrev pub charges_at : (book : List ℕ) (group band side : ℕ) → List ℕ → List ℕ → Worked
charges_at book group band side amounts expected = record { given = map (charge_at standard_bytes book group band side) amounts; expected = expected }

-- a bond of 100 in band 5, which has weight 175: 1,750,000
abbrev pub one_bond : List ℕ
one_bond = book_of (government 7 900 100 0 ∷ [])

-- nothing to add, on either side; the limit just met, and one mil less
unfoldable pub trade_facts : List Worked
trade_facts =
    trades standard_bytes one_bond 7 5 0 1750000 (amount_of 0)
    ∷ trades standard_bytes one_bond 7 5 1 1749999 (amount_of 1)
    ∷ trades standard_bytes one_bond 7 5 1 1734250 (amount_of 1)
    ∷ trades standard_bytes one_bond 7 5 1 1734249 (amount_of 2)
    ∷ []

-- shorts elsewhere in its zone, and in the zones before and after; a currency without rows
unfoldable pub band_facts : List Worked
band_facts =
    trades standard_bytes one_bond 7 4 1 1741250 (amount_of 1)
    ∷ trades standard_bytes one_bond 7 3 1 1745800 (amount_of 1)
    ∷ trades standard_bytes one_bond 7 7 1 1733500 (amount_of 1)
    ∷ trades standard_bytes one_bond 8 5 1 0 (amount_of 0)
    ∷ []

-- a fifth of E3, in which shorts in zone 2 lower the charge up to 6 and raise it from there on: the limit that 6 alone meets
abbrev pub fifth : List ℕ
fifth = book_of (government 31 270 15 0 ∷ government 31 900 0 6 ∷ government 31 6000 2 0 ∷ [])

unfoldable pub turning_facts : List Worked
turning_facts =
    charges_at fifth 31 5 1 (0 ∷ 5 ∷ 6 ∷ 7 ∷ 1000000 ∷ []) (147000 ∷ 94500 ∷ 84000 ∷ 101500 ∷ 17499979000 ∷ [])
    ∷ trades standard_bytes fifth 31 5 1 84000 (amount_of 6)
    ∷ []

-- a short in that band as a row, and the charge that the ladder call gives of a book with one
abbrev pub short_of : ℕ → Leg
short_of amount = government 31 900 0 amount

abbrev pub charge_with_short : List ℕ → ℕ → ℕ
charge_with_short book amount =
    (interest_ladder_of standard_bytes (with_row book (short_of amount).row) 31).figures.charge

-- a row of each other class
abbrev pub others : List Leg
others = equity 9 1 5 0 ∷ currency 7 0 4 ∷ commodity 4 150 3 0 ∷ []

-- its place in a book, and the charges with one less than that amount, the amount, and one more
unfoldable pub added_facts : List Worked
added_facts =
    record {
      given = with_row (book_of (government 31 270 15 0 ∷ others)) (short_of 6).row;
      expected = book_of (government 31 270 15 0 ∷ short_of 6 ∷ others);
    }
    ∷ record {
      given = map (charge_with_short fifth) (5 ∷ 6 ∷ 7 ∷ []);
      expected = 94500 ∷ 84000 ∷ 101500 ∷ [];
    }
    ∷ []

-- 10, then 18 and 19, then 21, by the band or the side, then the book; 14 and 1 pass
unfoldable pub place_facts : List Worked
place_facts =
    trades [] [] 32 15 2 0 (10 ∷ replicate 4 0)
    ∷ trades [] [] 31 15 2 0 (18 ∷ replicate 4 0)
    ∷ trades (flat 2001 0) [] 31 15 2 0 (19 ∷ replicate 4 0)
    ∷ trades standard_bytes [] 31 15 0 0 (21 ∷ replicate 4 0)
    ∷ trades standard_bytes [] 31 0 2 0 (21 ∷ replicate 4 0)
    ∷ trades standard_bytes [] 31 14 1 0 (1 ∷ replicate 4 0)
    ∷ trades standard_bytes one_bond 31 14 1 0 (amount_of 0)
    ∷ []
