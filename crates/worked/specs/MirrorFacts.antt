-- Order and mirror (document 01, Joining), used once: a book, and its rows in another order with
-- long and short exchanged, byte by byte.
use Rattle.std.specs.Prelude.{ℕ, ◌≡◌, List, [], ◌∷◌}
use Rattle.book.specs.Refusals.{refused, refusal_of}
use Rattle.charges.specs.Report.{report_of}
use Rattle.claims.specs.Orders.{mirrored_row}
use Rattle.worked.specs.Worked.{Worked}

-- bytes 8 to 11 and 12 to 15 change places (document 01, Joining)
unfoldable pub mirror_facts : List Worked
mirror_facts =
    record {
      given = mirrored_row (0 ∷ 1 ∷ 2 ∷ 3 ∷ 4 ∷ 5 ∷ 6 ∷ 7 ∷ 8 ∷ 9 ∷ 10 ∷ 11 ∷ 12 ∷ 13 ∷ 14 ∷ 15 ∷ []);
      expected = 0 ∷ 1 ∷ 2 ∷ 3 ∷ 4 ∷ 5 ∷ 6 ∷ 7 ∷ 12 ∷ 13 ∷ 14 ∷ 15 ∷ 8 ∷ 9 ∷ 10 ∷ 11 ∷ [];
    }
    ∷ []

-- two bonds of currency 9, 75 long for 270 days and 30 short for 900 days, at a coupon of 800; and
-- 1,000,000 of currency 5 long
abbrev pub as_held : List ℕ
as_held =
    2 ∷ 0 ∷ 0 ∷ 0 ∷ 1 ∷ 0 ∷ 0 ∷ 0
    ∷ 9 ∷ 1 ∷ 14 ∷ 1 ∷ 32 ∷ 3 ∷ 0 ∷ 0 ∷ 75 ∷ 0 ∷ 0 ∷ 0 ∷ 0 ∷ 0 ∷ 0 ∷ 0
    ∷ 9 ∷ 1 ∷ 132 ∷ 3 ∷ 32 ∷ 3 ∷ 0 ∷ 0 ∷ 0 ∷ 0 ∷ 0 ∷ 0 ∷ 30 ∷ 0 ∷ 0 ∷ 0
    ∷ 5 ∷ 0 ∷ 0 ∷ 0 ∷ 0 ∷ 0 ∷ 0 ∷ 0 ∷ 64 ∷ 66 ∷ 15 ∷ 0 ∷ 0 ∷ 0 ∷ 0 ∷ 0 ∷ []

-- the bonds in the other order, and every side exchanged
abbrev pub turned : List ℕ
turned =
    2 ∷ 0 ∷ 0 ∷ 0 ∷ 1 ∷ 0 ∷ 0 ∷ 0
    ∷ 9 ∷ 1 ∷ 132 ∷ 3 ∷ 32 ∷ 3 ∷ 0 ∷ 0 ∷ 30 ∷ 0 ∷ 0 ∷ 0 ∷ 0 ∷ 0 ∷ 0 ∷ 0
    ∷ 9 ∷ 1 ∷ 14 ∷ 1 ∷ 32 ∷ 3 ∷ 0 ∷ 0 ∷ 0 ∷ 0 ∷ 0 ∷ 0 ∷ 75 ∷ 0 ∷ 0 ∷ 0
    ∷ 5 ∷ 0 ∷ 0 ∷ 0 ∷ 0 ∷ 0 ∷ 0 ∷ 0 ∷ 0 ∷ 0 ∷ 0 ∷ 0 ∷ 64 ∷ 66 ∷ 15 ∷ 0 ∷ []

-- it is accepted, and every figure of its report is the first's, by every table
abbrev pub TurnedHolds : Type 0
TurnedHolds =
    (refusal_of turned ≡ refused 0 0)
    × ((table : List ℕ) → report_of table turned ≡ report_of table as_held)
