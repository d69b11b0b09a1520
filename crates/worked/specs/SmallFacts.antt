-- A bank with foreign exchange and commodities alone (P11), worked by hand: the examples of the Amendment, days that do not matter, and 20 in its place.
use Rattle.std.specs.Prelude.{ℕ, List, [], ◌∷◌, ◌++◌, replicate}
use Rattle.layout.specs.Files.{two_bytes_of, book_of}
use Rattle.charges.specs.SmallBank.{small_bank_of}
use Rattle.market_risk.specs.Entries.{small_entries}
use Rattle.worked.specs.Worked.{Worked, leg, government, equity, currency, commodity, commodity_example, currency_example}

abbrev pub small_costs : List ℕ → (exchange commodity total : ℕ) → Worked
small_costs book exchange commodity total = record { given = small_entries (small_bank_of book); expected = 0 ∷ 0 ∷ 0 ∷ exchange ∷ commodity ∷ total ∷ [] }

abbrev pub small_refuses : List ℕ → (number row : ℕ) → Worked
small_refuses book number row = record { given = small_entries (small_bank_of book); expected = number ∷ row ∷ replicate 4 0 }

-- C.3's positions come to a net of 200 and a gross of 3,000; two commodities are not set against one another
unfoldable pub small_facts : List Worked
small_facts =
    small_costs (replicate 8 0) 0 0 0
    ∷ small_costs commodity_example 0 120000000 120000000
    ∷ small_costs currency_example 26800000 0 26800000
    ∷ small_costs (book_of (commodity 4 0 10 0 ∷ commodity 4 36000 0 4 ∷ [])) 0 1320000 1320000
    ∷ small_costs (book_of (commodity 4 30 10 0 ∷ commodity 5 30 0 10 ∷ [])) 0 3600000 3600000
    ∷ small_costs (book_of (currency 1 5 0 ∷ commodity 31 90 1 0 ∷ [])) 400000 180000 580000
    ∷ small_refuses (replicate 7 0) 1 0
    ∷ small_refuses (two_bytes_of 4001 ++ replicate 6 0) 2 0
    ∷ small_refuses (two_bytes_of 1 ++ replicate 6 0) 3 0
    ∷ small_refuses (book_of (government 32 30 1 0 ∷ [])) 20 0
    ∷ small_refuses (book_of (equity 0 4 1 0 ∷ commodity 0 36001 1 0 ∷ [])) 20 0
    ∷ small_refuses (book_of (currency 1 1 0 ∷ commodity 0 36001 1 0 ∷ [])) 6 1
    ∷ small_refuses (book_of (leg 3 1 1 0 0 1 0 ∷ [])) 5 0
    ∷ []
