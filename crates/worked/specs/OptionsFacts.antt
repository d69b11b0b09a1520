-- Options by delta-plus (P9), worked by hand: the Amendment's example, the rows that are written, who is told no, and gamma and vega.
use Rattle.std.specs.Prelude.{ℕ, length, replicate}
use mathlib.Core.List.{List, [], ◌∷◌, ◌++◌, flat_map}
use Rattle.book.specs.Legs.{Leg}
use Rattle.layout.specs.Files.{two_bytes_of, four_bytes_of, book_of}
use Rattle.options.specs.Refusals.{options_refusal}
use Rattle.options.specs.Options.{priced_of, pricing_output}
use Rattle.market_risk.specs.Entries.{refusal_entries, priced_entries}
use Rattle.worked.specs.Worked.{Worked, equity, currency, commodity}

-- ---- option tables
-- the eighteen bytes of a row
abbrev pub option : (class group right kind amount delta gamma vega volatility days : ℕ) → List ℕ
option class group right kind amount delta gamma vega volatility days =
    (class ∷ group ∷ right ∷ kind ∷ []) ++ (four_bytes_of amount ++ flat_map two_bytes_of (delta ∷ gamma ∷ vega ∷ volatility ∷ days ∷ []))

-- on equity of kind 1, on a currency, and on a commodity with 0 days; the rights are 0 bought call, 1 bought put, 2 sold call, 3 sold put
abbrev pub on_equity : (group right amount delta gamma vega volatility : ℕ) → List ℕ
on_equity group right amount delta gamma vega volatility = option 2 group right 1 amount delta gamma vega volatility 0

abbrev pub on_currency : (group right amount delta gamma vega volatility : ℕ) → List ℕ
on_currency group right amount delta gamma vega volatility = option 3 group right 0 amount delta gamma vega volatility 0

abbrev pub on_commodity : (group right amount delta gamma vega volatility : ℕ) → List ℕ
on_commodity group right amount delta gamma vega volatility = option 4 group right 0 amount delta gamma vega volatility 0

-- the count, and the rows
abbrev pub table_of : List (List ℕ) → List ℕ
table_of rows = two_bytes_of (length rows) ++ flat_map (λ row. row) rows

-- ---- what the call does
-- its answer, with so many bytes of room
abbrev pub answers : (table : List ℕ) (room : ℕ) → List ℕ → Worked
answers table room expected = record { given = priced_entries (priced_of table room); expected = expected }

-- its output afterwards, of so many bytes that were 5
abbrev pub writes : (table : List ℕ) (room : ℕ) → List ℕ → Worked
writes table room expected = record { given = pricing_output table (replicate room 5); expected = expected }

-- the legs that some rows are written as, into an output that has just room for them
abbrev pub becomes : (rows : List (List ℕ)) → List Leg → Worked
becomes rows legs = writes (table_of rows) (length (book_of legs)) (book_of legs)

-- a refusal: number and row, no figure, and the output as it was
abbrev pub refuses : (table : List ℕ) (room number row : ℕ) → Worked
refuses table room number row =
    record { given = priced_entries (priced_of table room) ++ pricing_output table (replicate room 5); expected = (number ∷ row ∷ replicate 15 0) ++ replicate room 5 }

-- a row with a field out of its range, the second of its table, and one of which all are in theirs
abbrev pub fine : List ℕ
fine = on_currency 9 0 1 10000 0 0 0

abbrev pub outside : List ℕ → Worked
outside row = refuses (table_of (fine ∷ row ∷ [])) 3 17 1

abbrev pub inside : List ℕ → Worked
inside row = record { given = refusal_entries (options_refusal (table_of (fine ∷ row ∷ []))); expected = 0 ∷ 0 ∷ 0 ∷ [] }

-- gamma, and vega, of equity, foreign exchange and commodities
abbrev pub gammas : (rows : List (List ℕ)) → (equity exchange commodity : ℕ) → Worked
gammas rows e x c = record { given = (priced_of (table_of rows) 99).gammas; expected = e ∷ x ∷ c ∷ [] }

abbrev pub vegas : (rows : List (List ℕ)) → (equity exchange commodity : ℕ) → Worked
vegas rows e x c = record { given = (priced_of (table_of rows) 99).vegas; expected = e ∷ x ∷ c ∷ [] }

-- ---- whole tables
-- the Amendment's C.4 times 50: a sold call on 25,000 of a commodity, delta 0.7210, a gamma of 0.0170 for a move of 1%, a vega of 84 and 20 points of
-- volatility, after so many days
abbrev pub example : (days : ℕ) → List ℕ
example days = table_of (option 4 6 2 0 25000 7210 170 84 2000 days ∷ [])

unfoldable pub price_facts : List Worked
price_facts =
    answers (table_of []) 8 (0 ∷ 0 ∷ 0 ∷ 8 ∷ replicate 13 0)
    ∷ writes (table_of []) 9 (replicate 8 0 ++ 5 ∷ [])
    -- 54.075, 9.5625 and 8.4 times 50, in mils, where nothing is carried
    ∷ answers (example 1081) 24 (0 ∷ 0 ∷ 0 ∷ 24 ∷ 0 ∷ 0 ∷ 478125000 ∷ 0 ∷ 0 ∷ 420000000 ∷ 0 ∷ 0 ∷ 0 ∷ 0 ∷ 0 ∷ 2703750000 ∷ 2703750000 ∷ [])
    -- at the example's twelve months it is carried three steps: 324,450,000 more
    ∷ answers (example 360) 24 (0 ∷ 0 ∷ 0 ∷ 24 ∷ 0 ∷ 0 ∷ 478125000 ∷ 0 ∷ 0 ∷ 420000000 ∷ 0 ∷ 0 ∷ 0 ∷ 0 ∷ 0 ∷ 3028200000 ∷ 3028200000 ∷ [])
    ∷ writes (example 1081) 25 (0 ∷ 0 ∷ 0 ∷ 0 ∷ 0 ∷ 0 ∷ 1 ∷ 0 ∷ 6 ∷ 0 ∷ 57 ∷ 4 ∷ 0 ∷ 0 ∷ 0 ∷ 0 ∷ 0 ∷ 0 ∷ 0 ∷ 0 ∷ 105 ∷ 70 ∷ 0 ∷ 0 ∷ 5 ∷ [])
    -- no row, but gamma and vega
    ∷ answers (table_of (on_commodity 3 2 1 0 1 2 3 ∷ [])) 8 (0 ∷ 0 ∷ 0 ∷ 8 ∷ 0 ∷ 0 ∷ 113 ∷ 0 ∷ 0 ∷ 15000 ∷ replicate 7 0)
    -- all three classes: 50 of equity long, 10 of a currency long, 5 of a commodity short
    ∷ answers (table_of (on_commodity 3 1 20 2500 0 1 1 ∷ on_equity 1 3 100 5000 10 3 200 ∷ on_currency 2 0 10 10000 7 2 1000 ∷ [])) 56
    (0 ∷ 0 ∷ 0 ∷ 56 ∷ 32000 ∷ 0 ∷ 0 ∷ 1500000 ∷ 5000000 ∷ 2500 ∷ 0 ∷ 0 ∷ 4000000 ∷ 4000000 ∷ 800000 ∷ 930000 ∷ 9730000 ∷ [])
    ∷ []

-- ---- the rows
unfoldable pub delta_facts : List Worked
delta_facts =
    -- class by class, within a class in the table's order; with its kind and its days
    becomes (on_commodity 6 0 1 10000 0 0 0 ∷ option 2 31 0 3 2 10000 0 0 0 0 ∷ option 4 5 0 0 3 10000 0 0 0 36000 ∷ on_currency 0 0 4 10000 0 0 0 ∷ [])
    (equity 31 3 2 0 ∷ currency 0 4 0 ∷ commodity 6 0 1 0 ∷ commodity 5 36000 3 0 ∷ [])
    -- bought calls and sold puts are long
    ∷ becomes (on_equity 1 0 11 10000 0 0 0 ∷ on_equity 1 1 12 10000 0 0 0 ∷ on_equity 1 2 13 10000 0 0 0 ∷ on_equity 1 3 14 10000 0 0 0 ∷ [])
    (equity 1 1 11 0 ∷ equity 1 1 0 12 ∷ equity 1 1 0 13 ∷ equity 1 1 14 0 ∷ [])
    -- rounded up, and no row where delta is 0
    ∷ becomes
    (on_currency 1 0 1 1 0 0 0 ∷ on_currency 1 0 3 5000 0 0 0 ∷ on_currency 1 0 9 0 0 0 0 ∷ on_currency 1 0 10000 1 0 0 0
    ∷ on_currency 1 0 10001 1 0 0 0 ∷ on_currency 1 0 1000000 10000 0 0 0 ∷ [])
    (currency 1 1 0 ∷ currency 1 2 0 ∷ currency 1 1 0 ∷ currency 1 2 0 ∷ currency 1 1000000 0 ∷ [])
    ∷ []

-- ---- who is told no
unfoldable pub refused_facts : List Worked
refused_facts =
    -- 16: fewer than two bytes, 1,001 rows but not 1,000, a byte too many and one too few; and before 17
    refuses [] 3 16 0
    ∷ refuses (0 ∷ []) 3 16 0
    ∷ refuses (two_bytes_of 1001 ++ replicate 18018 0) 3 16 0
    ∷ refuses (two_bytes_of 1000 ++ replicate 18000 0) 3 17 0
    ∷ refuses (table_of (fine ∷ []) ++ 0 ∷ []) 24 16 0
    ∷ refuses (two_bytes_of 1 ++ replicate 17 0) 3 16 0
    ∷ refuses (table_of (option 5 9 0 0 1 1 0 0 0 0 ∷ []) ++ 0 ∷ []) 3 16 0
    -- 17 before 12, at the first such row
    ∷ refuses (table_of (option 5 9 0 0 1 1 0 0 0 0 ∷ [])) 0 17 0
    ∷ refuses (table_of (fine ∷ on_currency 9 4 1 1 0 0 0 ∷ on_currency 32 0 1 1 0 0 0 ∷ [])) 0 17 1
    -- 12, at one byte too few
    ∷ refuses (table_of (fine ∷ [])) 23 12 0
    -- one past each range, and at both ends of it
    ∷ outside (option 1 9 0 1 1 1 0 0 0 0)
    ∷ outside (option 5 9 0 0 1 1 0 0 0 0)
    ∷ outside (on_currency 32 0 1 1 0 0 0)
    ∷ outside (on_currency 9 4 1 1 0 0 0)
    ∷ outside (option 2 9 0 0 1 1 0 0 0 0)
    ∷ outside (option 2 9 0 4 1 1 0 0 0 0)
    ∷ outside (option 3 9 0 1 1 1 0 0 0 0)
    ∷ outside (option 4 9 0 1 1 1 0 0 0 0)
    ∷ outside (option 2 9 0 1 1 1 0 0 0 1)
    ∷ outside (option 3 9 0 0 1 1 0 0 0 1)
    ∷ outside (option 4 9 0 0 1 1 0 0 0 36001)
    ∷ outside (on_currency 9 0 0 1 0 0 0)
    ∷ outside (on_currency 9 0 1000001 1 0 0 0)
    ∷ outside (on_currency 9 0 1 10001 0 0 0)
    ∷ inside (option 2 0 0 1 1 0 0 0 0 0)
    ∷ inside (option 2 31 3 3 1000000 10000 65535 65535 65535 0)
    ∷ inside (option 4 31 3 0 1000000 10000 65535 65535 65535 36000)
    ∷ []

-- ---- gamma and vega, all of options whose delta is 0
unfoldable pub greek_facts : List Worked
greek_facts =
    -- one sold option of each class: 8 times 8 over 2, and 15 times 15 over 2, rounded up
    gammas (on_equity 3 2 1 0 1 0 0 ∷ on_currency 3 2 1 0 1 0 0 ∷ on_commodity 3 2 1 0 1 0 0 ∷ []) 32 32 113
    -- two sold ones are rounded up once, in two groups twice
    ∷ gammas (on_commodity 3 2 1 0 1 0 0 ∷ on_commodity 3 3 1 0 1 0 0 ∷ []) 0 0 225
    ∷ gammas (on_commodity 3 2 1 0 1 0 0 ∷ on_commodity 4 3 1 0 1 0 0 ∷ []) 0 0 226
    -- bought and sold are netted first: 3 times 225 over 2
    ∷ gammas (on_commodity 3 2 1 0 4 0 0 ∷ on_commodity 3 0 1 0 1 0 0 ∷ []) 0 0 338
    -- where more is bought nothing is charged
    ∷ gammas (on_commodity 3 0 1 0 4 0 0 ∷ on_commodity 3 3 1 0 1 0 0 ∷ on_equity 3 1 1 0 1 0 0 ∷ []) 0 0 0
    -- another group, and another class, is another underlying
    ∷ gammas (on_commodity 3 2 1 0 2 0 0 ∷ on_commodity 4 0 1 0 2 0 0 ∷ on_equity 5 2 1 0 1 0 0 ∷ on_currency 5 0 1 0 1 0 0 ∷ []) 32 0 225
    -- puts are as calls
    ∷ gammas (on_equity 3 1 1 0 1 0 0 ∷ on_equity 3 3 1 0 2 0 0 ∷ []) 32 0 0
    -- the largest of one option
    ∷ gammas (on_commodity 31 2 1000000 0 65535 0 0 ∷ []) 0 0 7372687500000
    -- vega: bought or sold, each is charged
    ∷ vegas (on_equity 3 0 1 0 0 2 3 ∷ on_currency 3 2 1 0 0 2 3 ∷ on_commodity 3 1 1 0 0 2 3 ∷ []) 15000 15000 15000
    -- netted on one underlying, but not in two groups or classes
    ∷ vegas (on_equity 3 0 1 0 0 2 3 ∷ on_equity 3 3 1 0 0 4 1 ∷ []) 5000 0 0
    ∷ vegas (on_equity 3 0 1 0 0 2 3 ∷ on_equity 4 3 1 0 0 4 1 ∷ on_currency 3 3 1 0 0 4 1 ∷ []) 25000 10000 0
    -- a bought call and a bought put add up
    ∷ vegas (on_commodity 3 0 1 0 0 2 3 ∷ on_commodity 3 1 1 0 0 4 1 ∷ []) 0 0 25000
    -- the largest of one option
    ∷ vegas (on_commodity 31 2 1 0 0 65535 65535 ∷ []) 0 0 10737090562500
    ∷ []
