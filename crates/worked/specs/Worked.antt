-- The books worked by hand, E1 to E10 of document 01, as legs and figures. No book is in group 0, but for gold.
use Rattle.std.specs.Prelude.{ℕ, ◌≡◌, take, replicate}
use mathlib.Core.List.{List, [], ◌∷◌, ◌++◌, map, flat_map}
use Rattle.book.specs.Legs.{Leg}
use Rattle.table.specs.Loaded.{standard_bytes}
use Rattle.layout.specs.Files.{two_bytes_of, book_of}
use Rattle.charges.specs.Bands.{interest_band}
use Rattle.charges.specs.Report.{report_of}
use Rattle.market_risk.specs.Entries.{report_figures, report_entries}
use Rattle.claims.specs.Demands.{Within, joined_book}
use Rattle.claims.specs.Currencies.{specific_in, general_in}

-- ---- legs, their issue number 0
abbrev pub leg : (class group kind days coupon long short : ℕ) → Leg
leg class group kind days coupon long short =
    record { class = class; row = record { group = group; kind = kind; days = days; coupon = coupon; issue = 0; long = long; short = short } }

abbrev pub government : (group days long short : ℕ) → Leg
government group days long short = leg 1 group 1 days 800 long short

abbrev pub equity : (group kind long short : ℕ) → Leg
equity group kind long short = leg 2 group kind 0 0 long short

abbrev pub currency : (group long short : ℕ) → Leg
currency group long short = leg 3 group 0 0 0 long short

abbrev pub commodity : (group days long short : ℕ) → Leg
commodity group days long short = leg 4 group 0 days 0 long short

-- ---- a fact: what the definitions give, and what document 01 says
pub record Worked : Type 0 where
  pub given : List ℕ
  pub expected : List ℕ

-- each of some facts holds
abbrev pub Hold : List Worked → Type 0
Hold facts = map (λ fact. fact.given) facts ≡ map (λ fact. fact.expected) facts

-- a charged book: specific and general interest, specific and general equity, foreign exchange, commodities, the total, and the rows taken
abbrev pub costs : List ℕ → (interest_specific interest_general_lem equity-specific equity-general exchange commodity total taken : ℕ) → Worked
costs book is ig es eg x c total taken =
    record { given = take 11 (report_entries (report_of standard_bytes book)); expected = 0 ∷ 0 ∷ 0 ∷ is ∷ ig ∷ es ∷ eg ∷ x ∷ c ∷ total ∷ taken ∷ [] }

-- the specific and the general charge of some currencies, one after the other (P6)
abbrev pub splits : List ℕ → List ℕ → List ℕ → Worked
splits book currencies expected =
    let report = report_of standard_bytes book in
    record { given = flat_map (λ currency. specific_in report currency ∷ general_in report currency ∷ []) currencies; expected = expected }

-- a refused book: number and row, and no figure, also of a currency
abbrev pub refuses : List ℕ → ℕ → ℕ → Worked
refuses book number row =
    record { given = report_entries (report_of standard_bytes book); expected = number ∷ row ∷ 0 ∷ replicate 72 0 }

-- the band of some days at a coupon
abbrev pub band_at : (coupon days : ℕ) → ℕ
band_at coupon days = interest_band (leg 1 7 1 days coupon 1 0).row

abbrev pub falls : (days coupon band : ℕ) → Worked
falls days coupon band = record { given = band_at coupon days ∷ []; expected = band ∷ [] }

-- ---- the books
-- E2: the interest example of the Amendment, C.2
abbrev pub interest_example : List ℕ
interest_example =
    book_of
    (leg 1 7 2 2880 800 13330 0
    ∷ government 7 60 75000 0
    ∷ government 7 270 150000 0
    ∷ government 7 2880 0 150000
    ∷ government 7 180 0 50000
    ∷ government 7 1260 50000 0
    ∷ [])

-- E3: one bond in each zone, the middle one short
abbrev pub three_zones : List ℕ
three_zones = book_of (government 31 270 75 0 ∷ government 31 900 0 30 ∷ government 31 6000 10 0 ∷ [])

-- E4: two books of two zones each
abbrev pub near_zones : List ℕ
near_zones = book_of (government 9 270 75 0 ∷ government 9 900 0 30 ∷ [])

abbrev pub far_zones : List ℕ
far_zones = book_of (government 9 900 30 0 ∷ government 9 6000 0 10 ∷ [])

-- E5: the commodities example of the Amendment, C.3
abbrev pub commodity_example : List ℕ
commodity_example = book_of (commodity 4 150 800 0 ∷ commodity 4 150 0 1000 ∷ commodity 4 600 600 0 ∷ commodity 4 1100 0 600 ∷ [])

-- E6: five currencies and gold
abbrev pub currency_example : List ℕ
currency_example =
    book_of (currency 1 50 0 ∷ currency 2 100 0 ∷ currency 3 150 0 ∷ currency 30 0 20 ∷ currency 31 0 180 ∷ currency 0 0 35 ∷ [])

-- E9: one foreign exchange row
abbrev pub one_row : ℕ → List ℕ
one_row amount = book_of (currency 5 amount 0 ∷ [])

-- the table of E1 to E10
unfoldable pub worked : List Worked
worked =
    -- E1
    costs (replicate 8 0) 0 0 0 0 0 0 0 0
    -- E2
    ∷ costs interest_example 213280000 4580112500 0 0 0 0 4793392500 6
    -- E3
    ∷ costs three_zones 0 735000 0 0 0 0 735000 3
    -- E4: two books, and the two joined
    ∷ costs near_zones 0 210000 0 0 0 0 210000 2
    ∷ costs far_zones 0 210000 0 0 0 0 210000 2
    ∷ costs (joined_book near_zones far_zones (replicate 72 0)) 0 577500 0 0 0 0 577500 4
    -- E5
    ∷ costs commodity_example 0 0 0 0 0 79200000 79200000 4
    -- E6
    ∷ costs currency_example 0 0 0 0 26800000 0 26800000 6
    -- E7
    ∷ falls 700 300 4
    ∷ falls 700 299 5
    -- E8
    ∷ falls 30 800 0
    ∷ falls 31 800 1
    ∷ falls 7200 299 13
    ∷ falls 7201 299 14
    -- E9
    ∷ costs (one_row 1000000000) 0 0 0 0 80000000000000 0 80000000000000 1
    ∷ refuses (one_row 1000000001) 9 0
    -- E10
    ∷ refuses (two_bytes_of 4001 ++ replicate 6 0) 2 0
    ∷ []

-- the definitions give document 01's figures
abbrev pub WorkedHolds : Type 0
WorkedHolds = Hold worked

-- ---- two books of one zone each, of which joining says that the two together cost at most 525,000 and 525,000
abbrev pub first_zone : List ℕ
first_zone = book_of (government 9 270 75 0 ∷ [])

abbrev pub second_zone : List ℕ
second_zone = book_of (government 9 900 30 0 ∷ [])

abbrev pub JoinedWithin : Type 0
JoinedWithin =
    Within (report_figures (report_of standard_bytes (joined_book first_zone second_zone (replicate 40 0)))) (0 ∷ 1050000 ∷ 0 ∷ 0 ∷ 0 ∷ 0 ∷ 1050000 ∷ [])
