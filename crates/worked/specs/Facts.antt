-- Facts of document 01 that E1 to E10 leave open, as it prints them: bands, zones, specific weights, ladders, currencies, and each refusal at its limit.
use Rattle.std.specs.Prelude.{ℕ, suc, List, [], ◌∷◌, ◌++◌, map, length, replicate}
use Rattle.sums.specs.Sums.{span}
use Rattle.book.specs.Rows.{decode}
use Rattle.book.specs.Legs.{Leg}
use Rattle.table.specs.Loaded.{standard_bytes}
use Rattle.layout.specs.Files.{two_bytes_of, row_bytes, book_of}
use Rattle.charges.specs.Bands.{commodity_band}
use Rattle.charges.specs.Report.{interest_ladder_of, commodity_ladder_of}
use Rattle.join.specs.Joined.{joined_of}
use Rattle.market_risk.specs.Entries.{interest_entries, commodity_entries, joined_entries}
use Rattle.claims.specs.Demands.{joined_book}
use Rattle.worked.specs.Worked.{Worked, leg, government, equity, currency, commodity, costs, splits, refuses, band_at, interest_example, commodity_example, one_row}

-- the band of each last day, and of the day after it
abbrev pub last_days : (ℕ → ℕ) → List ℕ → Worked
last_days band days = record { given = map band days ++ map (λ d. band (suc d)) days; expected = span 0 (length days) ++ span 1 (length days) }

-- the fields of a row's bytes (document 01, The book file)
abbrev pub fields_of : List ℕ → List ℕ
fields_of bytes =
    let row = decode bytes in
    row.group ∷ row.kind ∷ row.days ∷ row.coupon ∷ row.issue ∷ row.long ∷ row.short ∷ []

-- the bytes 0 to 15 as a row, and back; both columns, and the commodities' bands
unfoldable pub table_facts : List Worked
table_facts =
    record { given = fields_of (span 0 16); expected = 0 ∷ 1 ∷ 770 ∷ 1284 ∷ 1798 ∷ 185207048 ∷ 252579084 ∷ [] }
    ∷ record { given = row_bytes (decode (span 0 16)); expected = span 0 16 }
    ∷ last_days (band_at 300) (30 ∷ 90 ∷ 180 ∷ 360 ∷ 720 ∷ 1080 ∷ 1440 ∷ 1800 ∷ 2520 ∷ 3600 ∷ 5400 ∷ 7200 ∷ [])
    ∷ last_days (band_at 299) (30 ∷ 90 ∷ 180 ∷ 360 ∷ 684 ∷ 1008 ∷ 1296 ∷ 1548 ∷ 2052 ∷ 2628 ∷ 3348 ∷ 3816 ∷ 4320 ∷ 7200 ∷ [])
    ∷ last_days (λ days. commodity_band (commodity 4 days 1 0).row) (30 ∷ 90 ∷ 180 ∷ 360 ∷ 720 ∷ 1080 ∷ [])
    ∷ []

-- the zones' edges in four currencies: band 3 against 4, 6 against 7, 4 against 6, 7 against 14
abbrev pub zone_edges : List ℕ
zone_edges =
    book_of
    (leg 1 1 1 360 300 10 0 ∷ leg 1 1 1 720 300 0 10 ∷ leg 1 2 1 1440 300 10 0 ∷ leg 1 2 1 1800 300 0 10
    ∷ leg 1 3 1 720 300 10 0 ∷ leg 1 3 1 1440 300 0 10 ∷ leg 1 4 1 1548 299 10 0 ∷ leg 1 4 1 36000 299 0 10 ∷ [])

-- qualifying paper at the ends of its ranges, and other paper
abbrev pub specific_edges : List ℕ
specific_edges =
    book_of
    (leg 1 1 2 0 0 1 0 ∷ leg 1 1 2 180 0 0 10 ∷ leg 1 1 2 181 0 100 0 ∷ leg 1 1 2 720 0 1000 0 ∷ leg 1 1 2 721 0 10000 0
    ∷ leg 1 1 3 0 0 100000 0 ∷ [])

-- a floating-rate note fixing in so many days and ending in so many (P5)
abbrev pub floating_note : (group fixing final long short : ℕ) → Leg
floating_note group fixing final long short = leg 1 group 4 fixing final long short

-- notes that end where the ranges of qualifying paper do
abbrev pub final_edges : List ℕ
final_edges = book_of (floating_note 1 90 180 1 0 ∷ floating_note 1 90 181 0 10 ∷ floating_note 1 90 720 100 0 ∷ floating_note 1 90 721 1000 0 ∷ [])

-- each kind of equity in two markets, and all four classes at once; a note fixing in 90 days and ending in 2,880 bears 160 basis points of specific
-- risk, and in band 1 its ladder's charge
unfoldable pub cost_facts : List Worked
cost_facts =
    costs zone_edges 0 1418000 0 0 0 0 1418000 8
    ∷ costs specific_edges 8171027500 193176000 0 0 0 0 8364203500 6
    ∷ costs (book_of (floating_note 7 90 2880 1 0 ∷ [])) 16000 2000 0 0 0 0 18000 1
    ∷ costs final_edges 17102500 2184000 0 0 0 0 19286500 4
    ∷ costs (book_of (commodity 1 36000 1 0 ∷ [])) 0 0 0 0 0 150000 150000 1
    ∷ costs (book_of (commodity 1 0 1 0 ∷ [])) 0 0 0 0 0 186000 186000 1
    ∷ costs (book_of (equity 3 1 100 0 ∷ equity 3 3 0 40 ∷ [])) 0 0 8800000 4800000 0 0 13600000 2
    ∷ costs (book_of (equity 3 1 100 0 ∷ equity 0 2 0 10 ∷ [])) 0 0 8400000 8800000 0 0 17200000 2
    ∷ costs (book_of (leg 1 2 3 270 300 1 0 ∷ equity 1 2 3 0 ∷ currency 0 0 2 ∷ commodity 0 36000 1 0 ∷ [])) 80000 7000 120000 240000 160000 150000 757000 4
    ∷ []

-- other paper within 30 days, of weight 0, in currency 0; qualifying paper and a bond in 31; equity in market 30
abbrev pub three_currencies : List ℕ
three_currencies = book_of (leg 1 0 3 30 300 10 0 ∷ leg 1 31 2 60 300 0 4 ∷ leg 1 30 1 270 300 1 0 ∷ equity 30 1 5 0 ∷ leg 1 31 1 60 300 10 0 ∷ [])

-- E4 joined, in currency 9 of three zones, with a bond of currency 5 in each book
abbrev pub zones_joined : List ℕ
zones_joined =
    joined_book
    (book_of (government 9 270 75 0 ∷ government 5 270 75 0 ∷ government 9 900 0 30 ∷ []))
    (book_of (government 9 900 30 0 ∷ government 9 6000 0 10 ∷ government 5 270 0 75 ∷ []))
    (replicate 104 0)

-- the charge of each currency: E2; rows of weight 0 and of two currencies, and none of equity; a currency of three zones beside one of one
unfoldable pub currency_facts : List Worked
currency_facts =
    splits interest_example (6 ∷ 7 ∷ 8 ∷ []) (0 ∷ 0 ∷ 213280000 ∷ 4580112500 ∷ 0 ∷ 0 ∷ [])
    ∷ splits three_currencies (0 ∷ 1 ∷ 30 ∷ 31 ∷ []) (800000 ∷ 0 ∷ 0 ∷ 0 ∷ 0 ∷ 7000 ∷ 10000 ∷ 12800 ∷ [])
    ∷ splits zones_joined (5 ∷ 9 ∷ []) (0 ∷ 52500 ∷ 0 ∷ 577500 ∷ [])
    ∷ []

-- all figures of both ladder calls, refused and not
unfoldable pub ladder_facts : List Worked
ladder_facts =
    record {
      given = interest_entries (interest_ladder_of standard_bytes interest_example 7);
      expected = 0 ∷ 0 ∷ 0 ∷ 86498750 ∷ 4998750 ∷ 2000000 ∷ 0 ∷ 0 ∷ 0 ∷ 11250000 ∷ 10000000 ∷ 30001250 ∷ 4580112500 ∷ [];
    }
    ∷ record {
      given = interest_entries (interest_ladder_of standard_bytes zone_edges 4);
      expected = 0 ∷ 0 ∷ 0 ∷ 15250 ∷ 0 ∷ 0 ∷ 0 ∷ 2750 ∷ 0 ∷ 0 ∷ 0 ∷ 9750 ∷ 1057500 ∷ [];
    }
    ∷ record { given = commodity_entries (commodity_ladder_of commodity_example 4); expected = 0 ∷ 0 ∷ 0 ∷ 1400 ∷ 1200 ∷ 200 ∷ 79200000 ∷ [] }
    ∷ record { given = interest_entries (interest_ladder_of standard_bytes (replicate 7 0) 32); expected = 10 ∷ replicate 12 0 }
    ∷ record { given = commodity_entries (commodity_ladder_of (replicate 7 0) 31); expected = 1 ∷ replicate 6 0 }
    ∷ []

-- a good foreign exchange row, and then another row; and an interest row alone
abbrev pub second : (group kind days coupon long short : ℕ) → List ℕ
second group kind days coupon long short = book_of (currency 5 1 0 ∷ leg 3 group kind days coupon long short ∷ [])

abbrev pub first : (kind days coupon : ℕ) → List ℕ
first kind days coupon = book_of (leg 1 0 kind days coupon 1 0 ∷ [])

-- each refusal at its limit, before those after it
unfoldable pub refusal_facts : List Worked
refusal_facts =
    refuses (replicate 7 0) 1 0
    ∷ refuses (two_bytes_of 4000 ++ replicate 6 0) 3 0
    ∷ refuses (replicate 9 0) 3 0
    ∷ refuses (second 32 1 1 1 0 0) 4 1
    ∷ refuses (second 31 1 1 1 0 0) 5 1
    ∷ refuses (second 31 0 1 1 0 0) 6 1
    ∷ refuses (second 31 0 0 1 0 0) 7 1
    ∷ refuses (second 31 0 0 0 0 0) 8 1
    ∷ refuses (second 31 0 0 0 2000000000 1) 8 1
    ∷ refuses (second 31 0 0 0 0 1000000001) 9 1
    ∷ refuses (first 0 0 0) 5 0
    ∷ refuses (first 5 0 0) 5 0
    ∷ refuses (book_of (equity 0 4 1 0 ∷ [])) 5 0
    ∷ refuses (book_of (leg 2 0 1 1 1 1 0 ∷ [])) 6 0
    ∷ refuses (book_of (leg 2 0 1 0 1 1 0 ∷ [])) 7 0
    ∷ refuses (book_of (leg 4 0 0 36000 1 1 0 ∷ [])) 7 0
    ∷ refuses (first 1 36001 0) 6 0
    ∷ refuses (first 1 36000 10001) 7 0
    ∷ costs (first 3 0 10000) 80000 0 0 0 0 0 80000 1
    ∷ refuses (first 4 361 36000) 15 0
    ∷ refuses (first 4 360 36001) 15 0
    ∷ refuses (first 4 360 359) 15 0
    ∷ refuses (first 4 36001 10001) 15 0
    ∷ refuses (book_of (floating_note 0 91 90 0 0 ∷ [])) 15 0
    ∷ costs (first 4 360 360) 10000 7000 0 0 0 0 17000 1
    ∷ costs (first 4 360 36000) 16000 7000 0 0 0 0 23000 1
    ∷ []

-- joining: A's fault, B's fault, one byte short, long enough (number, row, book, length)
abbrev pub joins : (a b : List ℕ) (room : ℕ) → List ℕ → Worked
joins a b room expected = record { given = joined_entries (joined_of a b room); expected = expected }

unfoldable pub join_facts : List Worked
join_facts =
    joins (replicate 7 0) (replicate 7 0) 0 (1 ∷ 0 ∷ 0 ∷ 0 ∷ [])
    ∷ joins (replicate 8 0) (second 32 0 0 0 0 0) 0 (4 ∷ 1 ∷ 1 ∷ 0 ∷ [])
    ∷ joins (one_row 1) (one_row 2) 39 (12 ∷ 0 ∷ 0 ∷ 0 ∷ [])
    ∷ joins (one_row 1) (one_row 2) 40 (0 ∷ 0 ∷ 0 ∷ 40 ∷ [])
    ∷ []
