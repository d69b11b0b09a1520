-- Loaded tables (P10), worked by hand: document 01's, each condition at its limit and one past it, and a book under another table.
use Rattle.std.specs.Prelude.{ℕ, take, replicate}
use mathlib.Core.List.{List, [], ◌∷◌, ◌++◌, map, flat_map}
use Rattle.sums.specs.Sums.{span}
use Rattle.ladder.specs.Table.{weight_in}
use Rattle.table.specs.Loaded.{table_of, table_refusal, standard_bytes}
use Rattle.layout.specs.Files.{two_bytes_of, book_of}
use Rattle.charges.specs.Report.{report_of, interest_ladder_of}
use Rattle.market_risk.specs.Entries.{report_entries, interest_entries}
use Rattle.worked.specs.Worked.{Worked, government}

-- the bytes of a table: its weights, then vertical, zones 1, 2 and 3, adjacent, 1-3
abbrev pub table_bytes : (weights percents : List ℕ) → List ℕ
table_bytes weights percents = flat_map two_bytes_of weights ++ percents

abbrev pub flat : (weight percent : ℕ) → List ℕ
flat weight percent = table_bytes (replicate 15 weight) (replicate 6 percent)

-- the numbers of some tables
abbrev pub numbers : List (List ℕ) → List ℕ → Worked
numbers tables expected = record { given = map table_refusal tables; expected = expected }

abbrev pub percents : (vertical zone1 zone2 zone3 adjacent apart : ℕ) → List ℕ
percents vertical zone1 zone2 zone3 adjacent apart =
    table_bytes (replicate 15 2000) (vertical ∷ zone1 ∷ zone2 ∷ zone3 ∷ adjacent ∷ apart ∷ [])

-- every length but 36; all nothing, and all that may be; a weight too many, too few and too great; each per cent one above what it may be
unfoldable pub refused_tables : List Worked
refused_tables =
    numbers (standard_bytes ∷ flat 0 0 ∷ flat 2000 100 ∷ percents 9 9 9 9 9 9 ∷ []) (0 ∷ 0 ∷ 0 ∷ 0 ∷ [])
    ∷ numbers ([] ∷ replicate 35 0 ∷ replicate 37 0 ∷ (standard_bytes ++ 0 ∷ []) ∷ []) (18 ∷ 18 ∷ 18 ∷ 18 ∷ [])
    ∷ numbers
    (table_bytes (1 ∷ replicate 14 0) (replicate 6 0)
    ∷ table_bytes (replicate 14 1 ++ 0 ∷ []) (replicate 6 0)
    ∷ table_bytes (replicate 14 2000 ++ 2001 ∷ []) (replicate 6 0)
    ∷ []) (19 ∷ 19 ∷ 19 ∷ [])
    ∷ numbers
    (percents 10 9 10 10 10 10 ∷ percents 10 10 9 10 10 10 ∷ percents 10 10 10 9 10 10
    ∷ percents 9 10 9 9 9 10 ∷ percents 9 9 10 9 9 10 ∷ percents 9 9 9 10 9 10
    ∷ percents 9 9 9 9 10 9 ∷ percents 9 9 9 9 9 101
    ∷ []) (replicate 8 19)
    ∷ []

-- weights of 10 to 150, and the per cents 1 to 6
abbrev pub step_table : List ℕ
step_table =
    10 ∷ 0 ∷ 20 ∷ 0 ∷ 30 ∷ 0 ∷ 40 ∷ 0 ∷ 50 ∷ 0 ∷ 60 ∷ 0 ∷ 70 ∷ 0 ∷ 80 ∷ 0 ∷ 90 ∷ 0 ∷ 100 ∷ 0 ∷ 110 ∷ 0 ∷ 120 ∷ 0 ∷ 130 ∷ 0 ∷ 140 ∷ 0 ∷ 150 ∷ 0
    ∷ 1 ∷ 2 ∷ 3 ∷ 4 ∷ 5 ∷ 6 ∷ []

-- currency 0 matches in a band, in each zone, and zone 2 with both others; currency 1 matches zone 1 with both others
abbrev pub steps : List ℕ
steps =
    book_of
    (government 0 30 10 0 ∷ government 0 30 0 4 ∷ government 0 90 0 1
    ∷ government 0 720 0 3 ∷ government 0 1080 1 0
    ∷ government 0 1800 2 0 ∷ government 0 2520 0 1
    ∷ government 1 30 10 0 ∷ government 1 720 0 1 ∷ government 1 1800 0 1 ∷ [])

-- what document 01's bytes hold; ladders and a report under another table
unfoldable pub loaded_facts : List Worked
loaded_facts =
    record {
      given = map (weight_in (table_of standard_bytes)) (span 0 15);
      expected = 0 ∷ 20 ∷ 40 ∷ 70 ∷ 125 ∷ 175 ∷ 225 ∷ 275 ∷ 325 ∷ 375 ∷ 450 ∷ 525 ∷ 600 ∷ 800 ∷ 1250 ∷ [];
    }
    ∷ record {
      given = interest_entries (interest_ladder_of step_table steps 0);
      expected = 0 ∷ 0 ∷ 0 ∷ 620 ∷ 40 ∷ 20 ∷ 60 ∷ 90 ∷ 40 ∷ 50 ∷ 0 ∷ 20 ∷ 3070 ∷ [];
    }
    ∷ record {
      given = interest_entries (interest_ladder_of step_table steps 1);
      expected = 0 ∷ 0 ∷ 0 ∷ 230 ∷ 0 ∷ 0 ∷ 0 ∷ 0 ∷ 50 ∷ 0 ∷ 50 ∷ 30 ∷ 3550 ∷ [];
    }
    ∷ record {
      given = take 11 (report_entries (report_of step_table steps));
      expected = 0 ∷ 0 ∷ 0 ∷ 0 ∷ 6620 ∷ 0 ∷ 0 ∷ 0 ∷ 0 ∷ 6620 ∷ 10 ∷ [];
    }
    ∷ []

-- what comes first: 10, then the table, then the book
unfoldable pub order_facts : List Worked
order_facts =
    record { given = report_entries (report_of [] (replicate 7 0)); expected = 18 ∷ replicate 74 0 }
    ∷ record { given = report_entries (report_of (flat 2001 0) steps); expected = 19 ∷ replicate 74 0 }
    ∷ record { given = report_entries (report_of (flat 2000 0) (replicate 7 0)); expected = 1 ∷ replicate 74 0 }
    ∷ record { given = interest_entries (interest_ladder_of [] (replicate 7 0) 32); expected = 10 ∷ replicate 12 0 }
    ∷ record { given = interest_entries (interest_ladder_of [] (replicate 7 0) 31); expected = 18 ∷ replicate 12 0 }
    ∷ record { given = interest_entries (interest_ladder_of (flat 0 101) (replicate 7 0) 31); expected = 19 ∷ replicate 12 0 }
    ∷ []
