-- The shortest file that shows a refusal (P12), worked by hand: what the call answers, and its output, byte by byte.
use Rattle.std.specs.Prelude.{ℕ, List, [], ◌∷◌, ◌++◌, replicate}
use Rattle.book.specs.Legs.{Leg}
use Rattle.layout.specs.Files.{book_of}
use Rattle.shortest.specs.Shortest.{shortest_of, shortest_output}
use Rattle.market_risk.specs.Entries.{shown_entries}
use Rattle.worked.specs.Worked.{Worked}
use Rattle.worked.specs.WrittenBooks.{issued, bond, share}

-- into so many bytes, each 5 before: number, row, book, length, mark; and the output afterwards
abbrev pub shows : (s : List ℕ) (room : ℕ) (entries output : List ℕ) → Worked
shows s room entries output =
    record { given = shown_entries (shortest_of s room) ++ shortest_output s (replicate room 5); expected = entries ++ output }

-- ---- the contents
unfoldable pub contents_facts : List Worked
contents_facts =
    -- accepted: nothing, and the mark, also without room
    shows (replicate 8 0) 2 (0 ∷ 0 ∷ 0 ∷ 0 ∷ 1 ∷ []) (5 ∷ 5 ∷ [])
    ∷ shows (book_of (bond 900 0 100 0 ∷ [])) 0 (0 ∷ 0 ∷ 0 ∷ 0 ∷ 1 ∷ []) []
    -- 1: nothing, and no mark
    ∷ shows [] 0 (0 ∷ 0 ∷ 0 ∷ 0 ∷ 0 ∷ []) []
    ∷ shows (replicate 7 9) 1 (0 ∷ 0 ∷ 0 ∷ 0 ∷ 0 ∷ []) (5 ∷ [])
    -- 2: 4,001 rows in two classes, and of the rows nothing
    ∷ shows (160 ∷ 15 ∷ 0 ∷ 0 ∷ 1 ∷ 0 ∷ 0 ∷ 0 ∷ 9 ∷ []) 9 (0 ∷ 0 ∷ 0 ∷ 8 ∷ 0 ∷ []) (160 ∷ 15 ∷ 0 ∷ 0 ∷ 1 ∷ 0 ∷ 0 ∷ 0 ∷ 5 ∷ [])
    -- 3: a byte too many, and too few; the counts stay, unless all are zero
    ∷ shows (0 ∷ 0 ∷ 0 ∷ 0 ∷ 0 ∷ 0 ∷ 2 ∷ 0 ∷ 9 ∷ []) 8 (0 ∷ 0 ∷ 0 ∷ 8 ∷ 0 ∷ []) (0 ∷ 0 ∷ 0 ∷ 0 ∷ 0 ∷ 0 ∷ 2 ∷ 0 ∷ [])
    ∷ shows (0 ∷ 0 ∷ 1 ∷ 0 ∷ 0 ∷ 0 ∷ 0 ∷ 0 ∷ []) 8 (0 ∷ 0 ∷ 0 ∷ 8 ∷ 0 ∷ []) (0 ∷ 0 ∷ 1 ∷ 0 ∷ 0 ∷ 0 ∷ 0 ∷ 0 ∷ [])
    ∷ shows (replicate 9 0) 10 (0 ∷ 0 ∷ 0 ∷ 8 ∷ 0 ∷ []) (1 ∷ 0 ∷ 0 ∷ 0 ∷ 0 ∷ 0 ∷ 0 ∷ 0 ∷ 5 ∷ 5 ∷ [])
    -- a byte less than the contents: 12
    ∷ shows (replicate 9 0) 7 (12 ∷ 0 ∷ 0 ∷ 0 ∷ 0 ∷ []) (replicate 7 5)
    ∷ []

-- ---- a row
-- a row of foreign exchange or commodities that is not refused
abbrev pub fine : ℕ → Leg
fine class = issued class 9 0 0 0 0 1 0

-- the first bad row of the file, in its own class; later ones do not matter
unfoldable pub row_facts : List Worked
row_facts =
    -- 4, in interest, the second row, with its issue number
    shows (book_of (bond 900 0 100 0 ∷ issued 1 32 1 900 800 7 1 0 ∷ share 0 0 0 ∷ [])) 24 (0 ∷ 0 ∷ 0 ∷ 24 ∷ 0 ∷ [])
    (1 ∷ 0 ∷ 0 ∷ 0 ∷ 0 ∷ 0 ∷ 0 ∷ 0 ∷ 32 ∷ 1 ∷ 132 ∷ 3 ∷ 32 ∷ 3 ∷ 7 ∷ 0 ∷ 1 ∷ 0 ∷ 0 ∷ 0 ∷ 0 ∷ 0 ∷ 0 ∷ 0 ∷ [])
    -- 15, in interest: a note of 300 days to fixing and 200 to its end
    ∷ shows (book_of (issued 1 9 4 300 200 0 1 0 ∷ [])) 24 (0 ∷ 0 ∷ 0 ∷ 24 ∷ 0 ∷ [])
    (1 ∷ 0 ∷ 0 ∷ 0 ∷ 0 ∷ 0 ∷ 0 ∷ 0 ∷ 9 ∷ 4 ∷ 44 ∷ 1 ∷ 200 ∷ 0 ∷ 0 ∷ 0 ∷ 1 ∷ 0 ∷ 0 ∷ 0 ∷ 0 ∷ 0 ∷ 0 ∷ 0 ∷ [])
    -- 8, in equity, after a row of interest
    ∷ shows (book_of (bond 900 0 100 0 ∷ share 0 3 3 ∷ [])) 24 (0 ∷ 0 ∷ 0 ∷ 24 ∷ 0 ∷ [])
    (0 ∷ 0 ∷ 1 ∷ 0 ∷ 0 ∷ 0 ∷ 0 ∷ 0 ∷ 9 ∷ 1 ∷ 0 ∷ 0 ∷ 0 ∷ 0 ∷ 0 ∷ 0 ∷ 3 ∷ 0 ∷ 0 ∷ 0 ∷ 3 ∷ 0 ∷ 0 ∷ 0 ∷ [])
    -- 5, in foreign exchange, before a row of commodities with 4
    ∷ shows (book_of (share 0 1 0 ∷ issued 3 9 1 0 0 0 1 0 ∷ issued 4 99 0 0 0 0 1 0 ∷ [])) 25 (0 ∷ 0 ∷ 0 ∷ 24 ∷ 0 ∷ [])
    (0 ∷ 0 ∷ 0 ∷ 0 ∷ 1 ∷ 0 ∷ 0 ∷ 0 ∷ 9 ∷ 1 ∷ 0 ∷ 0 ∷ 0 ∷ 0 ∷ 0 ∷ 0 ∷ 1 ∷ 0 ∷ 0 ∷ 0 ∷ 0 ∷ 0 ∷ 0 ∷ 0 ∷ 5 ∷ [])
    -- 7, in commodities, the last row
    ∷ shows (book_of (fine 3 ∷ fine 4 ∷ issued 4 9 0 0 2 0 1 0 ∷ [])) 24 (0 ∷ 0 ∷ 0 ∷ 24 ∷ 0 ∷ [])
    (0 ∷ 0 ∷ 0 ∷ 0 ∷ 0 ∷ 0 ∷ 1 ∷ 0 ∷ 9 ∷ 0 ∷ 0 ∷ 0 ∷ 2 ∷ 0 ∷ 0 ∷ 0 ∷ 1 ∷ 0 ∷ 0 ∷ 0 ∷ 0 ∷ 0 ∷ 0 ∷ 0 ∷ [])
    -- a byte less than the contents and a row: 12
    ∷ shows (book_of (share 0 0 0 ∷ [])) 23 (12 ∷ 0 ∷ 0 ∷ 0 ∷ 0 ∷ []) (replicate 23 5)
    ∷ []
