-- The dearest book (P14), worked by hand: its bytes, what its call answers, and rows of the same amount that cost less.
use Rattle.std.specs.Prelude.{ℕ, List, [], ◌∷◌, ◌++◌, replicate}
use Rattle.layout.specs.Files.{book_of}
use Rattle.market_risk.specs.Entries.{costed_entries}
use Rattle.dearest.specs.Dearest.{limits_refusal, dearest_of, dearest_output}
use Rattle.worked.specs.Worked.{Worked, leg, equity, currency, commodity, costs}

-- its answer, with so many bytes of room: number, row, book, length, total
abbrev pub answers : (rows most room : ℕ) → List ℕ → Worked
answers rows most room expected = record { given = costed_entries (dearest_of rows most room); expected = expected }

-- its output afterwards, of so many bytes that were 5
abbrev pub writes : (rows most room : ℕ) → List ℕ → Worked
writes rows most room expected = record { given = dearest_output rows most (replicate room 5); expected = expected }

-- no rows; one row, byte by byte, and the bytes past it as they were; two rows; the largest amount; 12 at one byte too few, which writes nothing; 22 one
-- past each limit but not at it, and before 12
unfoldable pub dearest_facts : List Worked
dearest_facts =
    writes 0 1 9 (replicate 8 0 ++ 5 ∷ [])
    ∷ answers 0 1 8 (0 ∷ 0 ∷ 0 ∷ 8 ∷ 0 ∷ [])
    ∷ answers 0 1 7 (12 ∷ 0 ∷ 0 ∷ 0 ∷ 0 ∷ [])
    ∷ writes 1 1 25 (1 ∷ 0 ∷ 0 ∷ 0 ∷ 0 ∷ 0 ∷ 0 ∷ 0 ∷ 0 ∷ 3 ∷ 160 ∷ 140 ∷ 0 ∷ 0 ∷ 0 ∷ 0 ∷ 1 ∷ 0 ∷ 0 ∷ 0 ∷ 0 ∷ 0 ∷ 0 ∷ 0 ∷ 5 ∷ [])
    ∷ answers 1 1 24 (0 ∷ 0 ∷ 0 ∷ 24 ∷ 205000 ∷ [])
    ∷ answers 1 1 23 (12 ∷ 0 ∷ 0 ∷ 0 ∷ 0 ∷ [])
    ∷ writes 1 1 23 (replicate 23 5)
    ∷ answers 2 3 40 (0 ∷ 0 ∷ 0 ∷ 40 ∷ 1230000 ∷ [])
    ∷ answers 1 1000000000 24 (0 ∷ 0 ∷ 0 ∷ 24 ∷ 205000000000000 ∷ [])
    ∷ answers 1 1000000001 24 (22 ∷ 0 ∷ 0 ∷ 0 ∷ 0 ∷ [])
    ∷ answers 1 0 24 (22 ∷ 0 ∷ 0 ∷ 0 ∷ 0 ∷ [])
    ∷ record { given = (limits_refusal 4000 1000000000).number ∷ []; expected = 0 ∷ [] }
    ∷ answers 4001 1 0 (22 ∷ 0 ∷ 0 ∷ 0 ∷ 0 ∷ [])
    ∷ writes 4001 1 3 (replicate 3 5)
    ∷ []

-- rows of amount 1, of which other paper of 36,000 days without coupon costs 205,000: government and qualifying paper, other paper with a coupon of 300
-- and of 7,200 days, a floating-rate note, equity, foreign exchange, and a commodity carried through all bands
unfoldable pub cheaper_facts : List Worked
cheaper_facts =
    costs (book_of (leg 1 0 1 36000 0 1 0 ∷ [])) 0 125000 0 0 0 0 125000 1
    ∷ costs (book_of (leg 1 0 2 36000 0 1 0 ∷ [])) 16000 125000 0 0 0 0 141000 1
    ∷ costs (book_of (leg 1 0 3 36000 300 1 0 ∷ [])) 80000 60000 0 0 0 0 140000 1
    ∷ costs (book_of (leg 1 0 3 7200 0 1 0 ∷ [])) 80000 80000 0 0 0 0 160000 1
    ∷ costs (book_of (leg 1 0 4 360 36000 1 0 ∷ [])) 16000 7000 0 0 0 0 23000 1
    ∷ costs (book_of (equity 0 1 1 0 ∷ [])) 0 0 80000 80000 0 0 160000 1
    ∷ costs (book_of (currency 1 1 0 ∷ [])) 0 0 0 0 80000 0 80000 1
    ∷ costs (book_of (commodity 0 30 1 0 ∷ [])) 0 0 0 0 0 186000 186000 1
    ∷ []
