-- The part of each class by its place (document 01, The book file): of a book of 1, 2, 0 and 3
-- rows, and of a refused one.
use Rattle.std.specs.Prelude.{ℕ, List, [], ◌∷◌}
use Rattle.book.specs.Parts.{handed_of}
use Rattle.layout.specs.Files.{book_of}
use Rattle.market_risk.specs.Entries.{handed_entries}
use Rattle.worked.specs.Worked.{Worked, government, equity, commodity, one_row}

-- number, row, book; where the part starts, its length
abbrev pub hands : (book : List ℕ) (class number start size : ℕ) → Worked
hands book class number start size =
    record {
      given = handed_entries (handed_of book class);
      expected = number ∷ 0 ∷ 0 ∷ start ∷ size ∷ [];
    }

abbrev pub six_rows : List ℕ
six_rows =
    book_of (government 9 270 75 0 ∷ equity 3 1 100 0 ∷ equity 3 3 0 40 ∷ commodity 4 150 1 0
    ∷ commodity 4 600 2 0 ∷ commodity 4 1100 0 3 ∷ [])

-- numbers that are no class have none; a class without rows has its place all the same
unfoldable pub part_facts : List Worked
part_facts =
    hands six_rows 0 0 0 0
    ∷ hands six_rows 1 0 8 16
    ∷ hands six_rows 2 0 24 32
    ∷ hands six_rows 3 0 56 0
    ∷ hands six_rows 4 0 56 48
    ∷ hands six_rows 5 0 0 0
    ∷ hands (one_row 1000000001) 3 9 0 0
    ∷ []
