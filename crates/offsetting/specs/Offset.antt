-- A book without its fitting swap legs (P2): what is written, who is told no, and the output afterwards.
use Rattle.std.specs.Prelude.{ℕ, cond, List, length, eqb}
use Rattle.book.specs.declared.Row.{Row}
use Rattle.book.specs.declared.Refusal.{Refusal}
use Rattle.book.specs.Legs.{legs_of, of_class}
use Rattle.book.specs.Refusals.{refusal_of}
use Rattle.layout.specs.Files.{book_by}
use Rattle.layout.specs.Room.{Written, or_next, room_refusal, written_of, output_of}
use Rattle.swaps.specs.Offset.{offset_rows}

-- of the rows of each class the interest rows are offset; all others stay (P2)
unfoldable pub offset_by : (ℕ → List Row) → ℕ → List Row
offset_by rows class = cond (eqb class 1) (offset_rows (rows class)) (rows class)

-- the book without the pairs that fit (P2)
unfoldable pub offset_book : List ℕ → List ℕ
offset_book s = book_by (offset_by (λ class. of_class class (legs_of s)))

-- the refusal of offsetting a book into an output of so many bytes: the book's, then 12 (P2)
unfoldable pub offsetting_refusal : List ℕ → ℕ → Refusal
offsetting_refusal s room = or_next (refusal_of s) (room_refusal (length (offset_book s)) room)

-- the answer: the refusal, and the length of what is written (P2)
unfoldable pub offset_of : List ℕ → ℕ → Written
offset_of s room = written_of (offsetting_refusal s room) (offset_book s)

-- the output afterwards (P2)
unfoldable pub offsetting_output : List ℕ → List ℕ → List ℕ
offsetting_output s out = output_of (offsetting_refusal s (length out)) (offset_book s) out
