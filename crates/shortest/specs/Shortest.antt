-- The shortest file that shows a refusal (P12): what is written, who is told no, and the output afterwards.
use Rattle.std.specs.Prelude.{ℕ, Bool, true, false, cond, List, [], ltb, eqb, length, take, drop, Option, None, Some, Result, Ok, Err}
use Rattle.book.specs.declared.Counts.{Counts}
use Rattle.book.specs.declared.Refusal.{Refusal}
use Rattle.book.specs.Counts.{counts_of, count_of_rows}
use Rattle.book.specs.Legs.{Leg, legs_of}
use Rattle.book.specs.Refusals.{refused, refusal_of}
use Rattle.book.specs.declared.reasons.Refused.{Refused}
use Rattle.book.specs.Reasons.{numbers_of}
use Rattle.book.specs.Parts.{accepts}
use Rattle.layout.specs.Files.{contents_bytes, book_of}
use Rattle.layout.specs.Room.{room_refusal, figure_of, output_of}

-- ---- what is written
-- counts with the first made 1 where all are zero (P12)
unfoldable pub some_row : Counts → Counts
some_row counts = cond (eqb (count_of_rows counts) 0) (record { interest = 1; equity = 0; exchange = 0; commodity = 0 }) counts

-- the leg of a number, alone
unfoldable pub leg_alone : ℕ → List Leg → List Leg
leg_alone row legs = take 1 (drop row legs)

-- the file that shows a refusal of a book: nothing for 1, the contents for 2 and 3, else the book of the refused row alone; for no refusal nothing
-- too (P12)
unfoldable pub file_showing : Refusal → List ℕ → List ℕ
file_showing refusal s =
    cond (ltb refusal.number 2) []
    (cond (eqb refusal.number 2) (contents_bytes (counts_of s))
    (cond (eqb refusal.number 3) (contents_bytes (some_row (counts_of s)))
    (book_of (leg_alone refusal.row (legs_of s)))))

unfoldable pub shortest_file : List ℕ → List ℕ
shortest_file s = file_showing (refusal_of s) s

-- ---- the call
-- its only refusal, into an output of so many bytes: 12 (P12)
unfoldable pub shortest_refusal : List ℕ → ℕ → Refusal
shortest_refusal s room = room_refusal (length (shortest_file s)) room

-- why the call is refused, all zero where it is not; the length of what is written, 0 where it is
-- refused; and whether the book is accepted, so that nothing is written (P12)
pub record Shown : Type 0 where
  pub refusal : Refusal
  pub length : ℕ
  pub accepted : Bool

-- what the call's answer tells: no length is that of an accepted book (P12)
unfoldable pub shortest_answer : Result (Option ℕ) Refused → Shown
shortest_answer (Ok None) = record { refusal = refused 0 0; length = 0; accepted = true }
shortest_answer (Ok (Some size)) = record { refusal = refused 0 0; length = size; accepted = false }
shortest_answer (Err r) = record { refusal = numbers_of r; length = 0; accepted = false }

-- the answer: the refusal, the length of what is written, and whether the book is accepted, which tells it from one refused with 1 (P12)
unfoldable pub shortest_of : List ℕ → ℕ → Shown
shortest_of s room =
    record {
      refusal = shortest_refusal s room;
      length = figure_of (shortest_refusal s room) (length (shortest_file s));
      accepted = accepts s;
    }

-- the output afterwards (P12)
unfoldable pub shortest_output : List ℕ → List ℕ → List ℕ
shortest_output s out = output_of (shortest_refusal s (length out)) (shortest_file s) out
