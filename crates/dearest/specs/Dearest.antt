-- The dearest book of so many rows of at most an amount each (P14): what is written, who is told no, and the output afterwards.
use Rattle.std.specs.Prelude.{ℕ, cond, ◌||◌, List, ltb, eqb, length, replicate, Result}
use Rattle.book.specs.declared.Row.{Row}
use Rattle.book.specs.declared.Refusal.{Refusal}
use Rattle.book.specs.Refusals.{most_rows, most_amount, refused}
use Rattle.book.specs.declared.reasons.Refused.{Refused}
use Rattle.book.specs.Reasons.{told, figure_in}
use Rattle.layout.specs.Files.{book_of}
use Rattle.layout.specs.Room.{or_next, room_refusal, figure_of, output_of}
use Rattle.table.specs.Loaded.{standard_bytes}
use Rattle.charges.specs.Report.{report_of}
use Rattle.dearest.specs.declared.Costed.{Costed as Given}

-- ---- what is written
-- a row of which none of its amount costs more: other paper, long, of 36,000 days and without coupon (P14)
unfoldable pub dearest_row : ℕ → Row
dearest_row amount = record { group = 0; kind = 3; days = 36000; coupon = 0; issue = 0; long = amount; short = 0 }

-- so many of them (P14)
unfoldable pub dearest_book : (rows most : ℕ) → List ℕ
dearest_book rows most = book_of (replicate rows (record { class = 1; row = dearest_row most }))

-- ---- the call
-- 22: more rows than a book has, or an amount that no row has (P14)
unfoldable pub limits_refusal : (rows most : ℕ) → Refusal
limits_refusal rows most = cond (ltb most_rows rows || (eqb most 0 || ltb most_amount most)) (refused 22 0) (refused 0 0)

-- the refusal, into an output of so many bytes: 22, then 12 (P14)
unfoldable pub dearest_refusal : (rows most room : ℕ) → Refusal
dearest_refusal rows most room = or_next (limits_refusal rows most) (room_refusal (length (dearest_book rows most)) room)

-- why the call is refused, all zero where it is not; the length of the book and its total, 0 where
-- it is refused (P14)
pub record Costed : Type 0 where
  pub refusal : Refusal
  pub length : ℕ
  pub total : ℕ

-- what the call's answer tells (P14)
unfoldable pub dearest_answer : Result Given Refused → Costed
dearest_answer answer =
    record {
      refusal = told answer;
      length = figure_in (λ costed. costed.length) answer;
      total = figure_in (λ costed. costed.total) answer;
    }

-- the answer: the refusal, the length of the book, and its total by document 01's table (P14)
unfoldable pub dearest_of : (rows most room : ℕ) → Costed
dearest_of rows most room =
    let refusal = dearest_refusal rows most room in
    let book = dearest_book rows most in
    record { refusal = refusal; length = figure_of refusal (length book); total = figure_of refusal (report_of standard_bytes book).total }

-- the output afterwards (P14)
unfoldable pub dearest_output : (rows most : ℕ) (out : List ℕ) → List ℕ
dearest_output rows most out = output_of (dearest_refusal rows most (length out)) (dearest_book rows most) out
