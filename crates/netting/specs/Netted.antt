-- A book netted (P1): what is written, who is told no, and the output afterwards.
use Rattle.std.specs.Prelude.{ℕ, suc, Bool, cond, List, [], ◌∷◌, length, Result}
use Rattle.book.specs.declared.Row.{Row}
use Rattle.book.specs.declared.Refusal.{Refusal}
use Rattle.sums.specs.Sums.{sum_of}
use Rattle.book.specs.Counts.{classes}
use Rattle.book.specs.Legs.{Leg, legs_of, of_class}
use Rattle.book.specs.Refusals.{refused, refusal_of}
use Rattle.book.specs.declared.Refused.{Refused}
use Rattle.book.specs.Reasons.{told, figure_in}
use Rattle.layout.specs.Files.{book_by}
use Rattle.layout.specs.Room.{or_next, room_refusal, figure_of, output_of}
use Rattle.issues.specs.Issues.{netted_rows}
use Rattle.issues.specs.Comparing.{comparisons}
use Rattle.issues.specs.Agreeing.{differs, over_limit}
use Rattle.netting.specs.declared.Netted.{Netted as Figures}

-- ---- who is told no
-- a number at the first leg that a test finds, the legs numbered from `row` on
unfoldable pub first_found : ℕ → (Leg → Bool) → ℕ → List Leg → Refusal
first_found number test row [] = refused 0 0
first_found number test row (leg ∷ legs) = cond (test leg) (refused number row) (first_found number test (suc row) legs)

-- a number at the first row in the file that a test finds among the rows of its class
unfoldable pub found_in_class : ℕ → (List Row → Row → Bool) → List Leg → Refusal
found_in_class number test legs = first_found number (λ leg. test (of_class leg.class legs) leg.row) 0 legs

-- 13: at the first row that differs from the first row of its issue in its class (P1)
abbrev pub differing_refusal : List Leg → Refusal
differing_refusal = found_in_class 13 differs

-- 14: at the first row whose issue nets to more than the largest amount; it is the first row of its issue (P1)
abbrev pub over_refusal : List Leg → Refusal
over_refusal = found_in_class 14 over_limit

-- the refusal of a book that is to be netted: its own; then 13 over the whole file; then 14 (P1)
unfoldable pub issues_refusal : List ℕ → Refusal
issues_refusal s = or_next (refusal_of s) (or_next (differing_refusal (legs_of s)) (over_refusal (legs_of s)))

-- ---- what is written
-- the netted rows of each class of a book (P1)
abbrev pub netted_class : List ℕ → ℕ → List Row
netted_class s class = netted_rows (of_class class (legs_of s))

-- the netted book (P1)
unfoldable pub netted_book : List ℕ → List ℕ
netted_book s = book_by (netted_class s)

-- the comparisons of all its rows, class by class (P7)
unfoldable pub comparisons_of : List ℕ → ℕ
comparisons_of s = sum_of (λ class. comparisons (of_class class (legs_of s))) classes

-- ---- the call
-- the refusal of netting a book into an output of so many bytes: 12 comes last (P1)
unfoldable pub netting_refusal : List ℕ → ℕ → Refusal
netting_refusal s room = or_next (issues_refusal s) (room_refusal (length (netted_book s)) room)

-- what a call that nets gives: why it is refused, all zero where it is not; the length of what it
-- writes (P1) and the comparisons (P7), 0 where it is refused
pub record Netted : Type 0 where
  pub refusal : Refusal
  pub length : ℕ
  pub comparisons : ℕ

-- an answer as such a record (P1; P7)
abbrev pub netting_answer : Result Figures Refused → Netted
netting_answer answer =
    record {
      refusal = told answer;
      length = figure_in (λ figures. figures.length) answer;
      comparisons = figure_in (λ figures. figures.comparisons) answer;
    }

-- the answer of a call that nets and writes a book: the refusal, the length of what is written (P1) and the comparisons (P7)
unfoldable pub netted_answer : Refusal → List ℕ → ℕ → Netted
netted_answer refusal book comparisons =
    record { refusal = refusal; length = figure_of refusal (length book); comparisons = figure_of refusal comparisons }

-- what netting gives, into an output of so many bytes (P1; P7)
unfoldable pub netted_of : List ℕ → ℕ → Netted
netted_of s room = netted_answer (netting_refusal s room) (netted_book s) (comparisons_of s)

-- the output afterwards (P1)
unfoldable pub netting_output : List ℕ → List ℕ → List ℕ
netting_output s out = output_of (netting_refusal s (length out)) (netted_book s) out
