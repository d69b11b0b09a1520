-- What dropping the pairs makes of a book, and what the call answers.
-- Assumes nothing.
use mathlib.Core.Path.{◌≡◌, refl, sym, ap, ◌∙◌}
use mathlib.Core.List.{List}
use Prim.Native.Nat.{ℕ, ◌+◌, ◌≤◌, ◌<◌}
use native.Mathlib.Omega.{arith}
use lib.ListN.{length}
use Rattle.std.proofs.Common.{Result, Ok, Err, IsErrAnd}
use Rattle.book.specs.declared.Row.{Row}
use Rattle.book.specs.declared.Refusal.{Refusal}
use Rattle.book.specs.declared.Refused.{Refused}
use Rattle.book.specs.Reasons.{numbers_of}
use Rattle.book.specs.Counts.{counts_of, rows_before}
use Rattle.book.specs.Legs.{legs_of, of_class}
use Rattle.book.specs.Refusals.{refused, refusal_of}
use Rattle.book.specs.Accepted.{Accepted}
use Rattle.book.proofs.Placing.{of_four, before-none, rows_apart}
use Rattle.book.proofs.Acceptance.{refused-with_none}
use Rattle.book.proofs.Numbers.{some_told}
use Rattle.book.proofs.ClassRows.{class_size}
use Rattle.layout.specs.Room.{room_refusal, written_answer, written_of, output_of}
use Rattle.layout.proofs.Room.{or_first, or_next_lem, output_kept, refused_answer}
use Rattle.swaps.specs.Offset.{offset_rows}
use Rattle.amounts.specs.declared.positions.Amounts.{Amounts}
use Rattle.amounts.specs.Inner.Standing.{positions_in, standing_rows, standing, Stands}
use Rattle.amounts.proofs.Standing.{standing-same}
use Rattle.offsetting.specs.Offset.{offset_by, offset_book, offsetting_refusal, offset_of, offsetting_output}
use Rattle.offsetting.specs.Inner.Pairs.{Dropped}

-- ---- the interest rows offset, and the rows of the other classes as they are
module _ {s : List ℕ} (ok : Accepted s) {rows : ℕ → List Row} {amounts amounts' : Amounts} (now : Stands s rows amounts)
    (dropped : Dropped (of_class 1 (legs_of s)) amounts amounts') where
  interest : standing (positions_in amounts') s 1 ≡ offset_rows (rows 1)
  interest =
      let none = before-none (counts_of s) 1 (omega arith) in
      ap (λ (n : ℕ). standing_rows (positions_in amounts') n (of_class 1 (legs_of s))) none
      ∙ dropped.left
      ∙ ap (λ (n : ℕ). offset_rows (standing_rows (positions_in amounts) n (of_class 1 (legs_of s)))) (sym none)
      ∙ ap offset_rows (now.each 1 (omega arith) (omega arith))

  others : (class : ℕ) → 1 < class → class ≤ 4 → standing (positions_in amounts') s class ≡ rows class
  others class low high =
      standing-same (positions_in amounts') (positions_in amounts) _ _
      (λ k h. dropped.beyond (rows_before (counts_of s) class + k)
      (omega (arith, rows_apart (counts_of s) 1 class low, class_size s ok 1 (omega arith) (omega arith))))
      ∙ now.each class (omega arith) high

  pub offset_stands : Stands s (offset_by rows) amounts'
  unfolding offset_by
  offset_stands =
      record {
        can = record { within = λ k h. omega (arith, dropped.no_more k, now.can.within k h) };
        each =
            of_four (λ class. standing (positions_in amounts') s class ≡ offset_by rows class)
            interest
            (others 2 (omega arith) (omega arith))
            (others 3 (omega arith) (omega arith))
            (others 4 (omega arith) (omega arith));
      }

-- ---- the answer and the output
module _ (s out : List ℕ) where
  pub record Answers (given : Result ℕ Refused) (after : List ℕ) : Type 0 where
    pub answer : written_answer given ≡ offset_of s (length out)
    pub output : after ≡ offsetting_output s out

  -- the book is refused
  turned-by : (r : Refused) → numbers_of r ≡ refusal_of s → Answers (Err r) out
  unfolding offset_of offsetting_output offsetting_refusal
  turned-by r own =
      let is = own ∙ sym (or_first (refusal_of s) (room_refusal (length (offset_book s)) (length out)) (some_told r own)) in
      record { answer = refused_answer r (offset_book s) is; output = rw (← is) (sym (output_kept (numbers_of r) (some_told r refl) (offset_book s) out)) }

  pub turned-away : (given : Result ℕ Refused) (r : Refused) → IsErrAnd given (λ y. y ≡ r) → numbers_of r ≡ refusal_of s → Answers given out
  turned-away (Ok length) r passed own = absurd passed
  turned-away (Err given) r passed own = turned-by given (ap numbers_of passed ∙ own)

  -- it is written, or 12 is given
  room_alone : Accepted s → offsetting_refusal s (length out) ≡ room_refusal (length (offset_book s)) (length out)
  unfolding offsetting_refusal refused
  room_alone ok = or_next_lem (refusal_of s) _ (ap (λ (refusal : Refusal). refusal.number) (refused-with_none s ok))

  pub carried_out : Accepted s → (answer : Result ℕ Refused) → written_answer answer ≡ written_of (room_refusal (length (offset_book s)) (length out)) (offset_book s)
      → {after : List ℕ} → after ≡ output_of (room_refusal (length (offset_book s)) (length out)) (offset_book s) out → Answers answer after
  unfolding offset_of offsetting_output
  carried_out ok answer is is-after = record { answer = is ∙ rw (room_alone ok); output = is-after ∙ rw (room_alone ok) }
