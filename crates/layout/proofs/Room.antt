-- The refusal of a call that writes a book: its own, and else 12 or none.
-- Assumes nothing.
use mathlib.Core.Path.{◌≡◌, ap}
use mathlib.Core.List.{List}
use Prim.Native.Nat.{ℕ, ◌≤◌, ◌<◌}
use Rattle.std.proofs.Common.{Result, Ok, Err, length}
use borrow.Author.Tests.{eq-eqb, ne_eqb, lt-ltb, le-ltb}
use Rattle.book.specs.declared.Refusal.{Refusal}
use Rattle.book.specs.Refusals.{refused}
use Rattle.book.specs.declared.Refused.{Refused}
use Rattle.book.specs.Reasons.{numbers_of, told, figure_in}
use Rattle.book.proofs.Numbers.{some_told}
use Rattle.layout.specs.Room.{Written, or_next, room_refusal, figure_of, written_answer, written_of, output_of}

-- the first of two refusals
pub or_first : (refusal next : Refusal) → (refusal.number ≡ 0 → ⊥) → or_next refusal next ≡ refusal
unfolding or_next
or_first refusal next some = rw (ne_eqb refusal.number 0 some)

pub or_next_lem : (refusal next : Refusal) → refusal.number ≡ 0 → or_next refusal next ≡ next
unfolding or_next
or_next_lem refusal next none = rw (eq-eqb refusal.number 0 none)

-- 12, or none
module _ (size room : ℕ) where
  pub no_room : room < size → room_refusal size room ≡ refused 12 0
  unfolding room_refusal
  no_room h = rw (lt-ltb _ _ h)

  pub enough_room : size ≤ room → room_refusal size room ≡ refused 0 0
  unfolding room_refusal
  enough_room h = rw (le-ltb _ _ h)

-- what a call gives and leaves, refused or not
module _ (refusal : Refusal) where
  pub no_figure : (refusal.number ≡ 0 → ⊥) → (figure : ℕ) → figure_of refusal figure ≡ 0
  unfolding figure_of
  no_figure some figure = rw (ne_eqb refusal.number 0 some)

  pub whole_figure : refusal.number ≡ 0 → (figure : ℕ) → figure_of refusal figure ≡ figure
  unfolding figure_of
  whole_figure none figure = rw (eq-eqb refusal.number 0 none)

  pub output_kept : (refusal.number ≡ 0 → ⊥) → (book out : List ℕ) → output_of refusal book out ≡ out
  unfolding output_of
  output_kept some book out = rw (ne_eqb refusal.number 0 some)

-- ---- an answer as a record
pub answer_told : (answer : Result ℕ Refused) {refusal : Refusal} (book : List ℕ) → written_answer answer ≡ written_of refusal book → told answer ≡ refusal
unfolding written_of
answer_told answer book e = ap (λ (w : Written). w.refusal) e

pub refused_answer : (r : Refused) {refusal : Refusal} (book : List ℕ) → numbers_of r ≡ refusal → written_answer (Err r) ≡ written_of refusal book
unfolding told figure_in written_of
refused_answer r {refusal} book e = rw (e, no_figure refusal (some_told r e))

pub length_answer : {n : ℕ} (book : List ℕ) → n ≡ length book → written_answer (Ok n) ≡ written_of (refused 0 0) book
unfolding told figure_in written_of figure_of refused
length_answer book e = rw e
