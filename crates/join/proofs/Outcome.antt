-- What a join gives and leaves in the output, refused and not refused.
-- Assumes nothing.
use mathlib.Core.Path.{◌≡◌, refl, sym}
use mathlib.Core.List.{List, flat_map}
use Prim.Native.Nat.{ℕ, ◌+◌, ◌≤◌}
use native.Mathlib.Omega.{arith}
use lib.ListN.{length, take, length-append}
use lib.Seq.{take_at}
use borrow.Author.Tests.{ne_eqb}
use Rattle.std.proofs.Common.{Result, Ok, Err}
use Rattle.std.specs.Result.{IsErrAnd}
use Rattle.book.specs.declared.Counts.{Counts}
use Rattle.book.specs.declared.reasons.Refused.{Refused}
use Rattle.book.specs.Counts.{contents_size, classes}
use Rattle.book.specs.Refusals.{refused}
use Rattle.book.specs.Reasons.{numbers_of, told, figure_in}
use Rattle.book.proofs.Numbers.{some_told}
use Rattle.layout.specs.Written.{written}
use Rattle.layout.specs.Files.{contents_bytes, file_of}
use Rattle.join.specs.Joined.{joined_counts, joined_body, joined, join_refusal, joined_answer, joined_of, join_output}
use Rattle.layout.proofs.Writing.{written_after}
use Rattle.layout.proofs.Whole.{contents_length}
use Rattle.join.proofs.Settling.{Joins, not_refused}

module _ (a b : List ℕ) where
  pub bodies_size : contents_size + length (flat_map (joined_body a b) classes) ≡ length (joined a b)
  unfolding joined file_of
  bodies_size = rw length-append (omega (arith, contents_length (joined_counts a b)))

  module _ (out : List ℕ) where
    -- refused: no length, and the output as it was
    module _ (r : Refused) (is : numbers_of r ≡ join_refusal a b (length out)) where
      pub refused-answer : (answer : Result ℕ Refused) → IsErrAnd answer (λ y. y ≡ r) → joined_answer answer ≡ joined_of a b (length out)
      unfolding joined_answer joined_of told figure_in
      refused-answer (Ok length) e = absurd e
      refused-answer (Err own) e = rw (e, ← is, ne_eqb _ _ (some_told r refl))

      pub refused-output : out ≡ join_output a b out
      unfolding join_output
      refused-output = rw (← is, ne_eqb _ _ (some_told r refl))

    -- the bodies written after the contents make the joined book
    book_written : length (joined a b) ≤ length out
        → written (written out 0 (contents_bytes (joined_counts a b))) contents_size (flat_map (joined_body a b) classes) ≡ written out 0 (joined a b)
    unfolding joined file_of
    book_written fits =
        let size = contents_length (joined_counts a b) in
        let past : contents_size ≡ 0 + length (contents_bytes (joined_counts a b)) = omega arith in
        rw past
        (written_after out (contents_bytes (joined_counts a b)) (flat_map (joined_body a b) classes) 0 (omega (arith, bodies_size)))

    module _ (ok : Joins a b (length out)) where
      pub joined-answer : joined_of a b (length out) ≡ record { refusal = refused 0 0; length = length (joined a b) }
      unfolding joined_of refused
      joined-answer = simp (not_refused a b (length out) ok)

      pub joined-output : join_output a b out ≡ written out 0 (joined a b)
      unfolding join_output refused
      joined-output = simp (not_refused a b (length out) ok)

      -- not refused: the joined length, and the contents and the bodies written
      pub accepted-answer : (size : ℕ) → size ≡ length (joined a b) → joined_answer (Ok size) ≡ joined_of a b (length out)
      unfolding joined_answer told figure_in
      accepted-answer size is = rw is (sym joined-answer)

      pub accepted-output : (counts : Counts) (out' out'' : List ℕ) → counts ≡ joined_counts a b
          → out' ≡ written out 0 (contents_bytes counts) → out'' ≡ written out' contents_size (flat_map (joined_body a b) classes)
          → out'' ≡ join_output a b out
      accepted-output counts out' out'' sum head tail = rw (tail, head, sum, book_written ok.fits) (sym joined-output)

      -- the bytes that join writes, up to the length that it gives
      pub written-book : take (joined_of a b (length out)).length (join_output a b out) ≡ joined a b
      unfolding written
      written-book = rw (joined-answer, joined-output) (take_at (joined a b) _ (length (joined a b)) refl)
