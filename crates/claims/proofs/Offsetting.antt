-- Offsetting swap legs (P2): the book without the pairs that fit.
-- Assumes nothing.
use Prim.Native.Nat.{ℕ, ◌≤◌}
use mathlib.Core.Path.{◌≡◌, refl}
use mathlib.Core.Bool.{Bool, true, false, cond}
use mathlib.Core.List.Sublistᴰ
use mathlib.Core.List.{List, Sublistᴰ}
use native.Mathlib.Nat.{le_refl}
use native.Mathlib.Omega.{arith}
use lib.Dec.{eqb}
use lib.ListN.{length, take}
use borrow.Author.Tests.{eq-eqb}
use Rattle.sums.specs.Every.{Every, none, also}
use Rattle.sums.proofs.Every.{every_implied}
use Rattle.book.specs.declared.Row.{Row}
use Rattle.book.specs.Accepted.{Clean, Accepted}
use Rattle.book.specs.Refusals.{refusal_of}
use Rattle.book.proofs.Acceptance.{accepted, refused-with_none}
use Rattle.layout.specs.Room.{figure_of, written_of, output_of}
use Rattle.layout.proofs.Rows.{book_legs, book_same}
use Rattle.swaps.specs.Fitting.{fits}
use Rattle.swaps.specs.Offset.{offset_rows}
use Rattle.swaps.proofs.Fitting.{clean_alone}
use Rattle.swaps.proofs.Left.{offset_every, offset_some, offset_fewer, offset_others, offset_none_fit, none_fits_any, offset_again}
use Rattle.charges.specs.Report.{class_rows}
use Rattle.book.proofs.ClassRows.{rows_clean}
use Rattle.offsetting.specs.Offset.{offset_by, offset_book, offsetting_refusal, offset_of, offsetting_output}
use Rattle.claims.specs.Offsetting.{OffsettingHolds}
use Rattle.claims.proofs.Writing.{neither_refused, classes-each, book_bytes, fewer_accepted}

-- ---- the rows of each class, the interest rows offset
module _ (rows : ℕ → List Row) (class : ℕ) where
  -- what holds of the rows of a class, both offset and as they are, holds of those that are written
  pub by_class_lem : (P : List Row → Type 0) → P (offset_rows (rows class)) → P (rows class) → P (offset_by rows class)
  unfolding offset_by
  by_class_lem P offset same = go (eqb class 1)
    where
      go : (test : Bool) → P (cond test (offset_rows (rows class)) (rows class))
      go true = offset
      go false = same

  pub by_class_some : Sublistᴰ (offset_by rows class) (rows class)
  by_class_some = by_class_lem (λ left. Sublistᴰ left (rows class)) (offset_some (rows class)) (Sublistᴰ.refl (rows class))

  by_class_fewer : length (offset_by rows class) ≤ length (rows class)
  by_class_fewer = by_class_lem (λ left. length left ≤ length (rows class)) (offset_fewer (rows class)) (le_refl _)

  -- offset again, the rows that are left stay
  pub by_class_again : (left : ℕ → List Row) → left class ≡ offset_by rows class → offset_by left class ≡ offset_by rows class
  unfolding offset_by
  by_class_again left e = rw e (go (eqb class 1))
    where
      go : (test : Bool) → cond test (offset_rows (cond test (offset_rows (rows class)) (rows class))) (cond test (offset_rows (rows class)) (rows class))
          ≡ cond test (offset_rows (rows class)) (rows class)
      go true = offset_again (rows class)
      go false = refl

-- ---- the book
module _ (s : List ℕ) where
  offset_rows_lem : (class : ℕ) → 1 ≤ class → class ≤ 4 → class_rows (offset_book s) class ≡ offset_by (class_rows s) class
  unfolding offset_book
  offset_rows_lem = book_legs (offset_by (class_rows s))

  offset_interest : class_rows (offset_book s) 1 ≡ offset_rows (class_rows s 1)
  unfolding offset_by
  offset_interest = offset_rows_lem 1 (omega arith) (omega arith)

  -- the same rows make the same book
  unchanged : offset_book (offset_book s) ≡ offset_book s
  unfolding offset_book
  unchanged =
      book_same (offset_by (class_rows (offset_book s))) (offset_by (class_rows s))
      (λ class low high. by_class_again (class_rows s) class (class_rows (offset_book s)) (offset_rows_lem class low high))

  module _ (ok : Accepted s) where
    offset_accepted_lem : Accepted (offset_book s)
    unfolding offset_book
    offset_accepted_lem =
        fewer_accepted ok (offset_by (class_rows s)) (by_class_fewer (class_rows s)) (λ class low high.
        let clean = rows_clean s ok class low high in
        by_class_lem (class_rows s) class (Every (Clean class)) (offset_every clean) clean)

    -- a row of an accepted book does not fit itself
    none_itself : Every (λ row. fits row row ≡ false) (class_rows s 1)
    none_itself = every_implied clean_alone (rows_clean s ok 1 (omega arith) (omega arith))

-- the bytes that offsetting writes are the book without the pairs that fit
offset_bytes : (s out : List ℕ) → (offsetting_refusal s (length out)).number ≡ 0 → take (offset_of s (length out)).length (offsetting_output s out) ≡ offset_book s
unfolding offset_of offsetting_output written_of figure_of output_of
offset_bytes s out e = rw (eq-eqb _ _ e) (book_bytes (offset_book s) out)

pub offsetting : OffsettingHolds
unfolding offsetting_refusal offset_by
offsetting s out e =
    let ok = accepted s (neither_refused (refusal_of s) _ e).0 in
    let rows = offset_rows_lem s in
    record {
      bytes = offset_bytes s out e;
      accepted = refused-with_none (offset_book s) (offset_accepted_lem s ok);
      rows = classes-each rows;
      some_left = rw (offset_interest s) (offset_some (class_rows s 1));
      other_kinds_lem = rw (offset_interest s) (offset_others (class_rows s 1));
      other_classes_lem = also (rows 2 (omega arith) (omega arith)) (also (rows 3 (omega arith) (omega arith)) (also (rows 4 (omega arith) (omega arith)) none));
      none_fit = rw (offset_interest s) (none_fits_any (offset_none_fit (class_rows s 1)) (offset_every (none_itself s ok)));
      unchanged = unchanged s;
    }
