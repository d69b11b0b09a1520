-- What the laws of netting and of offsetting share: a call that is not refused, the bytes of a written book, and a book with no more rows in any class than another.
-- Assumes nothing.
use Prim.Native.Nat.{ℕ, ◌≤◌}
use mathlib.Core.Path.{◌≡◌, refl}
use mathlib.Core.Bool.{Bool, true, false, cond}
use mathlib.Core.List.{List, [], ◌∷◌}
use native.Mathlib.Omega.{arith}
use lib.Dec.{eqb}
use lib.ListN.{length, take}
use lib.Seq.{take_at}
use borrow.Author.Tests.{eqb-true, eqb-false}
use Rattle.sums.specs.Every.{Every, none, also}
use Rattle.book.specs.declared.Row.{Row}
use Rattle.book.specs.declared.Refusal.{Refusal}
use Rattle.book.specs.Counts.{classes, counts_of, count_in, count_of_rows}
use Rattle.book.specs.Accepted.{Clean, Accepted}
use Rattle.book.proofs.Placing.{of_four}
use Rattle.layout.specs.Written.{written}
use Rattle.layout.specs.Room.{or_next}
use Rattle.layout.specs.Files.{counts_by, book_by}
use Rattle.layout.proofs.Whole.{file_counts}
use Rattle.layout.proofs.Rows.{book_accepted}
use Rattle.charges.specs.Report.{class_rows}
use Rattle.book.proofs.ClassRows.{class_size}

-- of two refusals, one after the other, neither applies
pub neither_refused : (refusal next : Refusal) → (or_next refusal next).number ≡ 0 → (refusal.number ≡ 0) × (next.number ≡ 0)
unfolding or_next
neither_refused refusal next = go (eqb refusal.number 0) refl
  where
    go : (test : Bool) → eqb refusal.number 0 ≡ test → (cond test next refusal).number ≡ 0 → (refusal.number ≡ 0) × (next.number ≡ 0)
    go true t e = (eqb-true _ _ t, e)
    go false t e = absurd (eqb-false _ _ t e)

-- what holds of each class
pub classes-each : {P : ℕ → Type 0} → ((class : ℕ) → 1 ≤ class → class ≤ 4 → P class) → Every P classes
classes-each each =
    also (each 1 (omega arith) (omega arith))
    (also (each 2 (omega arith) (omega arith)) (also (each 3 (omega arith) (omega arith)) (also (each 4 (omega arith) (omega arith)) none)))

pub each_class_lem : {P : ℕ → Type 0} → Every P classes → (class : ℕ) → 1 ≤ class → class ≤ 4 → P class
each_class_lem {P} (also one (also two (also three (also four none)))) = of_four P one two three four

pub others : {P : ℕ → Type 0} → Every P (2 ∷ 3 ∷ 4 ∷ []) → P 2 × P 3 × P 4
others (also two (also three (also four none))) = (two, three, four)

-- the bytes of a book that is written at the start of an output
pub book_bytes : (book out : List ℕ) → take (length book) (written out 0 book) ≡ book
unfolding written
book_bytes book out = take_at book _ (length book) refl

pub book_counts : (rows : ℕ → List Row) → counts_of (book_by rows) ≡ counts_by rows
unfolding book_by
book_counts rows = file_counts (counts_by rows) _

module _ {s : List ℕ} (ok : Accepted s) (rows : ℕ → List Row) (fewer : (class : ℕ) → length (rows class) ≤ length (class_rows s class)) where
  pub fewer_rows : count_of_rows (counts_by rows) ≤ count_of_rows (counts_of s)
  unfolding count_of_rows counts_by count_in
  fewer_rows =
      omega (
        arith,
        class_size s ok 1 (omega arith) (omega arith),
        class_size s ok 2 (omega arith) (omega arith),
        class_size s ok 3 (omega arith) (omega arith),
        class_size s ok 4 (omega arith) (omega arith),
        fewer 1,
        fewer 2,
        fewer 3,
        fewer 4,
      )

  pub fewer_accepted : ((class : ℕ) → 1 ≤ class → class ≤ 4 → Every (Clean class) (rows class)) → Accepted (book_by rows)
  fewer_accepted = book_accepted rows (omega (arith, fewer_rows, ok.few))
