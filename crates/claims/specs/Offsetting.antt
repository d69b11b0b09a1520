-- Offsetting swap legs (P2): what is written. Nothing is claimed of what it costs: offsetting may raise a charge, and what it drops depends on the order of the rows.
use Rattle.std.specs.Prelude.{ℕ, ◌≡◌, false, length, take}
use mathlib.Core.List.{List, [], ◌∷◌, Memᴰ, Sublistᴰ}
use Rattle.sums.specs.Every.{Every}
use Rattle.book.specs.declared.Row.{Row}
use Rattle.book.specs.Counts.{classes}
use Rattle.book.specs.Refusals.{refused, refusal_of}
use Rattle.swaps.specs.Fitting.{fits}
use Rattle.swaps.specs.Offset.{other_kinds}
use Rattle.charges.specs.Report.{class_rows}
use Rattle.offsetting.specs.Offset.{offset_by, offset_book, offsetting_refusal, offset_of, offsetting_output}

-- the bytes that offsetting writes, up to the length that it gives, are the book without the pairs that fit; it is accepted, and has the rows of each
-- class, the interest rows offset, which are some of the book's in their order; those of other kinds, and all rows of other classes, are the same in the
-- same order; no interest row fits another; and offset again it is the same
pub record Offsetting (s out : List ℕ) : Type 0 where
  pub bytes : take (offset_of s (length out)).length (offsetting_output s out) ≡ offset_book s
  pub accepted : refusal_of (offset_book s) ≡ refused 0 0
  pub rows : Every (λ class. class_rows (offset_book s) class ≡ offset_by (class_rows s) class) classes
  pub some_left : Sublistᴰ (class_rows (offset_book s) 1) (class_rows s 1)
  pub other_kinds_lem : other_kinds (class_rows (offset_book s) 1) ≡ other_kinds (class_rows s 1)
  pub other_classes_lem : Every (λ class. class_rows (offset_book s) class ≡ class_rows s class) (2 ∷ 3 ∷ 4 ∷ [])
  pub none_fit : (a b : Row) → Memᴰ a (class_rows (offset_book s) 1) → Memᴰ b (class_rows (offset_book s) 1) → fits a b ≡ false
  pub unchanged : offset_book (offset_book s) ≡ offset_book s

-- for every book and every output that offsetting accepts
abbrev pub OffsettingHolds : Type 0
OffsettingHolds = (s out : List ℕ) → (offsetting_refusal s (length out)).number ≡ 0 → Offsetting s out
