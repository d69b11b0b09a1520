-- The rows of a class of an accepted book: those of its part, as many as its counts say, all clean; and a row of a part by its number.
-- Assumes nothing.
use mathlib.Core.Path.{◌≡◌, sym, ap, ◌∙◌}
use mathlib.Core.List.{List, []}
use Prim.Native.Nat.{ℕ, ◌≤◌}
use lib.ListN.{length, get_or, length-map, get_or-map}
use Rattle.sums.specs.Every.{Every}
use Rattle.sums.proofs.Every.{mapped_every}
use Rattle.book.specs.Counts.{Counts, counts_of, count_in, rows_before, body_by, body_of}
use Rattle.book.specs.Rows.{Row, rows_in, rows_of, decode}
use Rattle.book.specs.Legs.{legs_of, of_class}
use Rattle.book.specs.Accepted.{Clean, Accepted}
use Rattle.book.specs.Inner.Reading.{row_of, part_rows}
use Rattle.book.proofs.Bodies.{class_count_lem}
use Rattle.book.proofs.Walking.{class_rows_lem}
use Rattle.book.proofs.Acceptance.{class_clean}

-- past the last row every field is zero
abbrev pub no_row : Row
no_row = decode []

-- a row of a part is one of its rows, by its fields
pub row_is : (part : List ℕ) (k : ℕ) → row_of part k ≡ get_or (part_rows part) k no_row
unfolding row_of
row_is part k = sym (get_or-map decode (rows_in part) k [])

module _ (s : List ℕ) (ok : Accepted s) (class : ℕ) (low : 1 ≤ class) (high : class ≤ 4) where
  pub part_rows_lem : part_rows (body_of s class) ≡ of_class class (legs_of s)
  unfolding rows_of
  part_rows_lem = sym (class_rows_lem s class low high)

  pub class_size : length (of_class class (legs_of s)) ≡ count_in (counts_of s) class
  class_size = rw (class_rows_lem s class low high) (length-map (rows_of s class) decode ∙ class_count_lem s ok.sized class)

  pub rows_clean : Every (Clean class) (of_class class (legs_of s))
  rows_clean = rw (class_rows_lem s class low high) (mapped_every decode (λ bytes clean. clean) (class_clean s ok class low high))

  -- a part and the number of its first row, where both were read by the book's own counts
  module _ (counts : Counts) (own : counts ≡ counts_of s) {first : ℕ} {part : List ℕ} (is_first : first ≡ rows_before counts class) (is-part : part ≡ body_by counts s class) where
    pub first-is : first ≡ rows_before (counts_of s) class
    first-is = is_first ∙ ap (λ (n : Counts). rows_before n class) own

    pub rows_are : part_rows part ≡ of_class class (legs_of s)
    unfolding body_of
    rows_are = ap part_rows (is-part ∙ ap (λ (n : Counts). body_by n s class) own) ∙ part_rows_lem
