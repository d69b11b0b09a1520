-- The bytes of rows read back, and the book that the rows of each class make.
-- Assumes nothing.
use mathlib.Core.Path.{◌≡◌, refl, ap, ◌∙◌}
use mathlib.Core.Bool.{Bool, true, false, cond}
use mathlib.Core.List.{List, [], ◌∷◌, map, flat_map}
use Prim.Native.Nat.{ℕ, ◌+◌, ◌*◌, ◌/◌, ◌%◌, ◌≤◌}
use native.Mathlib.Omega.{arith}
use lib.Dec.{eqb}
use lib.ListN.{length, length-append}
use Rattle.sums.specs.Every.{Every}
use Rattle.sums.proofs.Every.{mapped_every}
use Rattle.book.specs.declared.Row.{Row}
use Rattle.book.specs.Fields.{u16_at, u32_at}
use Rattle.book.specs.Counts.{contents_size, row_size, count_in, count_of_rows}
use Rattle.book.specs.Rows.{chunks, rows_in, rows_of, decode}
use Rattle.book.specs.Legs.{legs_of, of_class}
use Rattle.book.specs.Refusals.{most_rows}
use Rattle.book.specs.Accepted.{Clean, Accepted}
use Rattle.book.proofs.Placing.{of_four}
use Rattle.book.proofs.Walking.{class_rows_lem}
use Rattle.layout.specs.Files.{two_bytes_of, four_bytes_of, row_bytes, file_of, counts_by, book_by}
use Rattle.layout.proofs.Appended.{rows_append}
use Rattle.layout.proofs.Whole.{two_bytes, file_body, file_length, file_accepted}

-- ---- one row
four_bytes : (n : ℕ) → n % 65536 + 65536 * (n / 65536) ≡ n
four_bytes n = omega arith

pub row_back : (row : Row) → decode (row_bytes row) ≡ row
unfolding decode u16_at u32_at row_bytes two_bytes_of four_bytes_of
row_back row = simp (two_bytes, four_bytes)

row_alone : (row : Row) → rows_in (row_bytes row) ≡ row_bytes row ∷ []
unfolding rows_in chunks row_bytes two_bytes_of four_bytes_of
row_alone row = refl

pub row_length : (row : Row) → length (row_bytes row) ≡ row_size
unfolding row_bytes two_bytes_of four_bytes_of
row_length row = refl

-- ---- some rows
none_alone : rows_in [] ≡ []
unfolding rows_in chunks
none_alone = refl

pub rows_back : (rows : List Row) → rows_in (flat_map row_bytes rows) ≡ map row_bytes rows
unfolding flat_map
rows_back [] = none_alone
rows_back (row ∷ rows) = rw (rows_append 1 (row_bytes row) (flat_map row_bytes rows) (row_length row), row_alone row, rows_back rows)

pub rows_length : (rows : List Row) → length (flat_map row_bytes rows) ≡ row_size * length rows
unfolding flat_map
rows_length [] = refl
rows_length (row ∷ rows) = rw length-append (omega (arith, row_length row, rows_length rows))

fields_back : (rows : List Row) → map decode (map row_bytes rows) ≡ rows
fields_back [] = refl
fields_back (row ∷ rows) = rw (row_back row, fields_back rows)

-- ---- the book of the rows of each class
module _ (rows : ℕ → List Row) where
  -- of the classes alone, since other numbers have no rows in a book
  of_classes : ℕ → List Row
  of_classes class = cond (eqb class 1) (rows 1) (cond (eqb class 2) (rows 2) (cond (eqb class 3) (rows 3) (cond (eqb class 4) (rows 4) [])))

  abbrev body : ℕ → List ℕ
  body class = flat_map row_bytes (of_classes class)

  as_file : book_by rows ≡ file_of (counts_by rows) body
  unfolding book_by file_of flat_map of_classes
  as_file = refl

  body_sizes : (class : ℕ) → length (body class) ≡ row_size * count_in (counts_by rows) class
  unfolding count_in counts_by of_classes
  body_sizes class = rows_length (of_classes class) ∙ ap (λ (n : ℕ). row_size * n) (go (eqb class 1) (eqb class 2) (eqb class 3) (eqb class 4))
    where
      go : (p q r s : Bool) → length (cond p (rows 1) (cond q (rows 2) (cond r (rows 3) (cond s (rows 4) []))))
          ≡ cond p (length (rows 1)) (cond q (length (rows 2)) (cond r (length (rows 3)) (cond s (length (rows 4)) 0)))
      go true q r s = refl
      go false true r s = refl
      go false false true s = refl
      go false false false true = refl
      go false false false false = refl

  of_class_lem : (class : ℕ) → 1 ≤ class → class ≤ 4 → of_classes class ≡ rows class
  unfolding of_classes
  of_class_lem = of_four (λ class. of_classes class ≡ rows class) refl refl refl refl

  pub book_rows : (class : ℕ) → 1 ≤ class → class ≤ 4 → rows_of (book_by rows) class ≡ map row_bytes (rows class)
  unfolding rows_of
  book_rows class low high =
      rw (as_file, file_body (counts_by rows) body body_sizes class, rows_back (of_classes class)) (ap (map row_bytes) (of_class_lem class low high))

  pub book_legs : (class : ℕ) → 1 ≤ class → class ≤ 4 → of_class class (legs_of (book_by rows)) ≡ rows class
  book_legs class low high = class_rows_lem (book_by rows) class low high ∙ rw (book_rows class low high) (fields_back (rows class))

  pub book_length : length (book_by rows) ≡ contents_size + row_size * count_of_rows (counts_by rows)
  book_length = rw as_file (file_length (counts_by rows) body body_sizes)

  pub book_accepted : count_of_rows (counts_by rows) ≤ most_rows → ((class : ℕ) → 1 ≤ class → class ≤ 4 → Every (Clean class) (rows class)) → Accepted (book_by rows)
  book_accepted few clean =
      rw as_file (file_accepted (counts_by rows) body body_sizes few (λ class low high.
      rw (rows_back (of_classes class), of_class_lem class low high)
      (mapped_every row_bytes (λ row is. rw (row_back row) is) (clean class low high))))

-- it is made of the rows of the classes alone
pub book_same : (rows rows' : ℕ → List Row) → ((class : ℕ) → 1 ≤ class → class ≤ 4 → rows class ≡ rows' class) → book_by rows ≡ book_by rows'
unfolding book_by file_of flat_map counts_by
book_same rows rows' same =
    rw (
      same 1 (omega arith) (omega arith),
      same 2 (omega arith) (omega arith),
      same 3 (omega arith) (omega arith),
      same 4 (omega arith) (omega arith),
    )
