-- The joined book is a book: its counts are the sums, each of its bodies is A's followed by B's, so are its rows, and it is accepted.
-- Assumes nothing.
use mathlib.Core.Path.{◌≡◌}
use mathlib.Core.List.{List, ◌++◌}
use Prim.Native.Nat.{ℕ, ◌+◌, ◌*◌, ◌≤◌}
use native.Mathlib.Omega.{arith}
use lib.ListN.{length, length-append}
use Rattle.book.specs.declared.Counts.{Counts}
use Rattle.book.specs.Counts.{contents_size, row_size, counts_of, count_in, count_of_rows, body_of}
use Rattle.book.specs.Rows.{rows_in, rows_of, decode}
use Rattle.book.specs.Refusals.{most_rows}
use Rattle.sums.specs.Every.{Every}
use Rattle.book.specs.Accepted.{Clean, Accepted}
use Rattle.book.proofs.Bodies.{body_length}
use Rattle.sums.proofs.Every.{every_append}
use Rattle.book.proofs.Acceptance.{class_clean}
use Rattle.sums.proofs.Cases.{cond_add}
use Rattle.join.specs.Joined.{added_counts, joined_counts, joined_body, joined}
use Rattle.layout.proofs.Whole.{file_body, file_length, file_accepted}
use Rattle.layout.proofs.Appended.{rows_append}

-- ---- counts added
added_in : (x y : Counts) (class : ℕ) → count_in (added_counts x y) class ≡ count_in x class + count_in y class
unfolding count_in added_counts
added_in x y class = simp cond_add

-- ---- the joined book
module _ (a b : List ℕ) where
  module _ (first : Accepted a) (second : Accepted b) where
    body_sizes : (class : ℕ) → length (joined_body a b class) ≡ row_size * count_in (joined_counts a b) class
    unfolding joined_body joined_counts
    body_sizes class =
        rw length-append
        (omega (arith, body_length a first.sized class, body_length b second.sized class, added_in (counts_of a) (counts_of b) class))

    pub joined_length : length (joined a b) ≡ contents_size + row_size * count_of_rows (joined_counts a b)
    unfolding joined
    joined_length = file_length (joined_counts a b) (joined_body a b) body_sizes

    pub joined-body : (class : ℕ) → body_of (joined a b) class ≡ body_of a class ++ body_of b class
    unfolding joined joined_body
    joined-body = file_body (joined_counts a b) (joined_body a b) body_sizes

    pub joined-rows : (class : ℕ) → rows_of (joined a b) class ≡ rows_of a class ++ rows_of b class
    unfolding rows_of
    joined-rows class = rw (joined-body class) (rows_append _ (body_of a class) (body_of b class) (body_length a first.sized class))

    -- no row of the joined book is refused
    bodies_clean : (class : ℕ) → 1 ≤ class → class ≤ 4 → Every (λ bytes. Clean class (decode bytes)) (rows_in (joined_body a b class))
    unfolding joined_body rows_of
    bodies_clean class low high =
        rw (rows_append _ (body_of a class) (body_of b class) (body_length a first.sized class))
        (every_append (class_clean a first class low high) (class_clean b second class low high))

    pub joined-accepted : count_of_rows (joined_counts a b) ≤ most_rows → Accepted (joined a b)
    unfolding joined
    joined-accepted few = file_accepted (joined_counts a b) (joined_body a b) body_sizes few bodies_clean
