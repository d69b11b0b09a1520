-- The counts of the rows that are left, and their bodies, make the book of them.
-- Assumes nothing.
use mathlib.Core.Path.{◌≡◌, sym, ap, ◌∙◌}
use mathlib.Core.List.{List, flat_map}
use Prim.Native.Nat.{ℕ, ◌+◌, ◌*◌, ◌≤◌}
use native.Mathlib.Nat.{zero-add}
use native.Mathlib.Omega.{arith}
use lib.ListN.{length, length-append}
use Rattle.book.specs.declared.Counts.{Counts}
use Rattle.book.specs.Counts.{contents_size, row_size, classes, counts_of, rows_before, count_of_rows}
use Rattle.book.specs.declared.Row.{Row}
use Rattle.book.specs.Legs.{legs_of, of_class}
use Rattle.book.specs.Accepted.{Accepted}
use Rattle.book.specs.declared.Refusal.{Refusal}
use Rattle.book.proofs.ClassRows.{class_size}
use Rattle.ladder.specs.Position.{Bands}
use Rattle.layout.specs.Written.{written}
use Rattle.layout.specs.Room.{Written, room_refusal, written_of, output_of}
use Rattle.layout.specs.Files.{contents_bytes, file_of, counts_by, book_by}
use Rattle.layout.proofs.Writing.{written_after}
use Rattle.layout.proofs.Whole.{contents_length}
use Rattle.layout.proofs.Rows.{book_length, book_same}
use Rattle.amounts.specs.declared.positions.Amounts.{Amounts}
use Rattle.amounts.specs.Inner.Standing.{positions_in, standing, standing_book, Stands, standing_of, standing_output}
use Rattle.amounts.specs.Inner.Counting.{left_rows, class_left, left_counts}
use Rattle.amounts.specs.Inner.Writing.{standing_body}
use Rattle.amounts.proofs.Standing.{standing-length}

module _ (s : List ℕ) (ok : Accepted s) (positions : Bands) where
  abbrev counts : Counts
  counts = counts_of s

  counted : (class : ℕ) → 1 ≤ class → class ≤ 4 → class_left positions counts class ≡ length (standing positions s class)
  counted class low high =
      ap (left_rows positions (rows_before counts class)) (sym (class_size s ok class low high))
      ∙ sym (standing-length positions (rows_before counts class) (of_class class (legs_of s)))

  counts_are : left_counts positions counts ≡ counts_by (standing positions s)
  unfolding left_counts counts_by
  counts_are =
      λ i. record {
        interest = counted 1 (omega arith) (omega arith) i;
        equity = counted 2 (omega arith) (omega arith) i;
        exchange = counted 3 (omega arith) (omega arith) i;
        commodity = counted 4 (omega arith) (omega arith) i;
      }

  -- ---- the contents and then the bodies
  abbrev contents : List ℕ
  contents = contents_bytes (counts_by (standing positions s))

  abbrev bodies : List ℕ
  bodies = flat_map (standing_body positions s) classes

  pub size_is : contents_size + row_size * count_of_rows (left_counts positions counts) ≡ length (standing_book positions s)
  unfolding standing_book
  size_is = rw counts_are (sym (book_length (standing positions s)))

  pub bodies_size : contents_size + length (flat_map (standing_body positions s) classes) ≡ length (standing_book positions s)
  unfolding standing_book book_by file_of
  bodies_size = sym (length-append contents bodies ∙ ap (λ (n : ℕ). n + length bodies) (contents_length (counts_by (standing positions s))))

  pub writes-whole : (out : List ℕ) → length (standing_book positions s) ≤ length out
      → written (written out 0 (contents_bytes (left_counts positions counts))) contents_size (flat_map (standing_body positions s) classes) ≡ written out 0 (standing_book positions s)
  unfolding standing_book book_by file_of
  writes-whole out room =
      let all : length contents + length bodies ≤ length out = rw (length-append contents bodies) at room in
      rw (counts_are, ← contents_length (counts_by (standing positions s))) (rw zero-add at (written_after out contents bodies 0 (omega arith)))

-- the book of the rows that the amounts make, as it is written
module _ {s : List ℕ} {rows : ℕ → List Row} {amounts : Amounts} (now : Stands s rows amounts) where
  stands_book : standing_book (positions_in amounts) s ≡ book_by rows
  unfolding standing_book
  stands_book = book_same (standing (positions_in amounts) s) rows now.each

  pub stands_written : (out : List ℕ) {done : Written}
      → done ≡ standing_of (positions_in amounts) s (length out)
      → done ≡ written_of (room_refusal (length (book_by rows)) (length out)) (book_by rows)
  stands_written out is = rw stands_book at is

  pub stands_output : (refusal : Refusal) (out : List ℕ) {after : List ℕ}
      → after ≡ output_of refusal (standing_book (positions_in amounts) s) out
      → after ≡ output_of refusal (book_by rows) out
  stands_output refusal out is = rw stands_book at is

  -- and where the only refusal is that of the room
  pub stands_output_by_room : (out : List ℕ) {after : List ℕ}
      → after ≡ standing_output (positions_in amounts) s out
      → after ≡ output_of (room_refusal (length (book_by rows)) (length out)) (book_by rows) out
  stands_output_by_room out is = rw stands_book at is
