-- The rows of a body followed by another are the one's and then the other's.
-- Assumes nothing.
use mathlib.Core.Path.{◌≡◌}
use mathlib.Core.List.{List, [], ◌++◌}
use Prim.Native.Nat.{ℕ, zero, suc, ◌+◌, ◌*◌, ◌/◌, ◌≤◌}
use native.Mathlib.Nat.{zero-add, suc-add}
use native.Mathlib.Omega.{arith}
use lib.ListN.{length, drop, length-append, length-drop}
use lib.Seq.{take_all, take-append-le, drop-append-le}
use Rattle.book.specs.Counts.{row_size}
use Rattle.book.specs.Rows.{chunks, rows_in}

chunks-append : (n m : ℕ) (x y : List ℕ) → length x ≡ row_size * n → chunks (n + m) (x ++ y) ≡ chunks n x ++ chunks m y
unfolding chunks
chunks-append zero m x y h =
    let empty : [] ≡ x = take_all 0 x (omega arith) in
    rw (zero-add, ← empty)
chunks-append (suc n) m x y h =
    let whole : row_size ≤ length x = omega arith in
    let rest : length (drop row_size x) ≡ row_size * n = rw length-drop (omega arith) in
    rw (suc-add, take-append-le row_size x y whole, drop-append-le row_size x y whole, chunks-append n m (drop row_size x) y rest)

pub rows_append : (n : ℕ) (x y : List ℕ) → length x ≡ row_size * n → rows_in (x ++ y) ≡ rows_in x ++ rows_in y
unfolding rows_in
rows_append n x y h =
    let first : length x / row_size ≡ n = omega arith in
    let both : length (x ++ y) / row_size ≡ n + length y / row_size = rw length-append (omega arith) in
    rw (both, first) (chunks-append n (length y / row_size) x y h)
