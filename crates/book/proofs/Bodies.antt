-- The bodies of a book that is as long as its counts say: how long each is, where its rows lie, and that they make up the file.
-- Assumes nothing.
use mathlib.Core.Path.{◌≡◌, sym, ap, ◌∙◌}
use mathlib.Core.List.{List, [], ◌∷◌, ◌++◌, flat_map}
use Prim.Native.Nat.{ℕ, zero, suc, ◌+◌, ◌-◌, ◌*◌, ◌/◌, ◌≤◌, ◌<◌}
use native.Mathlib.Omega.{arith}
use lib.ListN.{length, take, drop, get_or, length-drop, take-append-drop, drop_of_length-le}
use lib.Seq.{length-take-le, take-nil, take-take, drop-drop}
use Rattle.book.specs.Counts.{contents_size, row_size, classes, counts_of, count_in, rows_before, count_of_rows, body_by, body_of}
use Rattle.book.specs.Rows.{rows_in, rows_of}
use Rattle.book.proofs.Placing.{before-none, before-next, before-all, before-within}
use Rattle.book.proofs.Chunks.{chunk_at, row_count}

drop_take : (k n : ℕ) (l : List ℕ) → drop k (take n l) ≡ take (n - k) (drop k l)
drop_take zero n l = let all : n - 0 ≡ n = omega arith in rw all
drop_take (suc k) zero l = let none : 0 - suc k ≡ 0 = omega arith in rw none
drop_take (suc k) (suc n) [] = rw take-nil
drop_take (suc k) (suc n) (a ∷ l) = let less : suc n - suc k ≡ n - k = omega arith in rw less (drop_take k n l)

module _ (s : List ℕ) (sized : length s ≡ contents_size + row_size * count_of_rows (counts_of s)) (class : ℕ) where
  abbrev start : ℕ
  start = contents_size + row_size * rows_before (counts_of s) class

  abbrev size : ℕ
  size = row_size * count_in (counts_of s) class

  pub body_length : length (body_of s class) ≡ row_size * count_in (counts_of s) class
  unfolding body_of body_by
  body_length =
      length-take-le size (drop start s) (simp length-drop (omega (arith, before-within (counts_of s) class)))

  pub class_count_lem : length (rows_of s class) ≡ count_in (counts_of s) class
  unfolding rows_of
  class_count_lem = row_count (body_of s class) ∙ omega (arith, body_length)

  -- the bytes of row k of the class
  pub row_bytes_lem : (k : ℕ) → k < count_in (counts_of s) class
      → get_or (rows_of s class) k [] ≡ take row_size (drop (contents_size + row_size * (rows_before (counts_of s) class + k)) s)
  unfolding rows_of rows_in body_of body_by
  row_bytes_lem k h =
      let many : k < length (body_of s class) / row_size = omega (arith, body_length) in
      let whole : row_size ≤ size - row_size * k = omega arith in
      let place : start + row_size * k ≡ contents_size + row_size * (rows_before (counts_of s) class + k) = omega arith in
      chunk_at _ (body_of s class) k many
      ∙ rw (drop_take (row_size * k) size (drop start s), take-take row_size (size - row_size * k) _ whole, drop-drop (row_size * k) start s, place)

-- a class's body, and then what follows it
pub body_then : (s : List ℕ) (class : ℕ)
    → drop (contents_size + row_size * rows_before (counts_of s) class) s
    ≡ body_of s class ++ drop (contents_size + row_size * rows_before (counts_of s) (class + 1)) s
unfolding body_of body_by
body_then s class =
    let start = contents_size + row_size * rows_before (counts_of s) class in
    let size = row_size * count_in (counts_of s) class in
    let past : contents_size + row_size * rows_before (counts_of s) (class + 1) ≡ start + size = omega (arith, before-next (counts_of s) class) in
    rw (past, ← drop-drop size start s) (sym (take-append-drop size (drop start s)))

-- the contents and the four bodies make up the file
pub whole_file : (s : List ℕ) → length s ≡ contents_size + row_size * count_of_rows (counts_of s) → take contents_size s ++ flat_map (body_of s) classes ≡ s
unfolding flat_map
whole_file s sized =
    let first : contents_size + row_size * rows_before (counts_of s) 1 ≡ contents_size = omega (arith, before-none (counts_of s) 1 (omega arith)) in
    let end : length s ≤ contents_size + row_size * rows_before (counts_of s) 5 = omega (arith, before-all (counts_of s) 5 (omega arith)) in
    let bodies : drop contents_size s ≡ body_of s 1 ++ (body_of s 2 ++ (body_of s 3 ++ (body_of s 4 ++ []))) =
    ap (λ (n : ℕ). drop n s) (sym first) ∙ rw (body_then s 1, body_then s 2, body_then s 3, body_then s 4, drop_of_length-le s end) in
    rw (← bodies) (take-append-drop contents_size s)
