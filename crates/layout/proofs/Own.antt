-- Of a list of bytes: its numbers, rows and contents, read and then written, are the list's own bytes.
-- Assumes nothing.
use mathlib.Core.Path.{◌≡◌, refl, ap, ◌∙◌}
use mathlib.Core.List.{List, [], ◌∷◌, ◌++◌, map, flat_map, append-nil}
use Prim.Native.Nat.{ℕ, zero, suc, ◌+◌, ◌*◌, ◌/◌, ◌%◌, ◌≤◌, ◌<◌}
use native.Mathlib.Numerals.{add-one}
use native.Mathlib.Omega.{arith}
use lib.ListN.{length, take, drop, get_or, length-drop}
use lib.Seq.{take_all, take-add, length-take-le, drop-drop}
use Rattle.sums.specs.Every.{none, also}
use Rattle.book.specs.Fields.{u16_at, u32_at}
use Rattle.book.specs.Counts.{contents_size, row_size, counts_of, count_in, rows_before, body_by, body_of}
use Rattle.book.specs.Rows.{chunks, rows_in, rows_of, decode}
use Rattle.book.specs.Legs.{legs_of, of_class}
use Rattle.book.proofs.Walking.{class_rows_lem}
use Rattle.layout.specs.Files.{Bytes, two_bytes_of, four_bytes_of, row_bytes, contents_bytes}

bytes_taken : (n : ℕ) {s : List ℕ} → Bytes s → Bytes (take n s)
bytes_taken zero every = none
bytes_taken (suc n) none = none
bytes_taken (suc n) (also p every) = also p (bytes_taken n every)

bytes_dropped : (n : ℕ) {s : List ℕ} → Bytes s → Bytes (drop n s)
bytes_dropped zero every = every
bytes_dropped (suc n) none = none
bytes_dropped (suc n) (also p every) = bytes_dropped n every

-- ---- numbers
next_u16 : (byte at : ℕ) (s : List ℕ) → u16_at (byte ∷ s) (suc at) ≡ u16_at s at
unfolding u16_at
next_u16 byte at s = rw (add-one (suc at), add-one at)

u16_below : (at : ℕ) {s : List ℕ} → Bytes s → u16_at s at < 65536
unfolding u16_at
u16_below zero none = omega arith
u16_below zero (also p none) = omega arith
u16_below zero (also p (also q every)) = omega arith
u16_below (suc at) none = omega arith
u16_below (suc at) (also {a} {rest} p every) = rw (next_u16 a at rest) (u16_below at every)

own_two : (at : ℕ) {s : List ℕ} → Bytes s → at + 2 ≤ length s → two_bytes_of (u16_at s at) ≡ take 2 (drop at s)
unfolding u16_at two_bytes_of
own_two zero none h = let never : ⊥ = omega arith in absurd never
own_two zero (also p none) h = let never : ⊥ = omega arith in absurd never
own_two zero (also {a} p (also {a = b} q every)) h =
    let low : (a + 256 * b) % 256 ≡ a = omega arith in
    let high : (a + 256 * b) / 256 ≡ b = omega arith in
    rw (low, high)
own_two (suc at) none h = let never : ⊥ = omega arith in absurd never
own_two (suc at) (also {a} {rest} p every) h = rw (next_u16 a at rest) (own_two at every (omega arith))

-- two parts that lie one after the other
pieces_from : (at m n : ℕ) (s : List ℕ) → take m (drop at s) ++ take n (drop (at + m) s) ≡ take (m + n) (drop at s)
pieces_from at m n s = rw (← drop-drop m at s, take-add)

own_four : (at : ℕ) {s : List ℕ} → Bytes s → at + 4 ≤ length s → four_bytes_of (u32_at s at) ≡ take 4 (drop at s)
unfolding u32_at four_bytes_of
own_four at {s} every h =
    let below = u16_below at every in
    let low : (u16_at s at + 65536 * u16_at s (at + 2)) % 65536 ≡ u16_at s at = omega arith in
    let high : (u16_at s at + 65536 * u16_at s (at + 2)) / 65536 ≡ u16_at s (at + 2) = omega arith in
    rw (low, high, own_two at every (omega arith), own_two (at + 2) every (omega arith)) (pieces_from at 2 2 s)

-- ---- the contents
pub own_contents : {s : List ℕ} → Bytes s → contents_size ≤ length s → contents_bytes (counts_of s) ≡ take contents_size s
unfolding contents_bytes flat_map counts_of count_in
own_contents {s} every h =
    rw (
      own_two 0 every (omega arith),
      own_two 2 every (omega arith),
      own_two 4 every (omega arith),
      own_two 6 every (omega arith),
      append-nil,
      pieces_from 4 2 2 s,
      pieces_from 2 2 4 s,
      ← take-add 2 6 s,
    )

-- ---- a row
first_two : (s rest : List ℕ) → 2 ≤ length s → get_or s 0 0 ∷ get_or s 1 0 ∷ rest ≡ take 2 s ++ rest
first_two [] rest h = let never : ⊥ = omega arith in absurd never
first_two (a ∷ []) rest h = let never : ⊥ = omega arith in absurd never
first_two (a ∷ b ∷ s) rest h = refl

own_row : {b : List ℕ} → Bytes b → length b ≡ row_size → row_bytes (decode b) ≡ b
unfolding row_bytes decode
own_row {b} every h =
    rw (
      own_two 2 every (omega arith),
      own_two 4 every (omega arith),
      own_two 6 every (omega arith),
      own_four 8 every (omega arith),
      own_four 12 every (omega arith),
      pieces_from 8 4 4 b,
      pieces_from 6 2 8 b,
      pieces_from 4 2 10 b,
      pieces_from 2 2 12 b,
    )
    (first_two b (take 14 (drop 2 b)) (omega arith) ∙ rw (← take-add 2 14 b) (take_all 16 b (omega arith)))

-- the row at an offset
pub own_row_at : {s : List ℕ} → Bytes s → (at : ℕ) → at + row_size ≤ length s → row_bytes (decode (take row_size (drop at s))) ≡ take row_size (drop at s)
own_row_at {s} every at h =
    own_row (bytes_taken row_size (bytes_dropped at every)) (length-take-le row_size (drop at s) (rw length-drop (omega arith)))

-- ---- the rows of a body
own_chunks : (n : ℕ) {body : List ℕ} → Bytes body → row_size * n ≤ length body → map row_bytes (map decode (chunks n body)) ≡ chunks n body
unfolding chunks
own_chunks zero every h = refl
own_chunks (suc n) {body} every h =
    rw (own_row_at every 0 (omega arith))
    (ap (λ rows. take row_size body ∷ rows) (own_chunks n (bytes_dropped row_size every) (rw length-drop (omega arith))))

body_bytes : {s : List ℕ} → Bytes s → (class : ℕ) → Bytes (body_of s class)
unfolding body_of body_by
body_bytes {s} every class =
    bytes_taken (row_size * count_in (counts_of s) class) (bytes_dropped (contents_size + row_size * rows_before (counts_of s) class) every)

pub own_rows : {s : List ℕ} → Bytes s → (class : ℕ) → 1 ≤ class → class ≤ 4 → map row_bytes (of_class class (legs_of s)) ≡ rows_of s class
unfolding rows_of rows_in
own_rows {s} every class low high =
    rw (class_rows_lem s class low high) (own_chunks (length (body_of s class) / row_size) (body_bytes every class) (omega arith))
