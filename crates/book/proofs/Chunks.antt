-- The rows of a body: how many there are, where each lies, and their fields.
-- Assumes nothing.
use mathlib.Core.Path.{◌≡◌, refl, ap, ◌∙◌}
use mathlib.Core.List.{List, []}
use Prim.Native.Nat.{ℕ, zero, suc, ◌+◌, ◌*◌, ◌/◌, ◌≤◌, ◌<◌}
use native.Mathlib.Nat.{add_assoc, add-zero, le_of_suc-le-suc}
use native.Mathlib.Omega.{arith}
use lib.ListN.{length, take, drop, get_or}
use lib.Seq.{get_or-take, get_or-drop, drop-drop}
use Rattle.book.specs.Fields.{u16_at, u32_at}
use Rattle.book.specs.Counts.{row_size}
use Rattle.book.specs.Rows.{chunks, rows_in, decode}

pub chunk_count : (n : ℕ) (body : List ℕ) → length (chunks n body) ≡ n
unfolding chunks
chunk_count zero body = refl
chunk_count (suc n) body = ap suc (chunk_count n (drop row_size body))

pub chunk_at : (n : ℕ) (body : List ℕ) (i : ℕ) → i < n → get_or (chunks n body) i [] ≡ take row_size (drop (row_size * i) body)
unfolding chunks
chunk_at zero body i h = let never : ⊥ = omega arith in absurd never
chunk_at (suc n) body zero h = refl
chunk_at (suc n) body (suc i) h =
    let past : row_size + row_size * i ≡ row_size * suc i = omega arith in
    chunk_at n (drop row_size body) i (le_of_suc-le-suc h) ∙ rw (drop-drop, past)

pub row_count : (body : List ℕ) → length (rows_in body) ≡ length body / row_size
unfolding rows_in
row_count body = chunk_count (length body / row_size) body

-- a part of a list reads as the list does, from the part's start on
module _ (s : List ℕ) (start size : ℕ) where
  pub part_byte : (at : ℕ) → at < size → get_or (take size (drop start s)) at 0 ≡ get_or s (start + at) 0
  part_byte at h = rw (get_or-take, get_or-drop)

  pub part_u16 : (at : ℕ) → at + 2 ≤ size → u16_at (take size (drop start s)) at ≡ u16_at s (start + at)
  unfolding u16_at
  part_u16 at h = rw (part_byte at (omega arith), part_byte (at + 1) (omega arith), ← add_assoc)

  pub part_u32 : (at : ℕ) → at + 4 ≤ size → u32_at (take size (drop start s)) at ≡ u32_at s (start + at)
  unfolding u32_at
  part_u32 at h = rw (part_u16 at (omega arith), part_u16 (at + 2) (omega arith), ← add_assoc)

-- the fields of the sixteen bytes at an offset
module _ (s : List ℕ) (start : ℕ) where
  pub row_fields : decode (take row_size (drop start s)) ≡ record {
    group = get_or s start 0;
    kind = get_or s (start + 1) 0;
    days = u16_at s (start + 2);
    coupon = u16_at s (start + 4);
    issue = u16_at s (start + 6);
    long = u32_at s (start + 8);
    short = u32_at s (start + 12);
  }
  unfolding decode
  row_fields =
      let group = part_byte s start row_size 0 (omega arith) in
      let kind = part_byte s start row_size 1 (omega arith) in
      let days = part_u16 s start row_size 2 (omega arith) in
      let coupon = part_u16 s start row_size 4 (omega arith) in
      let issue = part_u16 s start row_size 6 (omega arith) in
      let long = part_u32 s start row_size 8 (omega arith) in
      let short = part_u32 s start row_size 12 (omega arith) in
      simp (group, kind, days, coupon, issue, long, short, add-zero)
