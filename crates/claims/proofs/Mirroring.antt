-- A mirrored row has its long and its short exchanged, and is clean where the row is.
-- Assumes nothing.
use Prim.Native.Nat.{ℕ, zero, suc, ◌+◌, ◌*◌, ◌≤◌, ◌<◌}
use mathlib.Core.Path.{◌≡◌, refl, sym, ap, ap₂, ◌∙◌}
use mathlib.Core.Logic.{inl, inr, ⊎_elim}
use mathlib.Core.List.{List, ◌∷◌, ◌++◌, map}
use native.Mathlib.Omega.{arith}
use lib.ListN.{length, take, drop, get_or, length-drop, get_or-append}
use lib.Seq.{length-take-le, get_or-append-add, get_or-take, get_or-drop}
use Rattle.book.specs.declared.Row.{Row}
use Rattle.book.specs.Fields.{u16_at, u32_at}
use Rattle.book.specs.Counts.{row_size, body_of}
use Rattle.book.specs.Rows.{chunks, rows_in, rows_of, decode}
use Rattle.sums.specs.Every.{Every, none, also}
use Rattle.book.specs.Accepted.{Clean}
use Rattle.claims.specs.Orders.{mirrored_row}
use Rattle.claims.proofs.Charging.{mirrored_leg}

-- ---- the rows of a body have sixteen bytes
chunks-whole : (n : ℕ) (body : List ℕ) → row_size * n ≤ length body → Every (λ bytes. length bytes ≡ row_size) (chunks n body)
unfolding chunks
chunks-whole zero body h = none
chunks-whole (suc n) body h =
    also (length-take-le row_size body (omega arith)) (chunks-whole n (drop row_size body) (rw length-drop (omega arith)))

pub rows_whole : (s : List ℕ) (class : ℕ) → Every (λ bytes. length bytes ≡ row_size) (rows_of s class)
unfolding rows_of rows_in
rows_whole s class = chunks-whole _ (body_of s class) (omega arith)

-- ---- the bytes of a mirrored row
module _ (bytes : List ℕ) (whole : length bytes ≡ row_size) where
  front : length (take 8 bytes) ≡ 8
  front = length-take-le 8 bytes (omega arith)

  back : length (take 4 (drop 12 bytes)) ≡ 4
  back = length-take-le 4 (drop 12 bytes) (rw length-drop (omega arith))

  early : (i : ℕ) → i < 8 → get_or (mirrored_row bytes) i 0 ≡ get_or bytes i 0
  unfolding mirrored_row
  early i h = get_or-append (take 8 bytes) _ 0 i (omega (arith, front)) ∙ get_or-take 8 bytes i 0 h

  past : (i : ℕ) → get_or (mirrored_row bytes) (8 + i) 0 ≡ get_or (take 4 (drop 12 bytes) ++ take 4 (drop 8 bytes)) i 0
  unfolding mirrored_row
  past i = ap (λ (n : ℕ). get_or (mirrored_row bytes) (n + i) 0) (sym front) ∙ get_or-append-add (take 8 bytes) _ i 0

  shorts : (i : ℕ) → i < 4 → get_or (mirrored_row bytes) (8 + i) 0 ≡ get_or bytes (12 + i) 0
  shorts i h = past i ∙ get_or-append (take 4 (drop 12 bytes)) _ 0 i (omega (arith, back)) ∙ rw (get_or-take, get_or-drop)

  longs : (i : ℕ) → i < 4 → get_or (mirrored_row bytes) (12 + i) 0 ≡ get_or bytes (8 + i) 0
  longs i h =
      let place : 12 + i ≡ 8 + (4 + i) = omega arith in
      ap (λ (n : ℕ). get_or (mirrored_row bytes) n 0) place ∙ past (4 + i)
      ∙ ap (λ (n : ℕ). get_or (take 4 (drop 12 bytes) ++ take 4 (drop 8 bytes)) (n + i) 0) (sym back)
      ∙ get_or-append-add (take 4 (drop 12 bytes)) _ i 0
      ∙ rw (get_or-take, get_or-drop)

  pub mirrored_fields : decode (mirrored_row bytes) ≡ mirrored_leg (decode bytes)
  unfolding decode u16_at u32_at
  mirrored_fields =
      simp (
        early 0 (omega arith),
        early 1 (omega arith),
        early 2 (omega arith),
        early 3 (omega arith),
        early 4 (omega arith),
        early 5 (omega arith),
        early 6 (omega arith),
        early 7 (omega arith),
        shorts 0 (omega arith),
        shorts 1 (omega arith),
        shorts 2 (omega arith),
        shorts 3 (omega arith),
        longs 0 (omega arith),
        longs 1 (omega arith),
        longs 2 (omega arith),
        longs 3 (omega arith),
      )

pub mirrored_legs : {rows : List (List ℕ)} → Every (λ bytes. length bytes ≡ row_size) rows → map decode (map mirrored_row rows) ≡ map mirrored_leg (map decode rows)
mirrored_legs none = refl
mirrored_legs (also {a} {rest} whole later) = ap₂ (λ (row : Row) (rows : List Row). row ∷ rows) (mirrored_fields a whole) (mirrored_legs later)

-- ---- a mirrored row is clean where the row is
pub mirrored_clean : (class : ℕ) (row : Row) → Clean class row → Clean class (mirrored_leg row)
mirrored_clean class row clean =
    record {
      group = clean.group;
      kind_from = clean.kind_from;
      kind_to = clean.kind_to;
      terms = clean.terms;
      one_side = ⊎_elim (λ h. inr (h.1, h.0)) (λ h. inl (h.1, h.0)) clean.one_side;
      long = clean.short;
      short = clean.long;
    }
