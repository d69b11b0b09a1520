-- Tables of sums that are filled row by row: what they hold after some rows, and that there is room for the next.
-- Assumes nothing.
use mathlib.Core.Path.{◌≡◌, sym, ap, ◌∙◌}
use mathlib.Core.Bool.{false}
use mathlib.Core.List.{List, [], ◌∷◌, ◌++◌, map}
use Prim.Native.Nat.{ℕ, suc, ◌+◌, ◌≤◌, ◌<◌}
use native.Mathlib.Numerals.{add-one}
use native.Mathlib.Omega.{arith}
use borrow.Author.Tests.{eq-eqb, ne_eqb}
use lib.Dec.{eqb}
use lib.ListN.{length, take, drop, get_or, set, replicate, get_or-map}
use lib.Seq.{take-suc, split_at}
use Rattle.sums.specs.Sums.{sum_of}
use Rattle.sums.specs.Inner.Tables.{tally, placed}
use Rattle.sums.proofs.Cases.{counted≤}
use Rattle.sums.proofs.Sums.{sum_of≤}
use Rattle.sums.proofs.Tables.{placed-none, tally_last, tally_room}
use Rattle.book.specs.declared.Row.{Row}
use Rattle.book.specs.Rows.{rows_in, decode}
use Rattle.book.specs.Inner.Reading.{row_of}
use Rattle.ladder.specs.Rows.{in_group}
use Rattle.ladder.specs.declared.positions.Position.{Position}
use Rattle.ladder.specs.Position.{◌⊕◌}
use Rattle.ladder.specs.Inner.Steps.{band_count, bands, longs_of, shorts_of}
use Rattle.ladder.proofs.Arrays.{longs_more, shorts_more}
use Rattle.charges.specs.Bands.{band_in}
use Rattle.charges.specs.Charges.{reading}
use Rattle.charges.specs.Inner.Slots.{amounts_of}
use Rattle.charges.specs.Inner.Ladders.{GroupSums}

-- the rows of a part, by number
pub row_at : (part : List ℕ) (i : ℕ) → get_or (map decode (rows_in part)) i (decode []) ≡ row_of part i
unfolding row_of
row_at part i = get_or-map decode (rows_in part) i []

-- ---- one table of n sums, after i rows, and the next row
module _ {A : Type 0} (index amount : A → ℕ) (n : ℕ) (rows : List A) (i : ℕ) (d row : A) (within : i < length rows) (is_row : row ≡ get_or rows i d) (table : List ℕ)
    (is : table ≡ tally index amount (replicate n 0) (take i rows)) where
  next_rows : take (i + 1) rows ≡ take i rows ++ (row ∷ [])
  next_rows = rw (add-one i, is_row) (take-suc rows i d within)

  pub table_next : placed index amount table row ≡ tally index amount (replicate n 0) (take (i + 1) rows)
  table_next = rw (next_rows, is) (sym (tally_last index amount (replicate n 0) (take i rows) row))

  -- a row without an amount changes nothing
  pub table_kept : amount row ≡ 0 → table ≡ tally index amount (replicate n 0) (take (i + 1) rows)
  table_kept nothing = sym (placed-none index amount table row nothing) ∙ table_next

  -- room for the row's amount
  pub table_room : index row < n → get_or table (index row) 0 + amount row ≤ sum_of amount rows
  table_room h =
      let all : take i rows ++ (row ∷ drop (suc i) rows) ≡ rows = rw is_row (sym (split_at rows i d within)) in
      rw is (rw all at (tally_room index amount n (take i rows) row (drop (suc i) rows) (index row) h))

-- ---- the positions of a group: a row of the group adds its amounts at its band, a row of another adds nothing
module _ (class group : ℕ) (rows : List Row) (i : ℕ) (row : Row) (within : i < length rows) (is_row : row ≡ get_or rows i (decode [])) where
  abbrev grouped : (Row → ℕ) → Row → ℕ
  grouped = in_group (reading class) group

  abbrev summed : (Row → ℕ) → List ℕ → Type 0
  summed amount table = table ≡ tally (band_in class) (grouped amount) (replicate band_count 0) (take i rows)

  own : (amount : Row → ℕ) → row.group ≡ group → grouped amount row ≡ amount row
  own amount e = rw (eq-eqb row.group group e)

  side_next : (amount : Row → ℕ) (table : List ℕ) → summed amount table → row.group ≡ group
      → placed (band_in class) amount table row ≡ tally (band_in class) (grouped amount) (replicate band_count 0) (take (i + 1) rows)
  side_next amount table is e =
      let at = band_in class row in
      ap (λ (more : ℕ). set table at (get_or table at 0 + more)) (sym (own amount e))
      ∙ table_next (band_in class) (grouped amount) band_count rows i (decode []) row within is_row table is

  pub side_room : (amount : Row → ℕ) (table : List ℕ) → summed amount table → row.group ≡ group → band_in class row < band_count
      → get_or table (band_in class row) 0 + amount row ≤ sum_of amount rows
  side_room amount table is e h =
      omega (
        arith,
        table_room (band_in class) (grouped amount) band_count rows i (decode []) row within is_row table is h,
        own amount e,
        sum_of≤ (grouped amount) amount rows (λ r m. counted≤ (eqb r.group group) (amount r)),
      )

  module _ (positions : List Position) (of : GroupSums class group (take i rows) positions) where
    pub group_next : row.group ≡ group
        → GroupSums class group (take (i + 1) rows) (set positions (band_in class row) (bands positions (band_in class row) ⊕ amounts_of row))
    group_next e =
        record {
          is_longs = longs_more positions (band_in class row) (amounts_of row) ∙ side_next (λ r. r.long) (longs_of positions) of.is_longs e;
          is_shorts = shorts_more positions (band_in class row) (amounts_of row) ∙ side_next (λ r. r.short) (shorts_of positions) of.is_shorts e;
        }

    pub group_kept : (row.group ≡ group → ⊥) → GroupSums class group (take (i + 1) rows) positions
    group_kept other =
        let nothing : eqb row.group group ≡ false = ne_eqb row.group group other in
        record {
          is_longs = table_kept (band_in class) (grouped (λ r. r.long)) band_count rows i (decode []) row within is_row (longs_of positions) of.is_longs (rw nothing);
          is_shorts = table_kept (band_in class) (grouped (λ r. r.short)) band_count rows i (decode []) row within is_row (shorts_of positions) of.is_shorts (rw nothing);
        }
