-- The rows of a class with their amounts, written one after the other.
-- Assumes nothing.
use mathlib.Core.Path.{◌≡◌, refl, sym, ap, ◌∙◌}
use mathlib.Core.Bool.{Bool, true, false, cond}
use mathlib.Core.List.{List, [], ◌∷◌, ◌++◌, flat_map, append-nil}
use Prim.Native.Nat.{ℕ, suc, ◌+◌, ◌≤◌, ◌<◌}
use native.Mathlib.Nat.{add-zero, add-suc}
use native.Mathlib.Numerals.{add-one}
use native.Mathlib.Omega.{arith}
use lib.Dec.{eqb}
use lib.ListN.{length, drop, get_or, length-append, drop_of_length-le}
use lib.Seq.{drop-cons}
use borrow.Author.Tests.{eq-eqb, ne_eqb}
use Rattle.book.specs.declared.Row.{Row}
use Rattle.ladder.specs.declared.positions.Position.{Position}
use Rattle.ladder.specs.Position.{Bands, gross}
use Rattle.layout.specs.Written.{written}
use Rattle.layout.specs.Files.{row_bytes}
use Rattle.layout.proofs.Writing.{written-length, written_after, written-nothing}
use Rattle.issues.specs.Issues.{holding, placed}
use Rattle.amounts.specs.Inner.Standing.{standing_rows}
use Rattle.amounts.specs.Inner.Writing.{placed_bytes, standing_bytes}
use Rattle.book.proofs.ClassRows.{no_row}

-- ---- one row
module _ (row : Row) (position : Position) where
  pub bytes_none : gross position ≡ 0 → placed_bytes row position ≡ []
  unfolding placed flat_map
  bytes_none e = rw (eq-eqb (gross position) 0 e)

  pub bytes_some : (gross position ≡ 0 → ⊥) → placed_bytes row position ≡ row_bytes (holding row position)
  unfolding placed flat_map
  bytes_some e = rw (ne_eqb (gross position) 0 e) (append-nil (row_bytes (holding row position)))

  -- and rows after it
  bytes_then : (more : List Row) → flat_map row_bytes (placed row position more) ≡ placed_bytes row position ++ flat_map row_bytes more
  unfolding placed flat_map
  bytes_then more = go (eqb (gross position) 0)
    where
      go : (none : Bool) → flat_map row_bytes (cond none more (holding row position ∷ more))
          ≡ flat_map row_bytes (cond none [] (holding row position ∷ [])) ++ flat_map row_bytes more
      go true = refl
      go false = ap (λ (bytes : List ℕ). bytes ++ flat_map row_bytes more) (sym (append-nil (row_bytes (holding row position))))

-- ---- a loop over the rows of a class
module _ (positions : Bands) (first : ℕ) (rows : List Row) (out₀ : List ℕ) (at : ℕ) where
  abbrev left : ℕ → List ℕ
  left row = standing_bytes positions (first + row) (drop row rows)

  -- writing what is left makes the whole
  pub record Wrote (row end : ℕ) (out : List ℕ) : Type 0 where
    pub same : length out ≡ length out₀
    pub place : end + length (left row) ≡ at + length (standing_bytes positions first rows)
    pub whole : written out end (left row) ≡ written out₀ at (standing_bytes positions first rows)

  pub wrote_none : Wrote 0 at out₀
  wrote_none = record { same = refl; place = rw (add-zero first); whole = rw (add-zero first) }

  module _ (row end : ℕ) (out : List ℕ) (now : Wrote row end out) (h : row < length rows) (fits : at + length (standing_bytes positions first rows) ≤ length out₀) where
    abbrev bytes : List ℕ
    bytes = placed_bytes (get_or rows row no_row) (positions (first + row))

    next : left row ≡ bytes ++ left (row + 1)
    unfolding standing_rows
    next =
        rw (drop-cons rows row no_row h, add-one row, add-suc first row)
        (bytes_then (get_or rows row no_row) (positions (first + row)) (standing_rows positions (suc (first + row)) (drop (suc row) rows)))

    size : length (left row) ≡ length bytes + length (left (row + 1))
    size = ap length next ∙ length-append bytes (left (row + 1))

    pub row_room : end + length bytes ≤ length out
    row_room = omega (arith, now.same, now.place, size)

    pub wrote_next : (end' : ℕ) (out' : List ℕ) → end' ≡ end + length bytes → out' ≡ written out end bytes → Wrote (row + 1) end' out'
    wrote_next end' out' place is =
        record {
          same = ap length is ∙ written-length out bytes end row_room ∙ now.same;
          place = omega (arith, now.place, size);
          whole =
              rw (is, place) (written_after out bytes (left (row + 1)) end (omega (arith, now.same, now.place, size)))
              ∙ ap (written out end) (sym next)
              ∙ now.whole;
        }

  pub wrote_all : (row end : ℕ) (out : List ℕ) → Wrote row end out → length rows ≤ row
      → (end ≡ at + length (standing_bytes positions first rows)) × (out ≡ written out₀ at (standing_bytes positions first rows))
  unfolding standing_rows flat_map
  wrote_all row end out now past =
      let none : left row ≡ [] = rw (drop_of_length-le rows past) in
      (omega (arith, now.place, ap length none), sym (written-nothing out end) ∙ rw none at now.whole)
