-- What one row does: it is dropped with the first later row that fits, or stays.
-- Assumes nothing.
use mathlib.Core.Path.{◌≡◌, sym, ap, ap₂, ◌∙◌}
use mathlib.Core.List.{List, [], ◌∷◌, ◌++◌, append_assoc, append-nil}
use Prim.Native.Nat.{ℕ, suc, ◌+◌, ◌<◌}
use native.Mathlib.Nat.{zero-add, add-zero, add-suc, suc-add}
use native.Mathlib.Decide.{ℕ_discrete}
use native.Mathlib.Omega.{arith}
use lib.ListN.{length, get_or, take, drop}
use lib.Seq.{drop-cons, take-suc, length-take-le}
use Rattle.std.specs.Prelude.{None, Some}
use Rattle.book.specs.declared.Row.{Row}
use Rattle.book.proofs.ClassRows.{no_row}
use Rattle.ladder.specs.declared.positions.Position.{Position}
use Rattle.ladder.specs.Position.{Bands, gross}
use Rattle.issues.specs.Issues.{placed}
use Rattle.issues.proofs.Walking.{placed-none, placed-some}
use Rattle.swaps.specs.Offset.{offset_rows}
use Rattle.swaps.proofs.Stepping.{offset_next}
use Rattle.amounts.specs.Inner.Standing.{standing_rows}
use Rattle.amounts.proofs.Standing.{standing-same}
use Rattle.offsetting.specs.Inner.Pairs.{fit_from, leg_at}
use Rattle.offsetting.proofs.Fits.{none_found, found_some}

-- ---- rows one after the other
placed-then : (row : Row) (position : Position) (more : List Row) → placed row position more ≡ placed row position [] ++ more
placed-then row position more = go (ℕ_discrete (gross position) 0)
  where
    go : Dec (gross position ≡ 0) → placed row position more ≡ placed row position [] ++ more
    go (yes gone) = rw (placed-none row position more gone, placed-none row position [] gone)
    go (no there) = rw (placed-some row position more there, placed-some row position [] there)

standing-append : (f : Bands) (at : ℕ) (rows more : List Row) → standing_rows f at (rows ++ more) ≡ standing_rows f at rows ++ standing_rows f (at + length rows) more
unfolding standing_rows
standing-append f at [] more = rw (add-zero at)
standing-append f at (row ∷ rows) more =
    ap (placed row (f at)) (standing-append f (suc at) rows more)
    ∙ placed-then row (f at) _
    ∙ sym (append_assoc (placed row (f at) []) (standing_rows f (suc at) rows) _)
    ∙ ap₂ ◌++◌ (sym (placed-then row (f at) (standing_rows f (suc at) rows))) (ap (λ (n : ℕ). standing_rows f n more) (suc-add at (length rows) ∙ sym (add-suc at (length rows))))

module _ (rows : List Row) (row : ℕ) (h : row < length rows) where
  abbrev own : Row
  own = get_or rows row no_row

  -- the rows before this one, and from it on, with their amounts
  abbrev before : Bands → List Row
  before f = standing_rows f 0 (take row rows)

  abbrev after : Bands → List Row
  after f = standing_rows f (suc row) (drop (suc row) rows)

  from_here : (f : Bands) → standing_rows f row (drop row rows) ≡ placed own (f row) (after f)
  unfolding standing_rows
  from_here f = rw (drop-cons rows row no_row h)

  up_to : (f : Bands) → standing_rows f 0 (take (suc row) rows) ≡ before f ++ placed own (f row) []
  unfolding standing_rows
  up_to f =
      ap (standing_rows f 0) (take-suc rows row no_row h)
      ∙ standing-append f 0 (take row rows) (own ∷ [])
      ∙ ap (λ (n : ℕ). before f ++ placed own (f n) []) (zero-add (length (take row rows)) ∙ length-take-le row rows (omega arith))

  -- what is left of the rows before it, and of the others when they are offset
  abbrev pub left_from : Bands → ℕ → List Row
  left_from f n = standing_rows f 0 (take n rows) ++ offset_rows (standing_rows f n (drop n rows))

  -- ---- the row stays, or was dropped
  module _ (f : Bands) where
    stays : offset_rows (placed own (f row) (after f)) ≡ placed own (f row) [] ++ offset_rows (after f) → left_from f (suc row) ≡ left_from f row
    stays e =
        ap (λ (l : List Row). l ++ offset_rows (after f)) (up_to f)
        ∙ append_assoc (before f) (placed own (f row) []) (offset_rows (after f))
        ∙ ap (λ (l : List Row). before f ++ l) (sym (ap offset_rows (from_here f) ∙ e))

    pub gone_stays : gross (f row) ≡ 0 → left_from f (suc row) ≡ left_from f row
    gone_stays gone = stays (rw (placed-none own (f row) (after f) gone, placed-none own (f row) [] gone))

    pub none_stays : (gross (f row) ≡ 0 → ⊥) → fit_from (leg_at rows f row) f (suc row) (drop (suc row) rows) ≡ None
        → left_from f (suc row) ≡ left_from f row
    none_stays there none =
        let no_one = none_found (leg_at rows f row) f (suc row) (drop (suc row) rows) none in
        stays (rw (placed-some own (f row) (after f) there, placed-some own (f row) [] there) (offset_next (leg_at rows f row) (after f) ∙ rw no_one))

  -- ---- the row is dropped with another
  module _ (f g : Bands) (other : ℕ) (there : gross (f row) ≡ 0 → ⊥) (found : fit_from (leg_at rows f row) f (suc row) (drop (suc row) rows) ≡ Some other)
      (beyond : row < other)
      (own-cleared : gross (g row) ≡ 0) (cleared : gross (g other) ≡ 0) (same : (k : ℕ) → (k ≡ row → ⊥) → (k ≡ other → ⊥) → g k ≡ f k) where
    pub pair_dropped : left_from g (suc row) ≡ left_from f row
    pair_dropped =
        let fit = found_some (leg_at rows f row) f there g other cleared (suc row) (drop (suc row) rows) found (λ k low apart. same k (λ e. omega arith) apart) in
        let few = length-take-le row rows (omega arith) in
        let earlier = standing-same g f 0 (take row rows) (λ k k-h. same (0 + k) (λ e. omega (arith, few)) (λ e. omega (arith, few))) in
        let kept : standing_rows g 0 (take (suc row) rows) ≡ before f = up_to g ∙ ap₂ ◌++◌ earlier (placed-none own (g row) [] own-cleared) ∙ append-nil (before f) in
        let offset : offset_rows (standing_rows f row (drop row rows)) ≡ offset_rows (after g) =
        ap offset_rows (from_here f ∙ placed-some own (f row) (after f) there) ∙ offset_next (leg_at rows f row) (after f) ∙ rw (fit.0, fit.1) in
        ap₂ ◌++◌ kept (sym offset)
