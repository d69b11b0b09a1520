-- The rows with the amounts at their numbers: these alone count; how many are left; and a row's own amounts leave it as it is.
-- Assumes nothing.
use mathlib.Core.Path.{◌≡◌, refl, sym, ap, ap₂, fun_ext, ◌∙◌}
use mathlib.Core.Bool.{Bool, true, false, cond, not}
use mathlib.Core.Logic.{◌⊎◌, inl, inr}
use mathlib.Core.List.{List, [], ◌∷◌}
use Prim.Native.Nat.{ℕ, suc, ◌+◌, ◌≤◌, ◌<◌}
use native.Mathlib.Nat.{zero-add, add-zero, add-suc, suc-add}
use native.Mathlib.Omega.{arith}
use lib.Dec.{eqb}
use lib.ListN.{length, get_or}
use Rattle.sums.specs.Every.{Every, also}
use Rattle.sums.specs.Sums.{sum_of, span}
use Rattle.sums.proofs.Spans.{sum_shift}
use Rattle.book.specs.declared.Row.{Row}
use Rattle.book.specs.Refusals.{most_amount}
use Rattle.book.specs.Accepted.{Clean}
use Rattle.book.proofs.ClassRows.{no_row}
use Rattle.ladder.specs.declared.positions.Position.{Position}
use Rattle.ladder.specs.Position.{Bands, gross}
use Rattle.issues.specs.Issues.{holding, placed}
use Rattle.issues.proofs.Walking.{placed-some}
use Rattle.amounts.specs.Inner.Standing.{standing_rows}
use Rattle.amounts.specs.Inner.Counting.{is_left, left_rows}
use Rattle.amounts.specs.Inner.Own.{amounts_of}

-- amounts that agree at the numbers of the rows make the same rows
pub standing-same : (f g : Bands) (at : ℕ) (rows : List Row) → ((k : ℕ) → k < length rows → f (at + k) ≡ g (at + k)) → standing_rows f at rows ≡ standing_rows g at rows
unfolding standing_rows
standing-same f g at [] same = refl
standing-same f g at (row ∷ rows) same =
    ap₂ (placed row)
    (rw (add-zero at) at (same 0 (omega arith)))
    (standing-same f g (suc at) rows (λ k h. rw (suc-add at k, ← add-suc at k) (same (suc k) (omega arith))))

-- ---- as many as have an amount on either side
placed-length : (row : Row) (position : Position) (more : List Row) → length (placed row position more) ≡ cond (not (eqb (gross position) 0)) 1 0 + length more
unfolding placed
placed-length row position more = go (eqb (gross position) 0)
  where
    go : (none : Bool) → length (cond none more (holding row position ∷ more)) ≡ cond (not none) 1 0 + length more
    go true = sym (zero-add (length more))
    go false = omega arith

pub standing-length : (f : Bands) (at : ℕ) (rows : List Row) → length (standing_rows f at rows) ≡ left_rows f at (length rows)
unfolding standing_rows sum_of span
standing-length f at [] = refl
standing-length f at (row ∷ rows) =
    placed-length row (f at) (standing_rows f (suc at) rows)
    ∙ ap₂ ◌+◌
    (ap (λ (k : ℕ). cond (is_left (f k)) 1 0) (sym (add-zero at)))
    (standing-length f (suc at) rows
    ∙ sym (sum_shift (λ k. cond (is_left (f (at + k))) 1 0) 0 (length rows)
    ∙ ap (λ (g : ℕ → ℕ). sum_of g (span 0 (length rows))) (fun_ext (λ k. ap (λ (m : ℕ). cond (is_left (f m)) 1 0) (add-suc at k ∙ sym (suc-add at k))))))

-- ---- a row that is long or short keeps its amounts
pub placed-own : (row : Row) → (gross (amounts_of row) ≡ 0 → ⊥) → (more : List Row) → placed row (amounts_of row) more ≡ row ∷ more
placed-own row some more = placed-some row (amounts_of row) more some

pub clean_some : {class : ℕ} {row : Row} → Clean class row → gross (amounts_of row) ≡ 0 → ⊥
clean_some {class} {row} clean e = go clean.one_side
  where
    go : ((0 < row.long) × (row.short ≡ 0)) ⊎ ((row.long ≡ 0) × (0 < row.short)) → ⊥
    go (inl h) = omega (arith, h.0)
    go (inr h) = omega (arith, h.1)

pub clean_within : {class : ℕ} {row : Row} → Clean class row → gross (amounts_of row) ≤ most_amount
clean_within {class} {row} clean = go clean.one_side
  where
    go : ((0 < row.long) × (row.short ≡ 0)) ⊎ ((row.long ≡ 0) × (0 < row.short)) → gross (amounts_of row) ≤ most_amount
    go (inl h) = omega (arith, h.1, clean.long)
    go (inr h) = omega (arith, h.0, clean.short)

pub own_standing : (f : Bands) (at : ℕ) {class : ℕ} (rows : List Row) → Every (Clean class) rows
    → ((k : ℕ) → k < length rows → f (at + k) ≡ amounts_of (get_or rows k no_row)) → standing_rows f at rows ≡ rows
unfolding standing_rows
own_standing f at [] clean own = refl
own_standing f at (row ∷ rows) (also here clean) own =
    rw (rw (add-zero at) at (own 0 (omega arith)), own_standing f (suc at) rows clean (λ k h. rw (suc-add at k, ← add-suc at k) (own (suc k) (omega arith))))
    (placed-own row (clean_some here) rows)
