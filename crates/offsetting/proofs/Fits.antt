-- The first row that fits, found by the numbers of the rows: with its amounts cleared, the rows are those without the first that fits.
-- Assumes nothing.
use mathlib.Core.Path.{◌≡◌, refl, sym, ap, ◌∙◌}
use mathlib.Core.Bool.{Bool, true, false, cond, true≢false}
use mathlib.Core.List.{List, [], ◌∷◌}
use Prim.Native.Nat.{ℕ, suc, ◌+◌, ◌≤◌, ◌<◌}
use native.Mathlib.Decide.{ℕ_discrete}
use native.Mathlib.Omega.{arith}
use lib.ListN.{length}
use Rattle.std.specs.Prelude.{Option, None, Some}
use borrow.Author.Tests.{eqb-true}
use Rattle.sums.proofs.Cases.{both}
use Rattle.book.specs.declared.Row.{Row}
use Rattle.ladder.specs.declared.positions.Position.{Position}
use Rattle.ladder.specs.Position.{Bands, gross}
use Rattle.issues.specs.Issues.{holding, placed}
use Rattle.issues.proofs.Walking.{placed-none, placed-some}
use Rattle.swaps.specs.Fitting.{opposite, fits}
use Rattle.swaps.specs.Offset.{some_fits, without_fit}
use Rattle.amounts.specs.Inner.Standing.{standing_rows}
use Rattle.amounts.specs.Inner.Own.{amounts_of}
use Rattle.amounts.proofs.Standing.{standing-same}
use Rattle.offsetting.specs.Inner.Pairs.{fit_from}

-- a row that was dropped fits none that is still there
gone_fits : (leg row : Row) (position : Position) → (gross (amounts_of leg) ≡ 0 → ⊥) → gross position ≡ 0 → fits leg (holding row position) ≡ false
unfolding fits opposite
gone_fits leg row position some none = go (fits leg (holding row position)) refl
  where
    go : (test : Bool) → fits leg (holding row position) ≡ test → test ≡ false
    go true e =
        let sides = both _ _ (both (opposite leg (holding row position)) _ e).0 in
        absurd (some (omega (arith, eqb-true leg.long position.short sides.0, eqb-true leg.short position.long sides.1)))
    go false e = refl

-- ---- the search
module _ (leg : Row) (f : Bands) where
  -- it finds one of the rows
  pub fit_within : (at : ℕ) (rows : List Row) (other : ℕ) → fit_from leg f at rows ≡ Some other → (at ≤ other) × (other < at + length rows)
  unfolding fit_from
  fit_within at [] other e = absurd (cc)
  fit_within at (row ∷ rows) other e = go (fits leg (holding row (f at))) e (fit_within (suc at) rows other)
    where
      rest : Option ℕ
      rest = fit_from leg f (suc at) rows

      go : (test : Bool) → cond test (Some at) rest ≡ Some other → (rest ≡ Some other → (suc at ≤ other) × (other < suc at + length rows)) → (at ≤ other) × (other < at + length (row ∷ rows))
      go true e later = let own : at ≡ other = cc in (omega arith, omega arith)
      go false e later = (omega (arith, (later e).0), omega (arith, (later e).1))

  -- ---- none fits
  pub none_found : (at : ℕ) (rows : List Row) → fit_from leg f at rows ≡ None → some_fits leg (standing_rows f at rows) ≡ false
  unfolding fit_from standing_rows some_fits
  none_found at [] e = refl
  none_found at (row ∷ rows) e = go (fits leg (holding row (f at))) refl e (none_found (suc at) rows)
    where
      more : List Row
      more = standing_rows f (suc at) rows

      with_row : fits leg (holding row (f at)) ≡ false → some_fits leg more ≡ false → Dec (gross (f at) ≡ 0) → some_fits leg (placed row (f at) more) ≡ false
      with_row other none (yes gone) = rw (placed-none row (f at) more gone) none
      with_row other none (no there) = rw (placed-some row (f at) more there, other) none

      go : (test : Bool) → fits leg (holding row (f at)) ≡ test → cond test (Some at) (fit_from leg f (suc at) rows) ≡ None
          → (fit_from leg f (suc at) rows ≡ None → some_fits leg more ≡ false) → some_fits leg (placed row (f at) more) ≡ false
      go true t e later = absurd (cc)
      go false t e later = with_row t (later e) (ℕ_discrete (gross (f at)) 0)

  -- ---- one fits: it is the first, and is gone when its amounts are cleared
  module _ (some : gross (amounts_of leg) ≡ 0 → ⊥) (g : Bands) (other : ℕ) (cleared : gross (g other) ≡ 0) where
    pub found_some : (at : ℕ) (rows : List Row) → fit_from leg f at rows ≡ Some other
        → ((k : ℕ) → at ≤ k → (k ≡ other → ⊥) → g k ≡ f k)
        → (some_fits leg (standing_rows f at rows) ≡ true) × (without_fit leg (standing_rows f at rows) ≡ standing_rows g at rows)
    unfolding fit_from standing_rows some_fits without_fit
    found_some at [] e same = absurd (cc)
    found_some at (row ∷ rows) e same = go (fits leg (holding row (f at))) refl e (λ e'. found_some (suc at) rows e' (λ k low. same k (omega arith)))
      where
        more : List Row
        more = standing_rows f (suc at) rows

        left : List Row
        left = standing_rows g (suc at) rows

        Both : List Row → List Row → Type 0
        Both rows left = (some_fits leg rows ≡ true) × (without_fit leg rows ≡ left)

        here : fits leg (holding row (f at)) ≡ true → at ≡ other → Dec (gross (f at) ≡ 0) → Both (placed row (f at) more) (placed row (g at) left)
        here t own (yes gone) = absurd (true≢false (sym t ∙ gone_fits leg row (f at) some gone))
        here t own (no there) =
            let rest = standing-same f g (suc at) rows (λ k h. sym (same (suc at + k) (omega arith) (λ e. omega (arith, own)))) in
            rw (placed-some row (f at) more there, placed-none row (g at) left (ap (λ (k : ℕ). gross (g k)) own ∙ cleared), t) (refl, rest)

        later : fits leg (holding row (f at)) ≡ false → Both more left → Dec (gross (f at) ≡ 0) → Both (placed row (f at) more) (placed row (f at) left)
        later t next (yes gone) = rw (placed-none row (f at) more gone, placed-none row (f at) left gone) next
        later t next (no there) = rw (placed-some row (f at) more there, placed-some row (f at) left there, t) (next.0, ap (λ (l : List Row). holding row (f at) ∷ l) next.1)

        go : (test : Bool) → fits leg (holding row (f at)) ≡ test → cond test (Some at) (fit_from leg f (suc at) rows) ≡ Some other
            → (fit_from leg f (suc at) rows ≡ Some other → Both more left) → Both (placed row (f at) more) (placed row (g at) left)
        go true t e next = here t (cc) (ℕ_discrete (gross (f at)) 0)
        go false t e next =
            let apart : at ≡ other → ⊥ = λ own. omega (arith, own, (fit_within (suc at) rows other e).0) in
            rw (same at (omega arith) apart) (later t (next e) (ℕ_discrete (gross (f at)) 0))
