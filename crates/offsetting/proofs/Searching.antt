-- The first row that fits, as a search over the numbers of the rows finds it; and a row that is no government row, which fits none.
-- Assumes nothing.
use mathlib.Core.Path.{◌≡◌, refl, sym, ap, ◌∙◌}
use mathlib.Core.Bool.{Bool, true, false, cond, true≢false}
use mathlib.Core.List.{List, [], ◌∷◌}
use Prim.Native.Nat.{ℕ, zero, suc, ◌+◌, ◌≤◌, ◌<◌}
use native.Mathlib.Decide.{ℕ_discrete}
use native.Mathlib.Omega.{arith}
use lib.ListN.{length, drop, length-map, drop_of_length-le}
use lib.Seq.{drop-cons}
use Rattle.std.specs.Prelude.{Option, None, Some, MatchOption}
use Rattle.book.specs.declared.Row.{Row}
use Rattle.book.specs.Rows.{rows_in, decode}
use Rattle.book.specs.Inner.Reading.{part_rows}
use Rattle.book.proofs.ClassRows.{no_row}
use Rattle.ladder.specs.Position.{Bands}
use Rattle.issues.specs.Issues.{holding}
use Rattle.swaps.specs.Fitting.{government, fits}
use Rattle.swaps.proofs.Fitting.{fits-government}
use Rattle.offsetting.specs.Inner.Pairs.{fit_from, leg_at}

-- the number of rows of a part, as it is counted
pub many-rows : (part : List ℕ) {many : ℕ} → many ≡ length (rows_in part) → many ≡ length (part_rows part)
many-rows part is = is ∙ sym (length-map (rows_in part) decode)

-- ---- the first of the numbers from one on whose row fits
module _ (leg : Row) (f : Bands) (rows : List Row) where
  abbrev pub fits_row : ℕ → Bool
  fits_row k = fits leg (leg_at rows f k)

  abbrev pub IsFirst : (from many : ℕ) → Option ℕ → Type 0
  IsFirst from many found =
      MatchOption found
      ((k : ℕ) → from ≤ k → k < many → fits_row k ≡ false)
      (λ i. (from ≤ i) × (i < many) × (fits_row i ≡ true) × ((k : ℕ) → from ≤ k → k < i → fits_row k ≡ false))

  here : (from many : ℕ) (found : Option ℕ) → IsFirst from many found → from < many → fits_row from ≡ true → found ≡ Some from
  here from many None none h t = absurd (true≢false (sym t ∙ none from (omega arith) h))
  here from many (Some i) first h t = go (ℕ_discrete from i)
    where
      go : Dec (from ≡ i) → Some i ≡ Some from
      go (yes e) = ap Some (sym e)
      go (no n) = absurd (true≢false (sym t ∙ first.3 from (omega arith) (omega (arith, first.0))))

  later : (from many : ℕ) (found : Option ℕ) → IsFirst from many found → fits_row from ≡ false → IsFirst (suc from) many found
  later from many None none t = λ k low h. none k (omega arith) h
  later from many (Some i) first t =
      let apart : from ≡ i → ⊥ = λ e. true≢false (sym first.2 ∙ ap fits_row (sym e) ∙ t) in
      (omega (arith, first.0), first.1, first.2, λ k low h. first.3 k (omega arith) h)

  pub first-found : (left from : ℕ) (found : Option ℕ) → from + left ≡ length rows → IsFirst from (length rows) found → found ≡ fit_from leg f from (drop from rows)
  unfolding fit_from
  first-found zero from None e is = let past : length rows ≤ from = omega arith in rw (drop_of_length-le rows past)
  first-found zero from (Some i) e is = absurd (omega (arith, is.0, is.1))
  first-found (suc left) from found e is =
      rw (drop-cons rows from no_row (omega arith)) (go (fits_row from) refl (λ t. first-found left (suc from) found (omega arith) (later from (length rows) found is t)))
    where
      go : (test : Bool) → fits_row from ≡ test → (fits_row from ≡ false → found ≡ fit_from leg f (suc from) (drop (suc from) rows))
          → found ≡ cond test (Some from) (fit_from leg f (suc from) (drop (suc from) rows))
      go true t next = here from (length rows) found is (omega arith) t
      go false t next = next t

-- ---- a row of another kind fits none
pub other_kind : (leg : Row) (f : Bands) → government leg ≡ false → (at : ℕ) (rows : List Row) → fit_from leg f at rows ≡ None
unfolding fit_from
other_kind leg f other at [] = refl
other_kind leg f other at (row ∷ rows) = go (fits leg (holding row (f at))) refl (other_kind leg f other (suc at) rows)
  where
    go : (test : Bool) → fits leg (holding row (f at)) ≡ test → fit_from leg f (suc at) rows ≡ None → cond test (Some at) (fit_from leg f (suc at) rows) ≡ None
    go true e next = absurd (true≢false (sym (fits-government leg (holding row (f at)) e).0 ∙ other))
    go false e next = next
