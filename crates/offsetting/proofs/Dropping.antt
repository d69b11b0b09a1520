-- The loop over the interest rows: the pairs up to a row are dropped.
-- Assumes nothing.
use mathlib.Core.Path.{◌≡◌, refl, ap, ◌∙◌}
use mathlib.Core.List.{List, ◌++◌, append-nil}
use Prim.Native.Nat.{ℕ, suc, ◌+◌, ◌≤◌, ◌<◌}
use native.Mathlib.Decide.{ℕ_discrete}
use native.Mathlib.Numerals.{add-one}
use native.Mathlib.Omega.{arith}
use lib.ListN.{length, take, drop, set, length-drop, drop_of_length-le}
use lib.Seq.{take_all}
use borrow.Author.Tests.{eq-eqb, ne_eqb}
use Rattle.std.specs.Prelude.{None, Some}
use Rattle.book.specs.declared.Row.{Row}
use Rattle.book.specs.Refusals.{most_rows}
use Rattle.ladder.specs.Position.{Bands, empty, gross}
use Rattle.swaps.specs.Offset.{offset_from, offset_rows}
use Rattle.amounts.specs.declared.positions.Amounts.{Amounts}
use Rattle.amounts.specs.Inner.Standing.{positions_in, standing_rows}
use Rattle.amounts.proofs.Tables.{put_here, put_other}
use Rattle.offsetting.specs.Inner.Pairs.{fit_from, leg_at, fit_for, Dropped}
use Rattle.offsetting.proofs.Fits.{fit_within}
use Rattle.offsetting.proofs.Steps.{left_from, gone_stays, none_stays, pair_dropped}

-- ---- the amounts at two numbers cleared
module _ (amounts one both : Amounts) (row other : ℕ) (first : one.rows ≡ set amounts.rows row empty) (second : both.rows ≡ set one.rows other empty) where
  cleared_other : other < most_rows → positions_in both other ≡ empty
  cleared_other = put_here one both other empty second

  cleared_row : row < most_rows → (row ≡ other → ⊥) → positions_in both row ≡ empty
  cleared_row room apart = put_other one both other empty second row apart ∙ put_here amounts one row empty first room

  cleared_same : (k : ℕ) → (k ≡ row → ⊥) → (k ≡ other → ⊥) → positions_in both k ≡ positions_in amounts k
  cleared_same k apart apart' = put_other one both other empty second k apart' ∙ put_other amounts one row empty first k apart

-- ---- the pairs of the rows before this one are dropped
module _ (rows : List Row) (amounts₀ : Amounts) where
  pub record DroppedTo (row : ℕ) (amounts : Amounts) : Type 0 where
    pub left : standing_rows (positions_in amounts) 0 (take row rows) ++ offset_rows (standing_rows (positions_in amounts) row (drop row rows))
        ≡ offset_rows (standing_rows (positions_in amounts₀) 0 rows)
    pub beyond : (k : ℕ) → length rows ≤ k → positions_in amounts k ≡ positions_in amounts₀ k
    pub no_more : (k : ℕ) → gross (positions_in amounts k) ≤ gross (positions_in amounts₀ k)

  pub dropped-none : DroppedTo 0 amounts₀
  unfolding standing_rows
  dropped-none = record { left = refl; beyond = λ k h. refl; no_more = λ k. omega arith }

  module _ (row : ℕ) (amounts : Amounts) (now : DroppedTo row amounts) (h : row < length rows) (few : length rows ≤ most_rows) where
    abbrev f : Bands
    f = positions_in amounts

    -- ---- the row was dropped, or no later row fits
    same : left_from rows row h f (suc row) ≡ left_from rows row h f row → DroppedTo (suc row) amounts
    same e = record { left = e ∙ now.left; beyond = now.beyond; no_more = now.no_more }

    pub dropped-same : fit_for rows f row ≡ None → DroppedTo (row + 1) amounts
    unfolding fit_for
    dropped-same none = rw (add-one row) (go (ℕ_discrete (gross (f row)) 0))
      where
        go : Dec (gross (f row) ≡ 0) → DroppedTo (suc row) amounts
        go (yes gone) = same (gone_stays rows row h f gone)
        go (no there) = same (none_stays rows row h f there (rw (ne_eqb (gross (f row)) 0 there) at none))

    -- ---- one does
    module _ (other : ℕ) (found : fit_for rows f row ≡ Some other) where
      found_later : (gross (f row) ≡ 0 → ⊥) × (fit_from (leg_at rows f row) f (suc row) (drop (suc row) rows) ≡ Some other)
      unfolding fit_for
      found_later = go (ℕ_discrete (gross (f row)) 0)
        where
          go : Dec (gross (f row) ≡ 0) → (gross (f row) ≡ 0 → ⊥) × (fit_from (leg_at rows f row) f (suc row) (drop (suc row) rows) ≡ Some other)
          go (yes gone) = let never = rw (eq-eqb (gross (f row)) 0 gone) at found in absurd (cc)
          go (no there) = (there, rw (ne_eqb (gross (f row)) 0 there) at found)

      pub found_within : (row < other) × (other < length rows)
      found_within =
          let within = fit_within (leg_at rows f row) f (suc row) (drop (suc row) rows) other found_later.1 in
          (omega (arith, within.0), omega (arith, within.1, length-drop (suc row) rows))

      room : row < most_rows
      room = omega arith

      other_room : other < most_rows
      other_room = omega (arith, found_within.1)

      pub dropped-pair : (one both : Amounts) → one.rows ≡ set amounts.rows row empty → both.rows ≡ set one.rows other empty → DroppedTo (row + 1) both
      dropped-pair one both first second =
          let own = cleared_row amounts one both row other first second room (λ e. omega (arith, found_within.0)) in
          let its = cleared_other amounts one both row other first second other_room in
          let rest = cleared_same amounts one both row other first second in
          rw (add-one row) record {
            left = pair_dropped rows row h f (positions_in both) other found_later.0 found_later.1 found_within.0 (ap gross own) (ap gross its) rest ∙ now.left;
            beyond = λ k k-h. rest k (λ e. omega arith) (λ e. omega (arith, found_within.1)) ∙ now.beyond k k-h;
            no_more = λ k. less k (ℕ_discrete k row) (ℕ_discrete k other) own its rest;
          }
        where
          less : (k : ℕ) → Dec (k ≡ row) → Dec (k ≡ other) → positions_in both row ≡ empty → positions_in both other ≡ empty
              → ((k : ℕ) → (k ≡ row → ⊥) → (k ≡ other → ⊥) → positions_in both k ≡ f k) → gross (positions_in both k) ≤ gross (positions_in amounts₀ k)
          less k (yes e) d own its rest = omega (arith, ap (λ (n : ℕ). gross (positions_in both n)) e, ap gross own)
          less k (no n) (yes e) own its rest = omega (arith, ap (λ (n : ℕ). gross (positions_in both n)) e, ap gross its)
          less k (no n) (no m) own its rest = omega (arith, ap gross (rest k n m), now.no_more k)

  pub dropped-all : (row : ℕ) {amounts : Amounts} → DroppedTo row amounts → length rows ≤ row → Dropped rows amounts₀ amounts
  unfolding standing_rows offset_from
  dropped-all row {amounts} now past =
      record {
        left = rw (take_all row rows past, drop_of_length-le rows past, append-nil (standing_rows (positions_in amounts) 0 rows)) at now.left;
        beyond = now.beyond;
        no_more = now.no_more;
      }
