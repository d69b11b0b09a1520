-- A currency that uses at most two zones leaves one of them empty, whatever the amounts of its rows.
-- Assumes nothing.
use Prim.Native.Nat.{ℕ, ◌+◌, ◌<◌}
use mathlib.Core.Path.{◌≡◌}
use mathlib.Core.Bool.{cond}
use mathlib.Core.List.{List}
use lib.Dec.{eqb}
use borrow.Author.Tests.{eqb-true}
use native.Mathlib.Decide.{ℕ_discrete}
use native.Mathlib.Omega.{arith}
use Rattle.sums.proofs.Cases.{cond_add, counted_test}
use Rattle.sums.proofs.Sums.{sum_of_plus, a_part}
use Rattle.ladder.specs.Position.{Bands, gross, total}
use Rattle.ladder.specs.Interest.{zones}
use Rattle.ladder.specs.Rows.{Reading, positions_by, in_group, Used, AtMostTwoZones}
use Rattle.ladder.proofs.Totals.{gross-sum}
use Rattle.ladder.proofs.Joined.{OneEmpty, first-empty, second_empty, third_empty}

module _ {Row : Type 0} (read : Reading Row) (g : ℕ) (long short : Row → ℕ) (rows : List Row) where
  abbrev ladder : Bands
  ladder = positions_by read.band (in_group read g long) (in_group read g short) rows

  -- what a row adds to a band
  abbrev added : (Row → ℕ) → ℕ → Row → ℕ
  added amount k row = cond (eqb (read.band row) k) (in_group read g amount row) 0

  -- a row that adds to a band is of the currency and lies there
  adds : (k : ℕ) (row : Row) → 0 < added long k row + added short k row → (read.group row ≡ g) × (read.band row ≡ k)
  adds k row some =
      let in_band = counted_test (eqb (read.band row) k) (in_group read g long row + in_group read g short row) (rw cond_add at some) in
      let in_group = counted_test (eqb (read.group row) g) (long row + short row) (rw cond_add at in_band.1) in
      (eqb-true _ _ in_group.0, eqb-true _ _ in_band.0)

  -- a zone that has anything in it is used
  used : (zone : List ℕ) → (gross (total ladder zone) ≡ 0 → ⊥) → Used read rows g zone
  used zone some =
      let band = a_part (λ k. gross (ladder k)) zone (omega (arith, gross-sum ladder zone)) in
      let k = band.one in
      let found = a_part (λ row. added long k row + added short k row) rows
      (omega (arith, band.counts, sum_of_plus (added long k) (added short k) rows)) in
      let place = adds k found.one found.counts in
      record { row = found.one; is_row = found.is_one; of_currency = place.0; lies_in = rw place.1 band.is_one }

  pub one_empty : AtMostTwoZones read rows g → OneEmpty zones ladder
  unfolding AtMostTwoZones
  one_empty most = go (ℕ_discrete (holds zones.first) 0) (ℕ_discrete (holds zones.second) 0) (ℕ_discrete (holds zones.third) 0)
    where
      holds : List ℕ → ℕ
      holds zone = gross (total ladder zone)

      go : Dec (holds zones.first ≡ 0) → Dec (holds zones.second ≡ 0) → Dec (holds zones.third ≡ 0) → OneEmpty zones ladder
      go (yes none) second third = first-empty none
      go (no one) (yes none) third = second_empty none
      go (no one) (no two) (yes none) = third_empty none
      go (no one) (no two) (no three) = absurd (most (used _ one) (used _ two) (used _ three))
