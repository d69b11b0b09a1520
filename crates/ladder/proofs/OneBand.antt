-- A position more in one band: the band's zone takes it, and the others stay.
-- Assumes nothing.
use Prim.Native.Nat.{ℕ, zero, suc, ◌+◌, ◌≤◌, ◌<◌}
use mathlib.Core.Path.{◌≡◌, refl, sym, ap, ap₂, subst, ◌∙◌}
use mathlib.Core.Bool.{Bool, true, false}
use mathlib.Core.List.{◌∷◌}
use native.Mathlib.Decide.{ℕ_discrete}
use native.Mathlib.Numerals.{lt_of_le_of_ne}
use native.Mathlib.Omega.{arith}
use borrow.Author.Tests.{ltb-true, ltb-false, lt-ltb, le-ltb, eq-eqb, ne_eqb}
use lib.Dec.{ltb}
use Rattle.sums.specs.Sums.{span}
use Rattle.ladder.specs.Position.{Position, Bands, ◌⊕◌, empty, matched, net, at_band}
use Rattle.ladder.specs.Table.{Percents}
use Rattle.ladder.specs.Interest.{Matches, charge, zones, interest_figures}
use Rattle.ladder.specs.Inner.Steps.{Zone, Gathered, ZoneOf, ZoneWith, GatheredOf, Summed, CanGather, zone_of, zone_with, gathered_with, gathered_figures}
use Rattle.ladder.proofs.Matching.{same_position, empty-plus}
use Rattle.ladder.proofs.Totals.{◌⊞◌}
use Rattle.ladder.proofs.Gathering.{same_zone, zone_cons, zone_same, matches-combined}
use Rattle.ladder.proofs.Agreeing.{Agree}

-- ---- one zone
zone_swap : (z : Zone) (a b : Position) → zone_with (zone_with z a) b ≡ zone_with (zone_with z b) a
unfolding zone_with
zone_swap z a b = same_zone (omega arith) (omega arith) (same_position (omega arith) (omega arith))

zone_empty : (z : Zone) → zone_with z empty ≡ z
unfolding zone_with matched net
zone_empty z = same_zone (omega arith) (omega arith) (same_position (omega arith) (omega arith))

-- a position at one band, of which there was nothing
module _ (f : Bands) (band : ℕ) (position : Position) where
  abbrev more : Bands
  more = f ⊞ at_band band position

  other_band : (k : ℕ) → (band ≡ k → ⊥) → more k ≡ f k
  other_band k other = rw (ne_eqb band k other) (same_position (omega arith) (omega arith))

  zone_beside : (start n : ℕ) → ((k : ℕ) → start ≤ k → k < start + n → band ≡ k → ⊥) → zone_of more (span start n) ≡ zone_of f (span start n)
  zone_beside start n apart = zone_same more f start n (λ k low high. other_band k (apart k low high))

  module _ (none : f band ≡ empty) where
    own_band : more band ≡ position
    own_band = rw (none, eq-eqb band band refl) (empty-plus position)

    zone_within : (start n : ℕ) → start ≤ band → band < start + n → zone_of more (span start n) ≡ zone_with (zone_of f (span start n)) position
    unfolding span
    zone_within start zero low high = let never : ⊥ = omega arith in absurd never
    zone_within start (suc n) low high = go (ℕ_discrete band start) (λ h. zone_within (suc start) n h (omega arith))
      where
        go : Dec (band ≡ start) → (suc start ≤ band → zone_of more (span (suc start) n) ≡ zone_with (zone_of f (span (suc start) n)) position) → zone_of more (start ∷ span (suc start) n) ≡ zone_with (zone_of f (start ∷ span (suc start) n)) position
        go (yes own) rest =
            zone_cons more start (span (suc start) n)
            ∙ ap₂ zone_with (zone_beside (suc start) n (λ k past high e. omega arith)) (rw (← own) own_band)
            ∙ ap (λ (z : Zone). zone_with z position) (sym (zone_cons f start (span (suc start) n) ∙ ap (zone_with (zone_of f (span (suc start) n))) (ap f (sym own) ∙ none) ∙ zone_empty (zone_of f (span (suc start) n))))
        go (no other) rest =
            zone_cons more start (span (suc start) n)
            ∙ ap₂ zone_with (rest (lt_of_le_of_ne low (λ e. other (sym e)))) (other_band start other)
            ∙ zone_swap (zone_of f (span (suc start) n)) position (f start)
            ∙ ap (λ (z : Zone). zone_with z position) (sym (zone_cons f start (span (suc start) n)))

-- ---- the ladder
-- a ladder's zones, with a position more in one band of which they have nothing, give the figures of the ladder with it
module _ (p : Percents) (f : Bands) (band : ℕ) (position : Position) (none : f band ≡ empty) (within : band < 15) {z : Gathered} (of : GatheredOf f z) where
  by_zones : {a b c : Zone} → a ≡ zone_of (more f band position) zones.first → b ≡ zone_of (more f band position) zones.second
      → c ≡ zone_of (more f band position) zones.third
      → gathered_figures p (record { first = a; second = b; third = c }) ≡ interest_figures p (more f band position)
  unfolding gathered_figures
  by_zones a b c = ap (λ (m : Matches). record { matches = m; charge = charge p m }) (matches-combined zones (more f band position) a b c)

  taken : {zone : Zone} (start n : ℕ) → ZoneOf f (span start n) zone → start ≤ band → band < start + n → zone_with zone position ≡ zone_of (more f band position) (span start n)
  taken start n is low high = ap (λ (zone : Zone). zone_with zone position) is.is ∙ sym (zone_within f band position none start n low high)

  passed : {zone : Zone} (start n : ℕ) → ZoneOf f (span start n) zone → ((k : ℕ) → start ≤ k → k < start + n → band ≡ k → ⊥) → zone ≡ zone_of (more f band position) (span start n)
  passed start n is apart = is.is ∙ sym (zone_beside f band position start n apart)

  pub figures_with : gathered_figures p (gathered_with z band position) ≡ interest_figures p (f ⊞ at_band band position)
  unfolding gathered_with
  figures_with = go (ltb band 4) refl (ltb band 7) refl
    where
      go : (one : Bool) → ltb band 4 ≡ one → (two : Bool) → ltb band 7 ≡ two → gathered_figures p (gathered_with z band position) ≡ interest_figures p (more f band position)
      go true t _ _ =
          let near = ltb-true band 4 t in
          rw t
          (by_zones (taken 0 4 of.first (omega arith) (omega arith)) (passed 4 3 of.second (λ k low high e. omega arith)) (passed 7 8 of.third (λ k low high e. omega arith)))
      go false t true u =
          let past = ltb-false band 4 t in
          let near = ltb-true band 7 u in
          rw (t, u)
          (by_zones (passed 0 4 of.first (λ k low high e. omega arith)) (taken 4 3 of.second (omega arith) (omega arith)) (passed 7 8 of.third (λ k low high e. omega arith)))
      go false t false u =
          let later = ltb-false band 7 u in
          rw (t, u)
          (by_zones (passed 0 4 of.first (λ k low high e. omega arith)) (passed 4 3 of.second (λ k low high e. omega arith)) (taken 7 8 of.third (omega arith) (omega arith)))

-- a band that was taken out, put back with a position more
pub put_back : {n : ℕ} (f g : Bands) (band : ℕ) → f band ≡ empty → ((k : ℕ) → k < n → (band ≡ k → ⊥) → f k ≡ g k) → (position : Position)
    → Agree n (f ⊞ at_band band (g band ⊕ position)) (g ⊞ at_band band position)
put_back {n} f g band none same position = record { below = λ k h. go k h (ℕ_discrete band k) }
  where
    go : (k : ℕ) → k < n → Dec (band ≡ k) → more f band (g band ⊕ position) k ≡ more g band position k
    go k h (yes own) =
        subst (λ (j : ℕ). more f band (g band ⊕ position) j ≡ more g band position j) own
        (own_band f band (g band ⊕ position) none ∙ sym (ap (λ (a : Position). g band ⊕ a) (rw (eq-eqb band band refl))))
    go k h (no other) = other_band f band (g band ⊕ position) k other ∙ same k h other ∙ sym (other_band g band position k other)

-- ---- the zones that the code keeps
module _ (z : Gathered) (band : ℕ) (position : Position) (can : CanGather z position) where
  pub with_first : {r : Zone} → band < 4 → ZoneWith z.first position r
      → (◌≡◌ {A = Gathered} (record { first = r; second = z.second; third = z.third }) (gathered_with z band position)) × Summed (record { first = r; second = z.second; third = z.third })
  unfolding gathered_with zone_with
  with_first near made = (
    rw (made.is, lt-ltb _ _ near),
    record { first = made.sums; second = can.summed.second; third = can.summed.third; within = rw made.is (omega (arith, can.room)) },
  )

  pub with_second : {r : Zone} → 4 ≤ band → band < 7 → ZoneWith z.second position r
      → (◌≡◌ {A = Gathered} (record { first = z.first; second = r; third = z.third }) (gathered_with z band position)) × Summed (record { first = z.first; second = r; third = z.third })
  unfolding gathered_with zone_with
  with_second past near made = (
    rw (made.is, le-ltb _ _ past, lt-ltb _ _ near),
    record { first = can.summed.first; second = made.sums; third = can.summed.third; within = rw made.is (omega (arith, can.room)) },
  )

  pub with_third : {r : Zone} → 4 ≤ band → 7 ≤ band → ZoneWith z.third position r
      → (◌≡◌ {A = Gathered} (record { first = z.first; second = z.second; third = r }) (gathered_with z band position)) × Summed (record { first = z.first; second = z.second; third = r })
  unfolding gathered_with zone_with
  with_third past later made = (
    rw (made.is, le-ltb _ _ past, le-ltb _ _ later),
    record { first = can.summed.first; second = can.summed.second; third = made.sums; within = rw made.is (omega (arith, can.room)) },
  )
