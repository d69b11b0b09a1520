-- Bands that agree where a ladder looks give the same figures: the code's tables hold the bands of the rows up to the last band.
-- Assumes nothing.
use Prim.Native.Nat.{ℕ, zero, suc, ◌+◌, ◌≤◌, ◌<◌}
use mathlib.Core.Path.{◌≡◌, refl, sym, ap, ◌∙◌}
use native.Mathlib.Omega.{arith}
use Rattle.ladder.specs.Position.{Position, Bands, gross, net, total}
use Rattle.sums.specs.Sums.{span}
use Rattle.ladder.specs.Table.{Percents}
use Rattle.ladder.specs.Interest.{zones, matches, interest_figures}
use Rattle.ladder.specs.Commodity.{Carried, nothing, to_band, carry, carry_figures, commodity_figures}
use Rattle.ladder.specs.Nets.{absolute_nets, shorthand, simplified}
use Rattle.ladder.specs.Inner.Steps.{zone_of}
use Rattle.ladder.proofs.Gathering.{zone_same, matches-combined}

-- two ladders agree below band n
pub record Agree (n : ℕ) (f g : Bands) : Type 0 where
  pub below : (k : ℕ) → k < n → f k ≡ g k

module _ {n : ℕ} {f g : Bands} (agree : Agree n f g) where
  pub total-agree : (of : Position → Position) (start many : ℕ) → start + many ≤ n → total (λ k. of (f k)) (span start many) ≡ total (λ k. of (g k)) (span start many)
  unfolding total span
  total-agree of start zero h = refl
  total-agree of start (suc many) h = rw (agree.below start (omega arith), total-agree of (suc start) many (omega arith))

  pub gross-agree : gross (total f (span 0 n)) ≡ gross (total g (span 0 n))
  gross-agree = ap gross (total-agree (λ a. a) 0 n (omega arith))

  zone_agree : (start many : ℕ) → start + many ≤ n → zone_of f (span start many) ≡ zone_of g (span start many)
  zone_agree start many h = zone_same f g start many (λ k low high. agree.below k (omega arith))

  carry-agree : (s : Carried) (start many : ℕ) → start + many ≤ n → carry s f (span start many) ≡ carry s g (span start many)
  unfolding carry span
  carry-agree s start zero h = refl
  carry-agree s start (suc many) h =
      ap (λ (band : Position). carry (to_band s band) f (span (suc start) many)) (agree.below start (omega arith))
      ∙ carry-agree (to_band s (g start)) (suc start) many (omega arith)

pub interest_agree : (p : Percents) {f g : Bands} → Agree 15 f g → interest_figures p f ≡ interest_figures p g
interest_agree p {f} {g} agree =
    let same : matches zones f ≡ matches zones g =
    sym (matches-combined zones f refl refl refl)
    ∙ matches-combined zones g (zone_agree agree 0 4 (omega arith)) (zone_agree agree 4 3 (omega arith)) (zone_agree agree 7 8 (omega arith)) in
    rw same

pub commodity-agree : {f g : Bands} → Agree 7 f g → commodity_figures f ≡ commodity_figures g
commodity-agree agree = ap carry_figures (carry-agree agree nothing 0 7 (omega arith))

pub absolutes_agree : {n : ℕ} {f g : Bands} → Agree n f g → absolute_nets (span 0 n) f ≡ absolute_nets (span 0 n) g
absolutes_agree {n} agree = ap gross (total-agree agree net 0 n (omega arith))

pub shorthand-agree : {m : ℕ} {f g : Bands} → Agree (suc m) f g → shorthand (span 1 m) f ≡ shorthand (span 1 m) g
shorthand-agree {m} agree = rw (total-agree agree net 1 m (omega arith), agree.below 0 (omega arith))

pub simplified-agree : {n : ℕ} {f g : Bands} → Agree n f g → simplified (span 0 n) f ≡ simplified (span 0 n) g
simplified-agree agree = rw (absolutes_agree agree, gross-agree agree)
