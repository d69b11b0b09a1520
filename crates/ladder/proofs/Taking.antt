-- The same amount taken off both sides of a band: gross falls by twice it, the vertical match by it, and nothing else changes.
-- Assumes nothing.
use Prim.Native.Nat.{ℕ, ◌+◌, ◌*◌}
use mathlib.Core.Path.{◌≡◌, ap, fun_ext}
use mathlib.Core.List.{List, [], ◌∷◌}
use native.Mathlib.Omega.{arith}
use Rattle.ladder.specs.Position.{Bands, gross, total, vertical, band_nets}
use Rattle.sums.specs.Sums.{sum_of}
use Rattle.ladder.specs.Table.{Percents}
use Rattle.ladder.specs.Interest.{Zones, matches, all_bands}
use Rattle.ladder.proofs.Matching.{Takes, takes_gross, takes_net}
use Rattle.ladder.proofs.Totals.{takes_vertical}
use Rattle.ladder.proofs.AddsUp.{charge_of}

-- in each band the same amount is taken off both sides
pub record TakesOff (taken : ℕ → ℕ) (before after : Bands) : Type 0 where
  pub each : (k : ℕ) → Takes (taken k) (before k) (after k)

module _ {taken : ℕ → ℕ} {before after : Bands} (t : TakesOff taken before after) where
  band_nets-same : (zone : List ℕ) → band_nets before zone ≡ band_nets after zone
  band_nets-same zone = ap (λ (g : Bands). total g zone) (fun_ext (λ k. takes_net (t.each k)))

  total-taken : (zone : List ℕ) → Takes (sum_of taken zone) (total before zone) (total after zone)
  unfolding total sum_of
  total-taken [] = omega arith
  total-taken (k ∷ zone) = omega (arith, t.each k, total-taken zone)

  vertical-taken : (zone : List ℕ) → vertical before zone ≡ sum_of taken zone + vertical after zone
  vertical-taken zone =
      omega (arith, total-taken zone, takes_vertical before zone, takes_vertical after zone, ap gross (band_nets-same zone))

  -- the ladder's sums before, from those after
  pub matches-taken : (z : Zones)
      → matches z before
      ≡ record {
        gross = 2 * sum_of taken (all_bands z) + (matches z after).gross;
        vertical = sum_of taken (all_bands z) + (matches z after).vertical;
        zone1 = (matches z after).zone1;
        zone2 = (matches z after).zone2;
        zone3 = (matches z after).zone3;
        zones12 = (matches z after).zones12;
        zones23 = (matches z after).zones23;
        zones13 = (matches z after).zones13;
        residual = (matches z after).residual;
      }
  unfolding matches
  matches-taken z =
      rw (band_nets-same z.first, band_nets-same z.second, band_nets-same z.third)
      (cc (takes_gross (total-taken (all_bands z)), vertical-taken (all_bands z)))

  pub charge-taken : (p : Percents) (z : Zones) → charge_of p z before ≡ p.vertical * sum_of taken (all_bands z) + charge_of p z after
  charge-taken p z = rw (matches-taken z) (omega arith)
