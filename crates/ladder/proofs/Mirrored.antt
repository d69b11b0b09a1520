-- Longs and shorts exchanged in every band: the interest ladder keeps all its matches, and so its charge under any table.
-- Assumes nothing.
use Prim.Native.Nat.{ℕ}
use mathlib.Core.Path.{◌≡◌}
use mathlib.Core.List.{List}
use native.Mathlib.Nat.{add_comm}
use Rattle.ladder.specs.Position.{Position, Bands, gross, matched, total, band_nets}
use Rattle.ladder.specs.Interest.{Zones, Ladder, against, left, together, zones12, zones23, zones13, crossing, zone_net, zone_nets, matches, all_bands}
use Rattle.ladder.proofs.Matching.{mirrored, matched-mirrored, net-mirrored, absolute_net-mirrored}
use Rattle.ladder.proofs.Totals.{mirror, total-mirrored, vertical-mirrored, band_nets-mirrored}

against-mirrored : (a b : Position) → against (mirrored a) (mirrored b) ≡ against a b
unfolding against
against-mirrored a b = add_comm _ _

-- what is left of the zones, mirrored
abbrev mirrored_ladder : Ladder → Ladder
mirrored_ladder x = record { zone1 = mirrored x.zone1; zone2 = mirrored x.zone2; zone3 = mirrored x.zone3 }

crossing-mirrored : (x : Ladder) → crossing (mirrored_ladder x) ≡ crossing x
unfolding crossing zones12 zones23 zones13 left
crossing-mirrored x =
    let two' = left x.zone2 x.zone1 in
    let one' = left x.zone1 x.zone2 in
    λ i.
    record {
      zones12 = against-mirrored x.zone1 x.zone2 i;
      zones23 = against-mirrored two' x.zone3 i;
      zones13 = against-mirrored one' (left x.zone3 two') i;
      residual = absolute_net-mirrored (together (zones13 (zones23 (zones12 x).left).left).left) i;
    }

module _ (f : Bands) where
  zone_gross : (zone : List ℕ) → gross (total (mirror f) zone) ≡ gross (total f zone)
  zone_gross zone = rw total-mirrored (add_comm _ _)

  zone_matched : (zone : List ℕ) → matched (band_nets (mirror f) zone) ≡ matched (band_nets f zone)
  zone_matched zone = rw band_nets-mirrored (matched-mirrored _)

  zone_net-mirrored : (zone : List ℕ) → zone_net (mirror f) zone ≡ mirrored (zone_net f zone)
  zone_net-mirrored zone = rw band_nets-mirrored (net-mirrored _)

  crossed_mirrored : (z : Zones) → crossing (zone_nets z (mirror f)) ≡ crossing (zone_nets z f)
  crossed_mirrored z = rw (zone_net-mirrored z.first, zone_net-mirrored z.second, zone_net-mirrored z.third) (crossing-mirrored (zone_nets z f))

  pub matches-mirrored : (z : Zones) → matches z (mirror f) ≡ matches z f
  unfolding matches
  matches-mirrored z =
      let crossed≡ = crossed_mirrored z in
      λ i.
      record {
        gross = zone_gross (all_bands z) i;
        vertical = vertical-mirrored f (all_bands z) i;
        zone1 = zone_matched z.first i;
        zone2 = zone_matched z.second i;
        zone3 = zone_matched z.third i;
        zones12 = (crossed≡ i).zones12;
        zones23 = (crossed≡ i).zones23;
        zones13 = (crossed≡ i).zones13;
        residual = (crossed≡ i).residual;
      }
