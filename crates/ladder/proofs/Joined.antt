-- Two ladders added cost at most the two together, where one zone is empty in the sum, under every accepted table.
-- Twice the charge is a sum of gross, of absolute nets and of the spread, each times a number that is not negative.
-- Assumes nothing.
use Prim.Native.Nat.{ℕ, ◌+◌, ◌-◌, ◌*◌, ◌≤◌}
use mathlib.Core.Path.{◌≡◌, ap}
use mathlib.Core.List.{List}
use native.Mathlib.Nat.{mul-le-mul_left}
use native.Mathlib.Omega.{arith}
use Rattle.ladder.specs.Position.{Bands, gross, matched, absolute_net, total, vertical, band_nets}
use Rattle.ladder.specs.Table.{Percents, AcceptedPercents}
use Rattle.ladder.specs.Interest.{Zones, zone_net, zone_nets, matches, all_bands}
use Rattle.ladder.specs.Inner.Steps.{zones_gross}
use Rattle.ladder.proofs.Matching.{takes_matched, takes_gross}
use Rattle.ladder.proofs.Totals.{◌⊞◌, takes_vertical, zone_net_lem, total-joined, band_nets-joined, absolute_net-total_joined}
use Rattle.ladder.proofs.AddsUp.{charge_of, one_sided, three_verticals, zones-add_up, residual_is_whole_net}
use Rattle.ladder.proofs.Spread.{spread, spread_is, without_first, without_second, without_third}

pub times : {x y : ℕ} (k : ℕ) → x ≡ y → k * x ≡ k * y
times k h = ap (λ (n : ℕ). k * n) h

pub times≤ : (k y z : ℕ) {x : ℕ} → x ≤ y + z → k * x ≤ k * y + k * z
times≤ k y z h = omega (arith, mul-le-mul_left k h)

-- a larger per cent of x is a smaller one and the difference
split : {small large : ℕ} (x : ℕ) → small ≤ large → large * x ≡ small * x + (large - small) * x
split {small} {large} x h =
    let parts : large ≡ small + (large - small) = omega arith in
    omega (arith, ap (λ (n : ℕ). n * x) parts)

-- ---- a zone, with the per cents of its bands, of the zone, and across zones
zone_cost : (bands zonal across : ℕ) → Bands → List ℕ → ℕ
zone_cost bands zonal across f zone =
    bands * gross (total f zone) + (zonal - bands) * gross (band_nets f zone) + (across - zonal) * absolute_net (total f zone)

module _ (bands zonal across : ℕ) (zone : List ℕ) where
  zone_cost_is : (f : Bands) → bands ≤ zonal → zonal ≤ across
      → zone_cost bands zonal across f zone ≡ 2 * (bands * vertical f zone + zonal * matched (band_nets f zone)) + across * gross (zone_net f zone)
  unfolding zone_cost
  zone_cost_is f small large =
      omega (
        arith,
        times bands (takes_gross (takes_vertical f zone)),
        times zonal (takes_gross (takes_matched (band_nets f zone))),
        times (across - zonal) (ap gross (zone_net_lem f zone)),
        split (gross (band_nets f zone)) small,
        split (gross (zone_net f zone)) large,
      )

  zone_cost_joined : (f g : Bands) → zone_cost bands zonal across (f ⊞ g) zone ≤ zone_cost bands zonal across f zone + zone_cost bands zonal across g zone
  unfolding zone_cost
  zone_cost_joined f g =
      let nets : gross (band_nets (f ⊞ g) zone) ≤ gross (band_nets f zone) + gross (band_nets g zone) = omega (arith, band_nets-joined f g zone) in
      omega (
        arith,
        times bands (ap gross (total-joined f g zone)),
        times≤ (zonal - bands) _ _ nets,
        times≤ (across - zonal) _ _ (absolute_net-total_joined f g zone),
      )

-- ---- the whole ladder
module _ (p : Percents) (z : Zones) where
  pub ladder_cost : Bands → ℕ
  ladder_cost f =
      zone_cost p.vertical p.zone1 p.adjacent f z.first
      + zone_cost p.vertical p.zone2 p.adjacent f z.second
      + zone_cost p.vertical p.zone3 p.adjacent f z.third

  pub ladder_cost_joined : (f g : Bands) → ladder_cost (f ⊞ g) ≤ ladder_cost f + ladder_cost g
  unfolding ladder_cost
  ladder_cost_joined f g =
      omega (
        arith,
        zone_cost_joined p.vertical p.zone1 p.adjacent z.first f g,
        zone_cost_joined p.vertical p.zone2 p.adjacent z.second f g,
        zone_cost_joined p.vertical p.zone3 p.adjacent z.third f g,
      )

  module _ (ok : AcceptedPercents p) (f : Bands) where
    twice_zones : 2 * (p.vertical * (matches z f).vertical + (p.zone1 * (matches z f).zone1 + p.zone2 * (matches z f).zone2 + p.zone3 * (matches z f).zone3))
        + p.adjacent * zones_gross (zone_nets z f)
        ≡ ladder_cost f
    unfolding ladder_cost matches
    twice_zones =
        omega (
          arith,
          zone_cost_is p.vertical p.zone1 p.adjacent z.first f ok.vertical≤1 ok.zone1≤,
          zone_cost_is p.vertical p.zone2 p.adjacent z.second f ok.vertical≤2 ok.zone2≤,
          zone_cost_is p.vertical p.zone3 p.adjacent z.third f ok.vertical≤3 ok.zone3≤,
          times p.vertical (three_verticals z f),
        )

    -- whatever zones are used
    pub twice_charge : 2 * charge_of p z f ≡ ladder_cost f + (200 - p.apart) * (matches z f).residual + (p.apart - p.adjacent) * spread (zone_nets z f)
    unfolding matches
    twice_charge =
        omega (
          arith,
          twice_zones,
          times p.adjacent (zones-add_up z f),
          times (p.apart - p.adjacent) (spread_is (zone_nets z f) (one_sided z f)),
          split {small = p.apart} {large = 200} (matches z f).residual (omega arith),
          split {small = p.adjacent} {large = p.apart} (matches z f).residual (omega arith),
          split {small = p.adjacent} {large = p.apart} (matches z f).zones13 (omega arith),
        )

-- ---- joining
-- one zone at least has nothing in it
pub data OneEmpty (z : Zones) (f : Bands) : Type 0 where
  first-empty : gross (total f z.first) ≡ 0 → OneEmpty z f
  second_empty : gross (total f z.second) ≡ 0 → OneEmpty z f
  third_empty : gross (total f z.third) ≡ 0 → OneEmpty z f

empty-net : (f : Bands) (zone : List ℕ) → gross (total f zone) ≡ 0 → gross (zone_net f zone) ≡ 0
empty-net f zone none = omega (arith, ap gross (zone_net_lem f zone), takes_gross (takes_matched (total f zone)))

module _ (z : Zones) (f g : Bands) where
  residual_joined : (matches z (f ⊞ g)).residual ≤ (matches z f).residual + (matches z g).residual
  residual_joined =
      rw (residual_is_whole_net z (f ⊞ g), residual_is_whole_net z f, residual_is_whole_net z g) (absolute_net-total_joined f g (all_bands z))

  -- a zone that is empty in the sum is so in both, and the spread is then something that is subadditive
  spread_by : (zone : List ℕ) (size : Bands → ℕ) → ((h : Bands) → gross (total h zone) ≡ 0 → spread (zone_nets z h) ≡ size h)
      → size (f ⊞ g) ≤ size f + size g → gross (total (f ⊞ g) zone) ≡ 0
      → spread (zone_nets z (f ⊞ g)) ≤ spread (zone_nets z f) + spread (zone_nets z g)
  spread_by zone size is sub none =
      let both = ap gross (total-joined f g zone) in
      omega (arith, is (f ⊞ g) none, is f (omega arith), is g (omega arith))

  spread_joined : OneEmpty z (f ⊞ g) → spread (zone_nets z (f ⊞ g)) ≤ spread (zone_nets z f) + spread (zone_nets z g)
  unfolding matches
  spread_joined (first-empty none) =
      spread_by z.first (λ h. (matches z h).residual) (λ h e. without_first (zone_nets z h) (one_sided z h) (empty-net h z.first e)) residual_joined none
  spread_joined (second_empty none) =
      spread_by z.second (λ h. absolute_net (total h z.first) + absolute_net (total h z.third))
      (λ h e. omega (arith, without_second (zone_nets z h) (empty-net h z.second e), ap gross (zone_net_lem h z.first), ap gross (zone_net_lem h z.third)))
      (omega (arith, absolute_net-total_joined f g z.first, absolute_net-total_joined f g z.third)) none
  spread_joined (third_empty none) =
      spread_by z.third (λ h. (matches z h).residual) (λ h e. without_third (zone_nets z h) (one_sided z h) (empty-net h z.third e)) residual_joined none

  pub joined : (p : Percents) → AcceptedPercents p → OneEmpty z (f ⊞ g) → charge_of p z (f ⊞ g) ≤ charge_of p z f + charge_of p z g
  joined p ok one_empty =
      let twice : 2 * charge_of p z (f ⊞ g) ≤ 2 * charge_of p z f + 2 * charge_of p z g =
      rw (twice_charge p z ok (f ⊞ g), twice_charge p z ok f, twice_charge p z ok g)
      (omega (
        arith,
        ladder_cost_joined p z f g,
        times≤ (200 - p.apart) _ _ residual_joined,
        times≤ (p.apart - p.adjacent) _ _ (spread_joined one_empty),
      )) in
      omega arith
