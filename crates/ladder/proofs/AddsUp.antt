-- The interest ladder adds up, for all bands and for per cents in their order.
-- Assumes nothing.
use Prim.Native.Nat.{ℕ, ◌+◌, ◌*◌, ◌≤◌}
use mathlib.Core.Path.{◌≡◌, sym, ap, ◌∙◌}
use mathlib.Core.List.{◌++◌}
use native.Mathlib.Nat.{mul-le-mul_right}
use native.Mathlib.Omega.{arith}
use Rattle.ladder.specs.Position.{Bands, ◌⊕◌, gross, net, absolute_net, total, vertical}
use Rattle.ladder.specs.Table.{Percents, AcceptedPercents}
use Rattle.ladder.specs.Interest.{Zones, Matches, zone_nets, together, matches, match_sum, charge, all_bands}
use Rattle.ladder.specs.Inner.Steps.{zones_gross}
use Rattle.ladder.proofs.Matching.{Takes, takes_matched, takes_then, takes_both, takes_gross, takes_net, net-sides}
use Rattle.ladder.proofs.Totals.{takes_vertical, total-append, vertical-append}
use Rattle.ladder.proofs.Across.{OneSided, unopposed_net, crossing-adds_up, residual_is_net}

-- the charge of a ladder from its bands
abbrev pub charge_of : Percents → Zones → Bands → ℕ
charge_of p z f = charge p (matches z f)

-- matches and residual make the gross; the residual is the net of all; the charge lies between the residual alone and all matches at 100%
pub record AddsUp (p : Percents) (z : Zones) (f : Bands) : Type 0 where
  pub gross : 2 * match_sum (matches z f) + (matches z f).residual ≡ (matches z f).gross
  pub residual : (matches z f).residual ≡ absolute_net (total f (all_bands z))
  pub least : 100 * (matches z f).residual ≤ charge_of p z f
  pub most : 2 * charge_of p z f ≤ 100 * ((matches z f).gross + (matches z f).residual)

module _ (z : Zones) (f : Bands) where
  -- three zones put together
  three_totals : (g : Bands) → total g (all_bands z) ≡ total g z.first ⊕ (total g z.second ⊕ total g z.third)
  three_totals g = rw (total-append g z.first, total-append g z.second)

  pub three_grosses : gross (total f z.first) + gross (total f z.second) + gross (total f z.third) ≡ gross (total f (all_bands z))
  three_grosses = omega (arith, ap gross (three_totals f))

  pub three_verticals : vertical f z.first + vertical f z.second + vertical f z.third ≡ vertical f (all_bands z)
  three_verticals = omega (arith, vertical-append f z.first (z.second ++ z.third), vertical-append f z.second z.third)

  -- the bands, and then the band nets of each zone
  takes_zones : Takes ((matches z f).vertical + ((matches z f).zone1 + ((matches z f).zone2 + (matches z f).zone3)))
      (total f (all_bands z))
      (together (zone_nets z f))
  unfolding matches
  takes_zones =
      takes_then (takes_vertical f (all_bands z))
      (rw (three_totals (λ i. net (f i)))
      (takes_both (takes_matched _) (takes_both (takes_matched _) (takes_matched _))))

  pub one_sided : OneSided (zone_nets z f)
  one_sided = record { zone1 = unopposed_net _; zone2 = unopposed_net _; zone3 = unopposed_net _ }

  pub zones-add_up : 2 * ((matches z f).zones12 + (matches z f).zones23 + (matches z f).zones13) + (matches z f).residual
      ≡ zones_gross (zone_nets z f)
  unfolding matches
  zones-add_up = crossing-adds_up (zone_nets z f) one_sided

  pub gross-adds_up : 2 * match_sum (matches z f) + (matches z f).residual ≡ (matches z f).gross
  unfolding matches
  gross-adds_up = omega (arith, takes_gross takes_zones, zones-add_up)

  pub residual_is_whole_net : (matches z f).residual ≡ absolute_net (total f (all_bands z))
  unfolding matches
  residual_is_whole_net = residual_is_net (zone_nets z f) ∙ ap gross (sym (takes_net takes_zones))

-- a charge lies between its residual alone and all matches at 100%
module _ (p : Percents) (ok : AcceptedPercents p) (x : Matches) where
  residual≤charge : 100 * x.residual ≤ charge p x
  residual≤charge = omega arith

  -- a per cent up to 100 of a match is at most the whole match
  at_most : {per : ℕ} (m : ℕ) → per ≤ 100 → per * m ≤ 100 * m
  at_most m h = mul-le-mul_right m h

  charge≤ : charge p x ≤ 100 * (match_sum x + x.residual)
  charge≤ =
      omega (
        arith,
        at_most {per = p.vertical} x.vertical (omega arith),
        at_most {per = p.zone1} x.zone1 (omega arith),
        at_most {per = p.zone2} x.zone2 (omega arith),
        at_most {per = p.zone3} x.zone3 (omega arith),
        at_most {per = p.adjacent} x.zones12 (omega arith),
        at_most {per = p.adjacent} x.zones23 (omega arith),
        at_most {per = p.apart} x.zones13 (omega arith),
      )

pub adds_up : (p : Percents) → AcceptedPercents p → (z : Zones) (f : Bands) → AddsUp p z f
adds_up p ok z f =
    record {
      gross = gross-adds_up z f;
      residual = residual_is_whole_net z f;
      least = residual≤charge p ok (matches z f);
      most = omega (arith, charge≤ p ok (matches z f), gross-adds_up z f);
    }

-- what a machine number must hold
pub charge-within : (p : Percents) → AcceptedPercents p → (z : Zones) (f : Bands) → charge_of p z f ≤ 100 * (matches z f).gross
charge-within p ok z f = omega (arith, charge≤ p ok (matches z f), gross-adds_up z f)

-- a ladder without shorts matches nothing, and costs 100% of its longs
pub charge-unopposed : (p : Percents) → AcceptedPercents p → (z : Zones) (f : Bands) → (total f (all_bands z)).short ≡ 0 → charge_of p z f ≡ 100 * (total f (all_bands z)).long
unfolding matches
charge-unopposed p ok z f none =
    let all = adds_up p ok z f in
    omega (arith, all.residual, all.least, all.most, net-sides (total f (all_bands z)))
