-- What is added on one side lowers a ladder's charge, or leaves it, as long as the whole ladder is net on the other side, and then raises it or leaves it, whatever
-- zones are used, under every accepted table.
-- Assumes nothing.
use Prim.Native.Nat.{ℕ, ◌+◌, ◌-◌, ◌*◌, ◌≤◌, ◌<◌}
use mathlib.Core.Path.{◌≡◌, refl, ap, ◌∙◌, fun_ext}
use mathlib.Core.Bool.{Bool, true, false, cond}
use mathlib.Core.List.{List}
use native.Mathlib.Nat.{mul-le-mul_left, mul-le-mul_right, add_comm}
use native.Mathlib.Omega.{arith}
use lib.Dec.{eqb}
use Rattle.sums.specs.Sums.{span, sum_of}
use Rattle.sums.proofs.Spans.{slot_within}
use Rattle.ladder.specs.Position.{Position, Bands, empty, ◌⊕◌, gross, net, absolute_net, at_band, total}
use Rattle.ladder.specs.Table.{Percents, AcceptedPercents}
use Rattle.ladder.specs.Interest.{Zones, zone_net, zone_nets, matches, match_sum, all_bands, zones}
use Rattle.ladder.proofs.Matching.{Takes, same_position, takes_matched, takes_net, net-sides, net-joined, plus_assoc, absolute_net-mirrored}
use Rattle.ladder.proofs.Totals.{◌⊞◌, mirror, zone_net_lem, total-sides, total-joined, total-mirrored}
use Rattle.ladder.proofs.AddsUp.{charge_of, one_sided, three_grosses, adds_up, residual_is_whole_net}
use Rattle.ladder.proofs.Spread.{far, spread, spread_is, spread_moved}
use Rattle.ladder.proofs.Joined.{times, times≤, ladder_cost, ladder_cost_joined, twice_charge}
use Rattle.ladder.proofs.Taking.{TakesOff, charge-taken}

-- ---- the spread moves by no more than is added
-- a net loses no more than what is added at the other side
net-back : (a d : Position) → ((net a).long ≤ (net (a ⊕ d)).long + d.short) × ((net a).short ≤ (net (a ⊕ d)).short + d.long)
net-back a d = omega (arith, net-sides a, net-sides (a ⊕ d))

net-moved : (a d : Position) → far (net (a ⊕ d)) (net a) ≤ gross d
net-moved a d =
    let after = net (a ⊕ d) in
    omega (
      arith,
      net-joined a d,
      net-back a d,
      takes_matched a,
      takes_matched d,
      takes_matched (a ⊕ d),
      net-sides (record { long = after.long; short = (net a).long }),
      net-sides (record { long = after.short; short = (net a).short }),
    )

module _ (f g : Bands) where
  zone_net-moved : (zone : List ℕ) → far (zone_net (f ⊞ g) zone) (zone_net f zone) ≤ gross (total g zone)
  zone_net-moved zone = rw (zone_net_lem (f ⊞ g) zone, zone_net_lem f zone, total-joined f g zone) (net-moved (total f zone) (total g zone))

  spread_added : (z : Zones) → spread (zone_nets z (f ⊞ g)) ≤ spread (zone_nets z f) + gross (total g (all_bands z))
  spread_added z =
      omega (
        arith,
        spread_moved (zone_nets z f) (zone_nets z (f ⊞ g)),
        zone_net-moved z.first,
        zone_net-moved z.second,
        zone_net-moved z.third,
        three_grosses z g,
      )

-- ---- the whole ladder
module _ (p : Percents) (ok : AcceptedPercents p) (z : Zones) where
  -- what is added costs at most 100 a unit, even if all of it spreads
  alone : (g : Bands) → ladder_cost p z g + (200 - p.apart) * (matches z g).residual + (p.apart - p.adjacent) * gross (total g (all_bands z)) ≤ 200 * gross (total g (all_bands z))
  unfolding matches
  alone g =
      let all = adds_up p ok z g in
      let more = p.apart - p.adjacent in
      let most : more ≤ 100 = omega arith in
      omega (
        arith,
        twice_charge p z ok g,
        all.most,
        times more all.gross,
        times more (spread_is (zone_nets z g) (one_sided z g)),
        mul-le-mul_right (match_sum (matches z g)) most,
      )

  -- what is added on one side lowers the charge, or leaves it, where it makes up the whole net
  lowers : (f g : Bands) → absolute_net (total g (all_bands z)) ≡ gross (total g (all_bands z))
      → absolute_net (total (f ⊞ g) (all_bands z)) + gross (total g (all_bands z)) ≤ absolute_net (total f (all_bands z)) → charge_of p z (f ⊞ g) ≤ charge_of p z f
  lowers f g one_side less =
      let added = gross (total g (all_bands z)) in
      let residual : (matches z (f ⊞ g)).residual + added ≤ (matches z f).residual = rw (residual_is_whole_net z (f ⊞ g), residual_is_whole_net z f) less in
      let own : (matches z g).residual ≡ added = residual_is_whole_net z g ∙ one_side in
      let most : 100 ≤ 200 - p.apart = omega arith in
      let twice : 2 * charge_of p z (f ⊞ g) ≤ 2 * charge_of p z f =
      rw (twice_charge p z ok (f ⊞ g), twice_charge p z ok f)
      (omega (
        arith,
        ladder_cost_joined p z f g,
        mul-le-mul_left (200 - p.apart) residual,
        times≤ (p.apart - p.adjacent) _ _ (spread_added f g z),
        alone g,
        times (200 - p.apart) own,
        mul-le-mul_right added most,
      )) in
      omega arith

  -- and raises it, or leaves it, where it adds to the whole net: taken away again at the other side, the two match in their bands
  raises : (f g : Bands) → absolute_net (total g (all_bands z)) ≡ gross (total g (all_bands z))
      → absolute_net (total f (all_bands z)) + gross (total g (all_bands z)) ≤ absolute_net (total (f ⊞ g) (all_bands z)) → charge_of p z f ≤ charge_of p z (f ⊞ g)
  raises f g one_side more =
      let off : TakesOff (λ k. gross (g k)) (f ⊞ g ⊞ mirror g) f = record { each = λ k. omega arith } in
      let back : Takes (gross (total g (all_bands z))) (total (f ⊞ g ⊞ mirror g) (all_bands z)) (total f (all_bands z)) =
      rw (total-joined (f ⊞ g) (mirror g) (all_bands z), total-joined f g (all_bands z), total-mirrored g (all_bands z)) (omega arith) in
      let same : absolute_net (total (f ⊞ g ⊞ mirror g) (all_bands z)) ≡ absolute_net (total f (all_bands z)) = ap gross (takes_net back) in
      let turned : gross (total (mirror g) (all_bands z)) ≡ gross (total g (all_bands z)) = rw (total-mirrored g (all_bands z)) (omega arith) in
      let lowered = lowers (f ⊞ g) (mirror g)
      (rw (total-mirrored g (all_bands z)) (absolute_net-mirrored (total g (all_bands z)) ∙ one_side ∙ add_comm _ _))
      (omega (arith, same, turned, more)) in
      omega (arith, charge-taken off p z, lowered)

-- ---- one band
side_at : (side : Position → ℕ) → side empty ≡ 0 → (test : Bool) (d : Position) → side (cond test d empty) ≡ cond test (side d) 0
side_at side none true d = refl
side_at side none false d = none

plus_at : (test : Bool) (d e : Position) → cond test d empty ⊕ cond test e empty ≡ cond test (d ⊕ e) empty
plus_at true d e = refl
plus_at false d e = refl

module _ (band : ℕ) (h : band < 15) where
  sum_at_lem : (side : Position → ℕ) → side empty ≡ 0 → (d : Position) → sum_of (λ k. side (at_band band d k)) (span 0 15) ≡ side d
  sum_at_lem side none d =
      ap (λ (amount : ℕ → ℕ). sum_of amount (span 0 15)) (fun_ext (λ k. side_at side none (eqb band k) d)) ∙ slot_within band (side d) 0 15 (omega arith) (omega arith)

  -- the position in one band is all that is there
  pub total-at : (d : Position) → total (at_band band d) (all_bands zones) ≡ d
  unfolding span
  total-at d = total-sides (at_band band d) (span 0 15) ∙ same_position (sum_at_lem (λ a. a.long) refl d) (sum_at_lem (λ a. a.short) refl d)

  module _ (p : Percents) (ok : AcceptedPercents p) (f : Bands) (d e : Position) (one_side : absolute_net e ≡ gross e) where
    both : f ⊞ at_band band d ⊞ at_band band e ≡ f ⊞ at_band band (d ⊕ e)
    both = fun_ext (λ k. plus_assoc (f k) _ _ ∙ ap (λ (a : Position). f k ⊕ a) (plus_at (eqb band k) d e))

    whole : (position : Position) → total (f ⊞ at_band band position) (all_bands zones) ≡ total f (all_bands zones) ⊕ position
    whole position = total-joined f (at_band band position) (all_bands zones) ∙ ap (λ (a : Position). total f (all_bands zones) ⊕ a) (total-at position)

    more : total (f ⊞ at_band band d ⊞ at_band band e) (all_bands zones) ≡ total f (all_bands zones) ⊕ (d ⊕ e)
    more = ap (λ (g : Bands). total g (all_bands zones)) both ∙ whole (d ⊕ e)

    -- adding more on a side of a band, before the whole net is made up and after it
    pub band_lowers : absolute_net (total f (all_bands zones) ⊕ (d ⊕ e)) + gross e ≤ absolute_net (total f (all_bands zones) ⊕ d)
        → charge_of p zones (f ⊞ at_band band (d ⊕ e)) ≤ charge_of p zones (f ⊞ at_band band d)
    band_lowers less =
        rw (← both) (lowers p ok zones (f ⊞ at_band band d) (at_band band e) (rw (total-at e) one_side) (rw (more, total-at e, whole d) less))

    pub band_raises : absolute_net (total f (all_bands zones) ⊕ d) + gross e ≤ absolute_net (total f (all_bands zones) ⊕ (d ⊕ e))
        → charge_of p zones (f ⊞ at_band band d) ≤ charge_of p zones (f ⊞ at_band band (d ⊕ e))
    band_raises less =
        rw (← both) (raises p ok zones (f ⊞ at_band band d) (at_band band e) (rw (total-at e) one_side) (rw (more, total-at e, whole d) less))
