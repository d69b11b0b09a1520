-- Charges on nets: two books joined cost at most the two together, and a mirrored book costs the same.
-- Assumes nothing.
use Prim.Native.Nat.{ℕ, ◌+◌, ◌*◌, ◌≤◌}
use mathlib.Core.Path.{◌≡◌, ap, ap₂}
use mathlib.Core.List.{List, ◌∷◌}
use native.Mathlib.Nat.{add_comm, max_comm}
use native.Mathlib.Omega.{arith}
use Rattle.ladder.specs.Position.{Bands, gross, total}
use Rattle.ladder.specs.Nets.{absolute_nets, shorthand, simplified}
use Rattle.ladder.proofs.Matching.{takes_matched, takes_gross, absolute_net-joined, absolute_net-mirrored}
use Rattle.ladder.proofs.Totals.{◌⊞◌, mirror, takes_vertical, total-joined, total-mirrored, band_nets-joined, band_nets-mirrored}

module _ (list : List ℕ) where
  pub absolutes_joined : (f g : Bands) → absolute_nets list (f ⊞ g) ≤ absolute_nets list f + absolute_nets list g
  absolutes_joined f g = omega (arith, band_nets-joined f g list)

  pub absolutes_mirrored : (f : Bands) → absolute_nets list (mirror f) ≡ absolute_nets list f
  absolutes_mirrored f = rw (band_nets-mirrored f) (add_comm _ _)

  pub absolutes_within : (f : Bands) → absolute_nets list f ≤ gross (total f list)
  absolutes_within f = omega (arith, takes_gross (takes_vertical f list))

  pub shorthand-joined : (f g : Bands) → shorthand list (f ⊞ g) ≤ shorthand list f + shorthand list g
  shorthand-joined f g = omega (arith, band_nets-joined f g list, absolute_net-joined (f 0) (g 0))

  pub shorthand-mirrored : (f : Bands) → shorthand list (mirror f) ≡ shorthand list f
  shorthand-mirrored f = rw (band_nets-mirrored f) (ap₂ ◌+◌ (max_comm _ _) (absolute_net-mirrored (f 0)))

  -- gold is one group more
  pub shorthand-within : (f : Bands) → shorthand list f ≤ gross (total f (0 ∷ list))
  unfolding total
  shorthand-within f = omega (arith, takes_gross (takes_vertical f list), takes_gross (takes_matched (f 0)))

  -- net and gross
  pub simplified-joined : (f g : Bands) → simplified list (f ⊞ g) ≤ simplified list f + simplified list g
  simplified-joined f g = omega (arith, absolutes_joined f g, ap gross (total-joined f g list))

  pub simplified-mirrored : (f : Bands) → simplified list (mirror f) ≡ simplified list f
  simplified-mirrored f = omega (arith, absolutes_mirrored f, ap gross (total-mirrored f list))

  pub simplified-within : (f : Bands) → simplified list f ≤ 180000 * gross (total f list)
  simplified-within f = omega (arith, absolutes_within f)
