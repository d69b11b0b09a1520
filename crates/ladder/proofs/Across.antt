-- Zones against one another: the matches add up, and leave nothing that could be matched.
-- Assumes nothing.
use Prim.Native.Nat.{ℕ, ◌+◌, ◌*◌, ◌≤◌, min}
use mathlib.Core.Path.{◌≡◌}
use native.Mathlib.Omega.{arith}
use Rattle.ladder.specs.Position.{Position, ◌⊕◌, gross, matched, net, absolute_net}
use Rattle.ladder.specs.Interest.{Ladder, against, left, together, zones12, zones23, zones13, crossing}
use Rattle.ladder.specs.Inner.Steps.{zones_gross}
use Rattle.ladder.proofs.Matching.{Takes, takes_gross, takes_net, nothing-matched}

-- ---- two positions
takes_against : (a b : Position) → Takes (against a b) (a ⊕ b) (left a b ⊕ left b a)
unfolding against left
takes_against a b = omega arith

against≤ : (a b : Position) → (against a b ≤ gross a) × (against a b ≤ gross b)
unfolding against
against≤ a b = omega arith

record Within (a b : Position) : Type 0 where
  longs : a.long ≤ b.long
  shorts : a.short ≤ b.short

left-within : (a b : Position) → Within (left a b) a
unfolding left
left-within a b = omega arith

within_trans : {a b c : Position} → Within a b → Within b c → Within a c
within_trans p q = omega arith

within_refl : {a : Position} → Within a a
within_refl = omega arith

-- a and b have no opposite sides that could be matched; `Unopposed a a` says that a is long or short or nothing
pub record Unopposed (a b : Position) : Type 0 where
  pub longs : min a.long b.short ≡ 0
  pub shorts : min a.short b.long ≡ 0

unopposed_left : (a b : Position) → Unopposed (left a b) (left b a)
unfolding left
unopposed_left a b = omega arith

unopposed_within : {a a' b b' : Position} → Unopposed a b → Within a' a → Within b' b → Unopposed a' b'
unopposed_within s p q = omega arith

unopposed_flip : {a b : Position} → Unopposed a b → Unopposed b a
unopposed_flip s = omega arith

unopposed_both : {a b c : Position} → Unopposed a b → Unopposed a c → Unopposed a (b ⊕ c)
unopposed_both s t = omega arith

unopposed_sum : {a b : Position} → Unopposed a a → Unopposed b b → Unopposed a b → Unopposed (a ⊕ b) (a ⊕ b)
unopposed_sum s t u = unopposed_both (unopposed_flip (unopposed_both s u)) (unopposed_flip (unopposed_both (unopposed_flip u) t))

pub unopposed_net : (a : Position) → Unopposed (net a) (net a)
unfolding matched net
unopposed_net a = omega arith

unopposed_absolute_net : (a : Position) → Unopposed a a → absolute_net a ≡ gross a
unfolding matched
unopposed_absolute_net a s = nothing-matched a s.longs

-- ---- three zones
-- each zone is long or short or nothing, as a net is
pub record OneSided (x : Ladder) : Type 0 where
  pub zone1 : Unopposed x.zone1 x.zone1
  pub zone2 : Unopposed x.zone2 x.zone2
  pub zone3 : Unopposed x.zone3 x.zone3

-- what the three steps leave
abbrev unmatched : Ladder → Position
unmatched x = together (zones13 (zones23 (zones12 x).left).left).left

abbrev cross_sum : Ladder → ℕ
cross_sum x = (crossing x).zones12 + (crossing x).zones23 + (crossing x).zones13

module _ (x : Ladder) where
  takes_crossing : Takes (cross_sum x) (together x) (unmatched x)
  unfolding crossing zones12 zones23 zones13
  takes_crossing =
      let two' = left x.zone2 x.zone1 in
      omega (
        arith,
        takes_against x.zone1 x.zone2,
        takes_against two' x.zone3,
        takes_against (left x.zone1 x.zone2) (left x.zone3 two'),
      )

  -- the residual is the absolute net of the zones
  pub residual_is_net : (crossing x).residual ≡ absolute_net (together x)
  unfolding crossing
  residual_is_net = rw (takes_net takes_crossing)

  -- nothing is left that could be matched
  unopposed_crossing : OneSided x → Unopposed (unmatched x) (unmatched x)
  unfolding zones12 zones23 zones13
  unopposed_crossing s =
      let one = x.zone1 in
      let two = x.zone2 in
      let three = x.zone3 in
      let one' = left one two in
      let two' = left two one in
      let three' = left three two' in
      let one'' = left one' three' in
      let two'' = left two' three in
      let three'' = left three' one' in
      let in_one : Within one'' one = within_trans (left-within one' three') (left-within one two) in
      let in_two : Within two'' two = within_trans (left-within two' three) (left-within two one) in
      let in_three : Within three'' three = within_trans (left-within three' one') (left-within three two') in
      let s12 : Unopposed one'' two'' = unopposed_within (unopposed_left one two) (left-within one' three') (left-within two' three) in
      let s23 : Unopposed two'' three'' = unopposed_within (unopposed_left two' three) within_refl (left-within three' one') in
      let s13 : Unopposed one'' three'' = unopposed_left one' three' in
      unopposed_sum (unopposed_within s.zone1 in_one in_one)
      (unopposed_sum (unopposed_within s.zone2 in_two in_two) (unopposed_within s.zone3 in_three in_three) s23)
      (unopposed_both s12 s13)

  -- so the matches and the residual add up to the zones' gross
  pub crossing-adds_up : OneSided x → 2 * cross_sum x + (crossing x).residual ≡ zones_gross x
  unfolding crossing
  crossing-adds_up s = omega (arith, takes_gross takes_crossing, unopposed_absolute_net _ (unopposed_crossing s))

  -- zones 1 and 3 match at most what either has
  pub zones13≤ : ((crossing x).zones13 ≤ gross x.zone1) × ((crossing x).zones13 ≤ gross x.zone3)
  unfolding crossing zones12 zones23 zones13
  zones13≤ =
      let two' = left x.zone2 x.zone1 in
      omega (
        arith,
        against≤ (left x.zone1 x.zone2) (left x.zone3 two'),
        left-within x.zone1 x.zone2,
        left-within x.zone3 two',
      )
