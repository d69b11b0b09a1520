-- What zone 2's matches leave of zones 1 and 3, which bears more than adjacent zones do; what it comes to where a zone is empty, and how far it moves.
-- Assumes nothing.
use Prim.Native.Nat.{ℕ, ◌+◌, ◌-◌, ◌*◌, ◌≤◌, min}
use mathlib.Core.Path.{◌≡◌, ap}
use native.Mathlib.Omega.{arith}
use Rattle.ladder.specs.Position.{Position, ◌⊕◌, gross, matched, absolute_net}
use Rattle.ladder.specs.Interest.{Ladder, against, left, zones12, zones23, crossing}
use Rattle.ladder.proofs.Matching.{Takes, takes_matched, takes_gross, takes_net, net-sides, absolute_net-joined, absolute_net-mirrored}
use Rattle.ladder.proofs.Across.{OneSided, crossing-adds_up, zones13≤}

-- ---- zone 2 against zones 1 and 3 together
abbrev longs : Ladder → Position
longs x = record { long = x.zone1.long + x.zone3.long; short = x.zone2.short }

abbrev shorts : Ladder → Position
shorts x = record { long = x.zone1.short + x.zone3.short; short = x.zone2.long }

-- what zone 2's matches leave
pub spread : Ladder → ℕ
spread x = absolute_net (longs x) + absolute_net (shorts x)

in_turn : (a b c : ℕ) → min a b + min (b - min b a) c ≡ min (a + c) b
in_turn a b c = omega arith

module _ (x : Ladder) where
  middle : (crossing x).zones12 + (crossing x).zones23 ≡ matched (longs x) + matched (shorts x)
  unfolding crossing zones12 zones23 against left matched
  middle =
      omega (
        arith,
        in_turn x.zone1.long x.zone2.short x.zone3.long,
        in_turn x.zone1.short x.zone2.long x.zone3.short,
      )

  pub spread_is : OneSided x → 2 * (crossing x).zones13 + (crossing x).residual ≡ spread x
  unfolding spread
  spread_is s =
      omega (arith, crossing-adds_up x s, middle, takes_gross (takes_matched (longs x)), takes_gross (takes_matched (shorts x)))

  -- ---- where a zone is empty
  pub without_first : OneSided x → gross x.zone1 ≡ 0 → spread x ≡ (crossing x).residual
  without_first s none = omega (arith, spread_is s, zones13≤ x)

  pub without_second : gross x.zone2 ≡ 0 → spread x ≡ gross x.zone1 + gross x.zone3
  unfolding spread
  without_second none = omega (arith, net-sides (longs x), net-sides (shorts x))

  pub without_third : OneSided x → gross x.zone3 ≡ 0 → spread x ≡ (crossing x).residual
  without_third s none = omega (arith, spread_is s, zones13≤ x)

-- ---- how far it moves when the zones do
-- how far two numbers are apart, and two positions
abbrev gap : ℕ → ℕ → ℕ
gap m n = absolute_net (record { long = m; short = n })

abbrev pub far : Position → Position → ℕ
far a b = gap a.long b.long + gap a.short b.short

-- b against a and c: what is left moves by no more than the three do
against-moved : (a b c a' b' c' : ℕ) → gap (a' + c') b' ≤ gap (a + c) b + gap a' a + gap b' b + gap c' c
against-moved a b c a' b' c' =
    let before : Position = record { long = a + c; short = b } in
    let after : Position = record { long = a' + c'; short = b' } in
    let one : Position = record { long = a'; short = a } in
    let two : Position = record { long = b; short = b' } in
    let three : Position = record { long = c'; short = c } in
    let moved : Takes (a + b + c) (before ⊕ one ⊕ two ⊕ three) after = omega arith in
    omega (
      arith,
      ap gross (takes_net moved),
      absolute_net-joined (before ⊕ one ⊕ two) three,
      absolute_net-joined (before ⊕ one) two,
      absolute_net-joined before one,
      absolute_net-mirrored two,
    )

pub spread_moved : (x y : Ladder) → spread y ≤ spread x + (far y.zone1 x.zone1 + far y.zone2 x.zone2 + far y.zone3 x.zone3)
unfolding spread
spread_moved x y =
    omega (
      arith,
      against-moved x.zone1.long x.zone2.short x.zone3.long y.zone1.long y.zone2.short y.zone3.long,
      against-moved x.zone1.short x.zone2.long x.zone3.short y.zone1.short y.zone2.long y.zone3.short,
    )
