-- A match takes the same amount off both sides: all that is known of longs against shorts follows from that.
-- Assumes nothing.
use Prim.Native.Nat.{ℕ, ◌+◌, ◌*◌, ◌-◌, ◌≤◌}
use mathlib.Core.Path.{◌≡◌}
use native.Mathlib.Nat.{add_comm}
use native.Mathlib.Omega.{arith}
use Rattle.ladder.specs.declared.positions.Step.{Step}
use Rattle.ladder.specs.Position.{Position, empty, ◌⊕◌, gross, matched, net, absolute_net}

-- long and short exchanged
abbrev pub mirrored : Position → Position
mirrored a = record { long = a.short; short = a.long }

-- two positions with equal sides are equal
pub same_position : {a b : Position} → a.long ≡ b.long → a.short ≡ b.short → a ≡ b
same_position p q = λ i. record { long = p i; short = q i }

-- two steps that leave the same and match the same are equal
pub same_step : {A : Type 0} {a b : Step A} → a.left ≡ b.left → a.matched ≡ b.matched → a ≡ b
same_step p q = λ i. record { left = p i; matched = q i }

pub empty-plus : (a : Position) → empty ⊕ a ≡ a
empty-plus a = same_position (omega arith) (omega arith)

pub plus_assoc : (a b c : Position) → a ⊕ b ⊕ c ≡ a ⊕ (b ⊕ c)
plus_assoc a b c = same_position (omega arith) (omega arith)

pub plus_shuffle : (a b c d : Position) → (a ⊕ b) ⊕ (c ⊕ d) ≡ (a ⊕ c) ⊕ (b ⊕ d)
plus_shuffle a b c d = same_position (omega arith) (omega arith)

-- a match of m takes the position `before` to the position `after`
pub record Takes (m : ℕ) (before after : Position) : Type 0 where
  pub longs : before.long ≡ m + after.long
  pub shorts : before.short ≡ m + after.short

pub takes_matched : (a : Position) → Takes (matched a) a (net a)
unfolding matched net
takes_matched a = omega arith

-- matches made one after the other, and side by side
pub takes_then : {m n : ℕ} {a b c : Position} → Takes m a b → Takes n b c → Takes (m + n) a c
takes_then s t = omega arith

pub takes_both : {m n : ℕ} {a b c d : Position} → Takes m a b → Takes n c d → Takes (m + n) (a ⊕ c) (b ⊕ d)
takes_both s t = omega arith

-- a match lowers gross by its two sides
pub takes_gross : {m : ℕ} {a b : Position} → Takes m a b → 2 * m + gross b ≡ gross a
takes_gross t = omega arith

-- and leaves the net as it was
pub net-sides : (a : Position) → ((net a).long ≡ a.long - a.short) × ((net a).short ≡ a.short - a.long)
unfolding matched net
net-sides a = omega arith

pub takes_net : {m : ℕ} {a b : Position} → Takes m a b → net a ≡ net b
takes_net {a} {b} t = same_position (omega (arith, net-sides a, net-sides b)) (omega (arith, net-sides a, net-sides b))

-- where nothing can be matched, all is left
pub nothing-matched : (a : Position) → matched a ≡ 0 → absolute_net a ≡ gross a
nothing-matched a h = omega (arith, takes_gross (takes_matched a))

-- each side's net is subadditive
pub net-joined : (a b : Position)
    → ((net (a ⊕ b)).long ≤ (net a).long + (net b).long) × ((net (a ⊕ b)).short ≤ (net a).short + (net b).short)
net-joined a b = omega (arith, net-sides a, net-sides b, net-sides (a ⊕ b))

pub absolute_net-joined : (a b : Position) → absolute_net (a ⊕ b) ≤ absolute_net a + absolute_net b
absolute_net-joined a b = omega (arith, net-joined a b)

-- long and short may be exchanged
pub matched-mirrored : (a : Position) → matched (mirrored a) ≡ matched a
unfolding matched
matched-mirrored a = omega arith

pub net-mirrored : (a : Position) → net (mirrored a) ≡ mirrored (net a)
unfolding matched net
net-mirrored a = same_position (omega arith) (omega arith)

pub absolute_net-mirrored : (a : Position) → absolute_net (mirrored a) ≡ absolute_net a
absolute_net-mirrored a = rw net-mirrored (add_comm _ _)
