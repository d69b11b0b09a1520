-- An amount on one side, and the net that it is added to.
-- Assumes nothing.
use mathlib.Core.Path.{◌≡◌, refl}
use mathlib.Core.Bool.{Bool, true, false, cond}
use mathlib.Core.Logic.{◌⊎◌, inl, inr}
use Prim.Native.Nat.{ℕ, ◌+◌, ◌-◌, ◌*◌, ◌≤◌, ◌<◌}
use native.Mathlib.Nat.{mul-zero}
use native.Mathlib.Omega.{arith}
use lib.Dec.{eqb}
use Rattle.ladder.specs.declared.positions.Position.{Position}
use Rattle.ladder.specs.Position.{◌⊕◌, gross, absolute_net}
use Rattle.ladder.proofs.Matching.{Takes, same_position, net-sides}
use Rattle.trade.specs.Trade.{on_side}
use Rattle.trade.specs.Inner.Sides.{excess_in}

-- the amount, and the excess of the other side, by whether the side is long
abbrev on : Bool → ℕ → Position
on long n = cond long (record { long = n; short = 0 }) (record { long = 0; short = n })

abbrev excess : Bool → Position → ℕ
excess long whole = cond long (whole.short - whole.long) (whole.long - whole.short)

pub side_plus : (side m n : ℕ) → on_side side m ⊕ on_side side n ≡ on_side side (m + n)
side_plus side m n = go (eqb side 0)
  where
    go : (long : Bool) → on long m ⊕ on long n ≡ on long (m + n)
    go true = refl
    go false = refl

pub side_gross : (side n : ℕ) → gross (on_side side n) ≡ n
side_gross side n = go (eqb side 0)
  where
    go : (long : Bool) → gross (on long n) ≡ n
    go true = omega arith
    go false = omega arith

pub side_one : (side n : ℕ) → absolute_net (on_side side n) ≡ gross (on_side side n)
side_one side n = go (eqb side 0)
  where
    go : (long : Bool) → absolute_net (on long n) ≡ gross (on long n)
    go true = omega (arith, net-sides (on true n))
    go false = omega (arith, net-sides (on false n))

-- an amount that is not 0 stands on one side alone
pub side_alone : (side n : ℕ) → 1 ≤ n
    → ((0 < (on_side side n).long) × ((on_side side n).short ≡ 0))
    ⊎ (((on_side side n).long ≡ 0) × (0 < (on_side side n).short))
side_alone side n some = go (eqb side 0)
  where
    go : (long : Bool)
        → ((0 < (on long n).long) × ((on long n).short ≡ 0))
        ⊎ (((on long n).long ≡ 0) × (0 < (on long n).short))
    go true = inl (some, refl)
    go false = inr (refl, some)

-- both sides times a weight
abbrev times : ℕ → Position → Position
times weight a = record { long = weight * a.long; short = weight * a.short }

pub side_times : (side weight n : ℕ) → times weight (on_side side n) ≡ on_side side (weight * n)
side_times side weight n = go (eqb side 0)
  where
    go : (long : Bool) → times weight (on long n) ≡ on long (weight * n)
    go true = same_position refl (mul-zero weight)
    go false = same_position (mul-zero weight) refl

-- adding to a side lowers the whole net until the excess of the other is made up, and then raises it
module _ (side : ℕ) (whole : Position) (m n : ℕ) where
  pub side_less : m + n ≤ excess_in side whole → absolute_net (whole ⊕ on_side side (m + n)) + n ≤ absolute_net (whole ⊕ on_side side m)
  side_less = go (eqb side 0)
    where
      go : (long : Bool) → m + n ≤ excess long whole → absolute_net (whole ⊕ on long (m + n)) + n ≤ absolute_net (whole ⊕ on long m)
      go true h = omega (arith, net-sides (whole ⊕ on true (m + n)), net-sides (whole ⊕ on true m))
      go false h = omega (arith, net-sides (whole ⊕ on false (m + n)), net-sides (whole ⊕ on false m))

  pub side_more : excess_in side whole ≤ m → absolute_net (whole ⊕ on_side side m) + n ≤ absolute_net (whole ⊕ on_side side (m + n))
  side_more = go (eqb side 0)
    where
      go : (long : Bool) → excess long whole ≤ m → absolute_net (whole ⊕ on long m) + n ≤ absolute_net (whole ⊕ on long (m + n))
      go true h = omega (arith, net-sides (whole ⊕ on true (m + n)), net-sides (whole ⊕ on true m))
      go false h = omega (arith, net-sides (whole ⊕ on false (m + n)), net-sides (whole ⊕ on false m))

-- the excess is the net's, whatever is matched
pub excess_taken : (side : ℕ) {m : ℕ} {a b : Position} → Takes m a b → excess_in side a ≡ excess_in side b
excess_taken side {m} {a} {b} t = go (eqb side 0)
  where
    go : (long : Bool) → excess long a ≡ excess long b
    go true = omega (arith, t)
    go false = omega (arith, t)
