-- The slots of the tables: each leg has one, and no two of different class, group or band are the same.
-- Assumes nothing.
use mathlib.Core.Path.{◌≡◌, refl, sym, ap, ◌∙◌}
use mathlib.Core.Bool.{cond}
use Prim.Native.Nat.{ℕ, ◌+◌, ◌-◌, ◌*◌, ◌≤◌, ◌<◌}
use native.Mathlib.Omega.{arith}
use lib.Dec.{ltb, eqb}
use borrow.Author.Tests.{lt-ltb, le-ltb}
use Rattle.sums.proofs.Cases.{either}
use Rattle.book.specs.declared.Row.{Row}
use Rattle.book.specs.Refusals.{last_group}
use Rattle.book.specs.Legs.{Leg}
use Rattle.book.proofs.Placing.{of_four}
use Rattle.ladder.specs.Commodity.{commodity_band_count}
use Rattle.ladder.specs.Inner.Steps.{band_count}
use Rattle.charges.proofs.Columns.{first-within}
use Rattle.charges.specs.Bands.{first_band, high_column, low_column, commodity_column, low_coupon, interest_band, commodity_band, band_in}
use Rattle.charges.specs.Inner.Slots.{group_count, slot_count, slot_at, leg_slot, group_slot, leg_with}

-- ---- a band is one of its class's
-- the bands of a class
unfoldable pub bands_in : ℕ → ℕ
bands_in class = cond (eqb class 1) band_count (cond (eqb class 4) commodity_band_count 1)

pub interest_below : (row : Row) → interest_band row < 15
unfolding interest_band
interest_below row =
    let days = row.days in
    let most : interest_band row ≤ 14 = either (low_coupon row) (first_band days low_column) _ (omega (arith, first-within days low_column)) (omega (arith, first-within days high_column)) in
    omega (arith, most)

pub commodity-below : (row : Row) → commodity_band row < 7
unfolding commodity_band
commodity-below row = omega (arith, first-within row.days commodity_column)

pub band_within : (row : Row) (class : ℕ) → 1 ≤ class → class ≤ 4 → band_in class row < bands_in class
unfolding band_in bands_in
band_within row = of_four (λ class. band_in class row < bands_in class) (interest_below row) (omega arith) (omega arith) (commodity-below row)

-- ---- a slot is of one class, one group and one band
module _ (group band : ℕ) (h : group ≤ last_group) where
  pub slot_below : (class : ℕ) → 1 ≤ class → class ≤ 4 → band < bands_in class → slot_at class group band < slot_count
  unfolding slot_at bands_in
  slot_below = of_four (λ class. band < bands_in class → slot_at class group band < slot_count) (λ b. omega arith) (λ b. omega arith) (λ b. omega arith) (λ b. omega arith)

-- the class that a slot is of
class_at : ℕ → ℕ
class_at n = cond (ltb n 480) 1 (cond (ltb n 704) 4 (cond (ltb n 736) 2 3))

class_at_lem : (group band : ℕ) → group ≤ last_group → (class : ℕ) → 1 ≤ class → class ≤ 4 → band < bands_in class → class_at (slot_at class group band) ≡ class
unfolding slot_at bands_in class_at
class_at_lem group band h =
    of_four (λ class. band < bands_in class → class_at (slot_at class group band) ≡ class)
    (λ b. simp (lt-ltb (15 * group + band) 480 (omega arith)))
    (λ b. simp (le-ltb (704 + group) 480 (omega arith), le-ltb (704 + group) 704 (omega arith), lt-ltb (704 + group) 736 (omega arith)))
    (λ b. simp (le-ltb (736 + group) 480 (omega arith), le-ltb (736 + group) 704 (omega arith), le-ltb (736 + group) 736 (omega arith)))
    (λ b. simp (le-ltb (480 + 7 * group + band) 480 (omega arith), lt-ltb (480 + 7 * group + band) 704 (omega arith)))

pub one_place : (group group' band band' class : ℕ) → 1 ≤ class → class ≤ 4 → band < bands_in class → band' < bands_in class
    → slot_at class group band ≡ slot_at class group' band' → (group ≡ group') × (band ≡ band')
unfolding slot_at bands_in
one_place g g' k k' =
    of_four (λ class. k < bands_in class → k' < bands_in class → slot_at class g k ≡ slot_at class g' k' → (g ≡ g') × (k ≡ k'))
    (λ h h' e. omega arith)
    (λ h h' e. omega arith)
    (λ h h' e. omega arith)
    (λ h h' e. omega arith)

-- ---- the slots of each class's legs
module _ (row : Row) where
  pub interest_slot : leg_slot (leg_with 1 row) ≡ 15 * row.group + interest_band row
  unfolding leg_slot slot_at band_in
  interest_slot = refl

  pub equity-slot : leg_slot (leg_with 2 row) ≡ 704 + row.group
  unfolding leg_slot slot_at
  equity-slot = refl

  pub exchange_slot : leg_slot (leg_with 3 row) ≡ 736 + row.group
  unfolding leg_slot slot_at
  exchange_slot = refl

  pub commodity-slot : leg_slot (leg_with 4 row) ≡ 480 + 7 * row.group + commodity_band row
  unfolding leg_slot slot_at band_in
  commodity-slot = refl

  pub group_slot_lem : (class first : ℕ) → first ≡ 32 * (class - 1) → group_slot (leg_with class row) ≡ first + row.group
  unfolding group_slot
  group_slot_lem class first e = omega arith

-- ---- a leg of a class with a group
pub record Placed (leg : Leg) : Type 0 where
  pub low : 1 ≤ leg.class
  pub high : leg.class ≤ 4
  pub group : leg.row.group ≤ last_group

module _ (leg : Leg) (at : Placed leg) where
  -- the slots of a class are those of its legs only
  pub own_slot : (class g k : ℕ) → 1 ≤ class → class ≤ 4 → g ≤ last_group → k < bands_in class → leg_slot leg ≡ slot_at class g k → leg.class ≡ class
  unfolding leg_slot
  own_slot class g k low high h h' e =
      sym (class_at_lem leg.row.group _ at.group leg.class at.low at.high (band_within leg.row leg.class at.low at.high))
      ∙ ap class_at e
      ∙ class_at_lem g k h class low high h'

  pub own_group : (class g : ℕ) → 1 ≤ class → class ≤ 4 → g ≤ last_group → group_slot leg ≡ group_count * (class - 1) + g → leg.class ≡ class
  unfolding group_slot
  own_group class g low high h e = omega (arith, at.low, at.high, at.group)
