-- The tables of a list of legs hold the sums of each class in slots of its own: the ladders of its groups, their specific charges and rows.
-- Assumes nothing.
use mathlib.Core.Path.{◌≡◌, refl, ap, ◌∙◌, fun_ext}
use mathlib.Core.Bool.{Bool, true, false, cond}
use mathlib.Core.List.{List, ◌∷◌}
use Prim.Native.Nat.{ℕ, ◌+◌, ◌-◌, ◌*◌, ◌≤◌, ◌<◌}
use native.Mathlib.Decide.{ℕ_discrete}
use native.Mathlib.Omega.{arith}
use lib.ListN.{get_or, replicate}
use lib.Dec.{eqb}
use borrow.Author.Tests.{eq-eqb, ne_eqb, eqb-true, eqb-false}
use Rattle.sums.specs.Sums.{sum_of, sum_at}
use Rattle.sums.specs.Every.{Every, none, also}
use Rattle.sums.specs.Inner.Tables.{tally}
use Rattle.sums.proofs.Every.{none_where}
use Rattle.sums.proofs.Tables.{tallied}
use Rattle.book.specs.declared.Row.{Row}
use Rattle.book.specs.Legs.{Leg, of_class}
use Rattle.book.specs.Refusals.{last_group}
use Rattle.ladder.specs.declared.positions.Position.{Position}
use Rattle.ladder.specs.Rows.{in_group, ladder_of}
use Rattle.ladder.specs.Inner.Steps.{bands}
use Rattle.ladder.proofs.Arrays.{bands_by}
use Rattle.charges.specs.Bands.{band_in}
use Rattle.charges.specs.Charges.{reading, specific_of}
use Rattle.charges.specs.Inner.Slots.{group_count, slot_count, slot_at, leg_with, leg_slot, group_slots, group_slot, leg_specific, leg_counted, LegSums}
use Rattle.charges.proofs.Places.{bands_in, Placed, band_within, slot_below, one_place, own_slot, own_group}

-- an index that only legs of one class have: what stands there is of the rows of that class
module _ (index amount : Leg → ℕ) (at class : ℕ) (own : (leg : Leg) → Placed leg → index leg ≡ at → leg.class ≡ class) where
  abbrev here : Leg → ℕ
  here leg = cond (eqb (index leg) at) (amount leg) 0

  abbrev here_of : Row → ℕ
  here_of row = here (leg_with class row)

  class_part : {legs : List Leg} → Every Placed legs → sum_of here legs ≡ sum_of here_of (of_class class legs)
  unfolding sum_of of_class
  class_part none = refl
  class_part (also {a} {rest} placed later) = go a rest placed (eqb a.class class) refl (class_part later)
    where
      go : (leg : Leg) (legs : List Leg) → Placed leg → (test : Bool) → eqb leg.class class ≡ test → sum_of here legs ≡ sum_of here_of (of_class class legs)
          → here leg + sum_of here legs ≡ sum_of here_of (cond test (leg.row ∷ of_class class legs) (of_class class legs))
      go leg legs placed true t later = omega (arith, ap (λ (n : ℕ). here (leg_with n leg.row)) (eqb-true leg.class class t))
      go leg legs placed false t later =
          let nothing : here leg ≡ 0 = simp (ne_eqb (index leg) at (λ e. eqb-false leg.class class t (own leg placed e))) in
          omega arith

-- what the tables hold of a group
pub record Holds (legs : List Leg) (class g : ℕ) (positions : List Position) (specifics rows : List ℕ) : Type 0 where
  pub long : (k : ℕ) → k < bands_in class → (bands positions (slot_at class g k)).long ≡ (ladder_of (reading class) g (of_class class legs) k).long
  pub short : (k : ℕ) → k < bands_in class → (bands positions (slot_at class g k)).short ≡ (ladder_of (reading class) g (of_class class legs) k).short
  pub specific : get_or specifics (group_count * (class - 1) + g) 0 ≡ sum_at (λ row. row.group) (specific_of class) g (of_class class legs)
  pub counted : get_or rows (group_count * (class - 1) + g) 0 ≡ sum_at (λ row. row.group) (λ row. leg_counted (leg_with class row)) g (of_class class legs)

module _ (legs : List Leg) (placed : Every Placed legs) (class g : ℕ) (low : 1 ≤ class) (high : class ≤ 4) (range : g ≤ last_group) where
  -- one side of a band
  band_sum_lem : (amount : Row → ℕ) (k : ℕ) → k < bands_in class
      → get_or (tally leg_slot (λ leg. amount leg.row) (replicate slot_count 0) legs) (slot_at class g k) 0
      ≡ sum_at (band_in class) (in_group (reading class) g amount) k (of_class class legs)
  unfolding leg_slot
  band_sum_lem amount k h =
      tallied leg_slot (λ leg. amount leg.row) slot_count legs (slot_at class g k) (slot_below g k range class low high h)
      ∙ class_part leg_slot (λ leg. amount leg.row) (slot_at class g k) class (λ leg at e. own_slot leg at class g k low high range h e) placed
      ∙ ap (λ (f : Row → ℕ). sum_of f (of_class class legs)) (fun_ext (λ row. go row (ℕ_discrete row.group g) (ℕ_discrete (band_in class row) k)))
    where
      apart : (row : Row) → slot_at class row.group (band_in class row) ≡ slot_at class g k → (row.group ≡ g) × (band_in class row ≡ k)
      apart row = one_place row.group g (band_in class row) k class low high (band_within row class low high) h

      go : (row : Row) → Dec (row.group ≡ g) → Dec (band_in class row ≡ k)
          → cond (eqb (slot_at class row.group (band_in class row)) (slot_at class g k)) (amount row) 0 ≡ cond (eqb (band_in class row) k) (cond (eqb row.group g) (amount row) 0) 0
      go row (yes p) (yes q) =
          let same = ap (λ (n : ℕ). slot_at class n (band_in class row)) p ∙ ap (slot_at class g) q in
          simp (eq-eqb row.group g p, eq-eqb (band_in class row) k q, eq-eqb (slot_at class row.group (band_in class row)) (slot_at class g k) same)
      go row (yes p) (no q) = simp (ne_eqb (band_in class row) k q, ne_eqb (slot_at class row.group (band_in class row)) (slot_at class g k) (λ e. q (apart row e).1))
      go row (no p) (yes q) = simp (eq-eqb (band_in class row) k q, ne_eqb row.group g p, ne_eqb (slot_at class row.group (band_in class row)) (slot_at class g k) (λ e. p (apart row e).0))
      go row (no p) (no q) = simp (ne_eqb (band_in class row) k q, ne_eqb (slot_at class row.group (band_in class row)) (slot_at class g k) (λ e. q (apart row e).1))

  -- one number of a group
  group_sum : (amount : Leg → ℕ) → get_or (tally group_slot amount (replicate group_slots 0) legs) (group_count * (class - 1) + g) 0
      ≡ sum_at (λ row. row.group) (λ row. amount (leg_with class row)) g (of_class class legs)
  unfolding group_slot
  group_sum amount =
      tallied group_slot amount group_slots legs (group_count * (class - 1) + g) (omega arith)
      ∙ class_part group_slot amount (group_count * (class - 1) + g) class (λ leg at e. own_group leg at class g low high range e) placed
      ∙ ap (λ (f : Row → ℕ). sum_of f (of_class class legs)) (fun_ext (λ row. go row (ℕ_discrete row.group g)))
    where
      go : (row : Row) → Dec (row.group ≡ g)
          → cond (eqb (group_count * (class - 1) + row.group) (group_count * (class - 1) + g)) (amount (leg_with class row)) 0 ≡ cond (eqb row.group g) (amount (leg_with class row)) 0
      go row (yes p) = simp (eq-eqb row.group g p, eq-eqb (group_count * (class - 1) + row.group) (group_count * (class - 1) + g) (omega arith))
      go row (no p) = simp (ne_eqb row.group g p, ne_eqb (group_count * (class - 1) + row.group) (group_count * (class - 1) + g) (λ e. p (omega arith)))

  pub holds : (positions : List Position) (specifics rows : List ℕ) → LegSums legs positions specifics rows → Holds legs class g positions specifics rows
  holds positions specifics rows sums =
      record {
        long = λ k h. ap (λ (a : Position). a.long) (bands_by positions sums.is_longs sums.is_shorts (slot_at class g k)) ∙ band_sum_lem (λ row. row.long) k h;
        short = λ k h. ap (λ (a : Position). a.short) (bands_by positions sums.is_longs sums.is_shorts (slot_at class g k)) ∙ band_sum_lem (λ row. row.short) k h;
        specific = rw sums.is_specifics (group_sum leg_specific);
        counted = rw sums.is_rows (group_sum leg_counted);
      }

-- a group of which no row is counted has no amounts, in a class whose rows are counted
pub none_counted : (class g : ℕ) (rows : List Row) → ((row : Row) → leg_counted (leg_with class row) ≡ 1)
    → sum_at (λ row. row.group) (λ row. leg_counted (leg_with class row)) g rows ≡ 0 → (amount : Row → ℕ) → sum_at (λ row. row.group) amount g rows ≡ 0
none_counted class g rows each e amount =
    none_where (λ row. cond (eqb row.group g) (leg_counted (leg_with class row)) 0) (λ row. cond (eqb row.group g) (amount row) 0)
    (λ row. go (eqb row.group g) _ (amount row) (each row)) rows e
  where
    go : (test : Bool) (one n : ℕ) → one ≡ 1 → cond test one 0 ≡ 0 → cond test n 0 ≡ 0
    go true one n is e = let never : ⊥ = omega arith in absurd never
    go false one n is e = refl
