-- The charge of one currency's rows alone: its part of the specific charge, and the charge of its ladder; and all currencies together.
-- Assumes nothing.
use mathlib.Core.Path.{◌≡◌, refl, sym, ap, ◌∙◌, fun_ext}
use mathlib.Core.Bool.{Bool, true, false, cond}
use mathlib.Core.Logic.{ite}
use mathlib.Core.List.{List, [], ◌∷◌}
use Prim.Native.Nat.{ℕ, ◌+◌, ◌<◌}
use native.Mathlib.Decide.{ℕ_discrete}
use native.Mathlib.Nat.{mul-zero}
use native.Mathlib.Omega.{arith}
use lib.Dec.{eqb}
use lib.ListN.{length, get_or}
use borrow.Author.Tests.{eqb-true, ne_eqb}
use Rattle.sums.specs.Sums.{sum_of, sum_at, span}
use Rattle.sums.specs.Every.{Every}
use Rattle.sums.proofs.Cases.{cond_same}
use Rattle.sums.proofs.Sums.{sum_of_map, sum_of_zero}
use Rattle.sums.proofs.Spans.{slot, slot_own, slot_other, slot_within, slots_all, sum_same}
use Rattle.sums.proofs.Filling.{listed_length, listed_at}
use Rattle.book.specs.declared.Row.{Row}
use Rattle.ladder.specs.Position.{Bands, empty, matched, net, total, vertical}
use Rattle.ladder.specs.declared.Percents.{Percents}
use Rattle.ladder.specs.declared.Table.{Table}
use Rattle.ladder.specs.Interest.{against, left, zones12, zones23, zones13, crossing, matches, interest_figures}
use Rattle.ladder.specs.Rows.{weighing, positions_by, in_group, ladder_of}
use Rattle.ladder.proofs.Matching.{same_position}
use Rattle.charges.specs.Bands.{band_in}
use Rattle.charges.specs.Charges.{groups, reading, specific_of, specific_charge, interest_figures_of, interest_general, of_group, by_currency}
use Rattle.charges.specs.Inner.Slots.{group_count}

-- ---- sums over the rows of one group
pub alone_sum : (g : ℕ) (amount : Row → ℕ) (rows : List Row) → sum_of amount (of_group g rows) ≡ sum_at (λ row. row.group) amount g rows
unfolding of_group sum_of
alone_sum g amount [] = refl
alone_sum g amount (row ∷ rows) = go (ℕ_discrete row.group g) (alone_sum g amount rows)
  where
    go : (own : Dec (row.group ≡ g)) → sum_of amount (of_group g rows) ≡ sum_at (λ r. r.group) amount g rows
        → sum_of amount (ite {C = List Row} own (row ∷ of_group g rows) (of_group g rows)) ≡ cond (eqb row.group g) (amount row) 0 + sum_at (λ r. r.group) amount g rows
    go (yes own) later = omega (arith, slot_own row.group (amount row) g own)
    go (no other) later = omega (arith, slot_other row.group (amount row) g other)

-- ---- the ladders of one group's rows
module _ (class g : ℕ) (rows : List Row) where
  -- its own ladder is the same
  own_side : (amount : Row → ℕ) (k : ℕ)
      → sum_at (band_in class) (in_group (reading class) g amount) k (of_group g rows) ≡ sum_at (band_in class) (in_group (reading class) g amount) k rows
  own_side amount k =
      alone_sum g _ rows ∙ ap (λ (f : Row → ℕ). sum_of f rows) (fun_ext (λ row. go (eqb row.group g) (eqb (band_in class row) k) (amount row)))
    where
      go : (own band : Bool) (n : ℕ) → cond own (cond band (cond own n 0) 0) 0 ≡ cond band (cond own n 0) 0
      go true band n = refl
      go false band n = sym (cond_same band 0)

  pub own_ladder : (long short : Row → ℕ)
      → positions_by (band_in class) (in_group (reading class) g long) (in_group (reading class) g short) (of_group g rows)
      ≡ positions_by (band_in class) (in_group (reading class) g long) (in_group (reading class) g short) rows
  own_ladder long short = fun_ext (λ k. same_position (own_side long k) (own_side short k))

  -- and those of the other groups are empty
  other_side : (h : ℕ) → (g ≡ h → ⊥) → (amount : Row → ℕ) (k : ℕ) → sum_at (band_in class) (in_group (reading class) h amount) k (of_group g rows) ≡ 0
  other_side h other amount k =
      alone_sum g _ rows
      ∙ ap (λ (f : Row → ℕ). sum_of f rows) (fun_ext (λ row. go row (eqb row.group g) (λ own. ne_eqb _ _ (λ e. other (sym (eqb-true _ _ own) ∙ e)))))
      ∙ sum_of_zero rows
    where
      go : (row : Row) (own : Bool) → (own ≡ true → eqb row.group h ≡ false) → cond own (cond (eqb (band_in class row) k) (in_group (reading class) h amount row) 0) 0 ≡ 0
      go row true apart = rw (apart refl) (cond_same (eqb (band_in class row) k) 0)
      go row false apart = refl

  pub other_ladder : (h : ℕ) → (g ≡ h → ⊥) → (long short : Row → ℕ)
      → positions_by (band_in class) (in_group (reading class) h long) (in_group (reading class) h short) (of_group g rows) ≡ (λ k. empty)
  other_ladder h other long short = fun_ext (λ k. same_position (other_side h other long k) (other_side h other short k))

-- an empty ladder costs nothing
empty-ladder : (p : Percents) → (interest_figures p (λ k. empty)).charge ≡ 0
unfolding span matched net total vertical against left zones12 zones23 zones13 crossing matches
empty-ladder p = simp mul-zero

-- ---- the charges of one currency's rows
pub alone_specific : (g : ℕ) (rows : List Row) → specific_charge 1 (of_group g rows) ≡ sum_at (λ row. row.group) (specific_of 1) g rows
unfolding specific_charge
alone_specific g rows = alone_sum g (specific_of 1) rows

pub alone_general : (table : Table) (g : ℕ) (rows : List Row) → g < group_count → interest_general table (of_group g rows) ≡ (interest_figures_of table g rows).charge
unfolding interest_general interest_figures_of
alone_general table g rows h =
    sum_same _ (slot g (cost g rows)) group_count (λ k below. go k (ℕ_discrete g k)) ∙ slot_within g (cost g rows) 0 group_count (omega arith) (omega arith)
  where
    cost : ℕ → List Row → ℕ
    cost k list = (interest_figures table.percents (ladder_of (weighing table (reading 1)) k list)).charge

    go : (k : ℕ) → Dec (g ≡ k) → cost k (of_group g rows) ≡ slot g (cost g rows) k
    go k (yes own) =
        ap (λ (n : ℕ). cost n (of_group g rows)) (sym own)
        ∙ ap (λ (f : Bands). (interest_figures table.percents f).charge) (own_ladder 1 g rows (weighing table (reading 1)).long (weighing table (reading 1)).short)
        ∙ sym (slot_own g (cost g rows) k own)
    go k (no other) =
        ap (λ (f : Bands). (interest_figures table.percents f).charge)
        (other_ladder 1 g rows k other (weighing table (reading 1)).long (weighing table (reading 1)).short)
        ∙ empty-ladder table.percents
        ∙ sym (slot_other g (cost g rows) k other)

-- ---- all currencies: their charges come to that of the rows
pub specifics_sum : {rows : List Row} → Every (λ row. row.group < group_count) rows → sum_of (λ g. specific_charge 1 (of_group g rows)) groups ≡ specific_charge 1 rows
unfolding specific_charge
specifics_sum {rows} few = ap (λ (f : ℕ → ℕ). sum_of f groups) (fun_ext (λ g. alone_sum g (specific_of 1) rows)) ∙ slots_all (λ row. row.group) (specific_of 1) group_count few

pub generals_sum : (table : Table) (rows : List Row) → sum_of (λ g. interest_general table (of_group g rows)) groups ≡ interest_general table rows
unfolding interest_general
generals_sum table rows = sum_same _ _ group_count (λ g h. alone_general table g rows h)

-- ---- the list of a charge
pub currencies-many : (charge : List Row → ℕ) (rows : List Row) → length (by_currency charge rows) ≡ group_count
unfolding by_currency
currencies-many charge rows = listed_length (λ k. charge (of_group k rows)) 0 group_count

pub currency-entry : (charge : List Row → ℕ) (rows : List Row) (g : ℕ) → g < group_count → get_or (by_currency charge rows) g 0 ≡ charge (of_group g rows)
unfolding by_currency
currency-entry charge rows g h = listed_at (λ k. charge (of_group k rows)) group_count g h

pub currency-sum : (charge : List Row → ℕ) (rows : List Row) → sum_of (λ entry. entry) (by_currency charge rows) ≡ sum_of (λ g. charge (of_group g rows)) groups
unfolding by_currency
currency-sum charge rows = sum_of_map (λ entry. entry) (λ g. charge (of_group g rows)) groups
