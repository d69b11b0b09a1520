-- A book is refused with 0 exactly when it is one of the accepted books; and so it is read.
-- Assumes nothing.
use mathlib.Core.Path.{◌≡◌, refl, sym, ap, ◌∙◌}
use mathlib.Core.Bool.{Bool, true, false, cond}
use mathlib.Core.List.{List, [], ◌∷◌, map}
use Prim.Native.Nat.{ℕ, suc, ◌≤◌}
use native.Mathlib.Omega.{arith}
use lib.Dec.{eqb}
use borrow.Author.Tests.{ltb-false, le-ltb, eqb-true, eqb-false, eq-eqb, not-false}
use Rattle.sums.specs.Every.{Every, none, also}
use Rattle.sums.proofs.Cases.{untaken}
use Rattle.sums.proofs.Every.{every_flat, flat-every, every_mapped, mapped_every}
use Rattle.book.specs.Counts.{classes}
use Rattle.book.specs.Rows.{rows_of, decode}
use Rattle.book.specs.Legs.{Leg, leg_of, legs_of}
use Rattle.book.specs.Refusals.{Refusal, row_refusal, contents_refusal, refused, first_refusal, refusal_of}
use Rattle.book.specs.Accepted.{Clean, Accepted}
use Rattle.book.specs.Parts.{accepts}
use Rattle.book.specs.Inner.Reading.{Sized}
use Rattle.book.proofs.Placing.{of_four}
use Rattle.book.proofs.Passing.{passes_clean, clean_passes}

abbrev CleanLeg : Leg → Type 0
CleanLeg leg = Clean leg.class leg.row

-- ---- the rows
none_refused : (row : ℕ) (legs : List Leg) → (first_refusal row legs).number ≡ 0 → Every CleanLeg legs
unfolding first_refusal refused
none_refused row [] e = none
none_refused row (leg ∷ legs) e = go (none_refused (suc row) legs) (eqb number 0) refl e
  where
    number : ℕ
    number = row_refusal leg.class leg.row

    go : ((first_refusal (suc row) legs).number ≡ 0 → Every CleanLeg legs) → (passes : Bool) → eqb number 0 ≡ passes
        → (cond passes (first_refusal (suc row) legs) (refused number row)).number ≡ 0 → Every CleanLeg (leg ∷ legs)
    go later true t e = also (passes_clean leg.class leg.row (eqb-true _ _ t)) (later e)
    go later false t e = absurd (eqb-false _ _ t e)

refused_none : (row : ℕ) {legs : List Leg} → Every CleanLeg legs → first_refusal row legs ≡ refused 0 0
unfolding first_refusal
refused_none row none = refl
refused_none row (also {a} p e) = simp (eq-eqb _ _ (clean_passes a.class a.row p)) (refused_none (suc row) e)

-- ---- the contents
pub contents_sized : (s : List ℕ) → contents_refusal s ≡ 0 → Sized s
unfolding contents_refusal
contents_sized s e =
    let past1 = untaken _ 0 _ e in
    let past2 = untaken _ 1 _ past1.1 in
    let past3 = untaken _ 2 0 past2.1 in
    record {
      contents = ltb-false _ _ past1.0;
      few = ltb-false _ _ past2.0;
      sized = eqb-true _ _ (not-false _ past3.0);
    }

pub sized_contents : (s : List ℕ) → Sized s → contents_refusal s ≡ 0
unfolding contents_refusal
sized_contents s a = simp (le-ltb _ _ a.contents, le-ltb _ _ a.few, eq-eqb _ _ a.sized)

-- ---- the book
-- a book refused with 0 has passed its contents
contents_first : (s : List ℕ) → (refusal_of s).number ≡ 0 → (contents_refusal s ≡ 0) × ((first_refusal 0 (legs_of s)).number ≡ 0)
unfolding refusal_of refused
contents_first s = go (eqb (contents_refusal s) 0) refl
  where
    go : (passes : Bool) → eqb (contents_refusal s) 0 ≡ passes → (cond passes (first_refusal 0 (legs_of s)) (refused (contents_refusal s) 0)).number ≡ 0
        → (contents_refusal s ≡ 0) × ((first_refusal 0 (legs_of s)).number ≡ 0)
    go true t e = (eqb-true _ _ t, e)
    go false t e = absurd (eqb-false _ _ t e)

pub accepted : (s : List ℕ) → (refusal_of s).number ≡ 0 → Accepted s
accepted s e =
    let passed = contents_first s e in
    let sized = contents_sized s passed.0 in
    record { contents = sized.contents; few = sized.few; sized = sized.sized; clean = none_refused 0 (legs_of s) passed.1 }

pub refused-with_none : (s : List ℕ) → Accepted s → refusal_of s ≡ refused 0 0
unfolding refusal_of
refused-with_none s a =
    let sized = sized_contents s (record { contents = a.contents; few = a.few; sized = a.sized }) in
    simp (eq-eqb _ _ sized) (refused_none 0 a.clean)

-- a book that the reader accepts is one of the accepted books
pub accepts_accepted : (s : List ℕ) → accepts s ≡ true → Accepted s
unfolding accepts
accepts_accepted s e = accepted s (eqb-true _ _ e)

-- ---- class by class
CleanRows : List ℕ → ℕ → Type 0
CleanRows s class = Every (λ bytes. Clean class (decode bytes)) (rows_of s class)

pub class_clean : (s : List ℕ) → Accepted s → (class : ℕ) → 1 ≤ class → class ≤ 4 → Every (λ bytes. Clean class (decode bytes)) (rows_of s class)
unfolding legs_of CleanRows
class_clean s a = pick (every_flat (λ class. map (leg_of class) (rows_of s class)) classes a.clean)
  where
    own : (class : ℕ) → Every CleanLeg (map (leg_of class) (rows_of s class)) → CleanRows s class
    own class = every_mapped (leg_of class) (λ bytes clean. clean) (rows_of s class)

    pick : Every (λ class. Every CleanLeg (map (leg_of class) (rows_of s class))) classes → (class : ℕ) → 1 ≤ class → class ≤ 4 → CleanRows s class
    pick (also one (also two (also three (also four none)))) = of_four (CleanRows s) (own 1 one) (own 2 two) (own 3 three) (own 4 four)

-- what holds of the rows of each class holds of all legs
pub legs_every : {P : Leg → Type 0} (s : List ℕ) → ((class : ℕ) → 1 ≤ class → class ≤ 4 → Every (λ bytes. P (leg_of class bytes)) (rows_of s class)) → Every P (legs_of s)
unfolding legs_of
legs_every {P} s each =
    flat-every (λ class. map (leg_of class) (rows_of s class))
    (also (own 1 (omega arith) (omega arith))
    (also (own 2 (omega arith) (omega arith)) (also (own 3 (omega arith) (omega arith)) (also (own 4 (omega arith) (omega arith)) none))))
  where
    own : (class : ℕ) → 1 ≤ class → class ≤ 4 → Every P (map (leg_of class) (rows_of s class))
    own class low high = mapped_every (leg_of class) (λ bytes holds. holds) (each class low high)

pub clean_legs : (s : List ℕ) → ((class : ℕ) → 1 ≤ class → class ≤ 4 → Every (λ bytes. Clean class (decode bytes)) (rows_of s class)) → Every CleanLeg (legs_of s)
clean_legs s clean = legs_every s clean
