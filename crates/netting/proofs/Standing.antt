-- Where an issue number stands in a list of them.
-- Assumes nothing.
use mathlib.Core.Path.{◌≡◌, refl, sym, ap}
use mathlib.Core.Bool.{Bool, true, false, true≢false, cond, ◌||◌, or-true, or-false}
use mathlib.Core.List.{List, [], ◌∷◌, ◌++◌, map}
use Prim.Native.Nat.{ℕ, suc, ◌+◌, ◌<◌}
use native.Mathlib.Omega.{arith}
use lib.Dec.{eqb}
use lib.ListN.{length, get_or}
use borrow.Author.Tests.{eqb-true, eq-eqb}
use Rattle.issues.specs.Issues.{has}
use Rattle.issues.specs.Comparing.{compared_with}
use Rattle.issues.proofs.Comparing.{compared_all}
use Rattle.netting.specs.Inner.Places.{first_place, place_of}

module _ (issue : ℕ) where
  pub has_within : (list : List ℕ) → has list issue ≡ true → place_of issue list < length list
  unfolding has first_place
  has_within [] e = absurd (true≢false (sym e))
  has_within (other ∷ list) e = go (eqb other issue) e (has_within list)
    where
      go : (own : Bool) → own || has list issue ≡ true → (has list issue ≡ true → place_of issue list < length list)
          → cond own 0 (suc (place_of issue list)) < suc (length list)
      go true e later = omega arith
      go false e later = omega (arith, later e)

  pub lacks_past : (list : List ℕ) → has list issue ≡ false → place_of issue list ≡ length list
  unfolding has first_place
  lacks_past [] e = refl
  lacks_past (other ∷ list) e = go (eqb other issue) e (lacks_past list)
    where
      go : (own : Bool) → own || has list issue ≡ false → (has list issue ≡ false → place_of issue list ≡ length list)
          → cond own 0 (suc (place_of issue list)) ≡ suc (length list)
      go true e later = absurd (true≢false e)
      go false e later = ap suc (later e)

  -- a list that goes on
  pub place_append : (list more : List ℕ) → has list issue ≡ true → place_of issue (list ++ more) ≡ place_of issue list
  unfolding has first_place
  place_append [] more e = absurd (true≢false (sym e))
  place_append (other ∷ list) more e = go (eqb other issue) e (place_append list more)
    where
      go : (own : Bool) → own || has list issue ≡ true → (has list issue ≡ true → place_of issue (list ++ more) ≡ place_of issue list)
          → cond own 0 (suc (place_of issue (list ++ more))) ≡ cond own 0 (suc (place_of issue list))
      go true e later = refl
      go false e later = ap suc (later e)

  pub place_last : (list : List ℕ) → has list issue ≡ false → place_of issue (list ++ (issue ∷ [])) ≡ length list
  unfolding has first_place
  place_last [] e = rw (eq-eqb issue issue refl)
  place_last (other ∷ list) e = go (eqb other issue) e (place_last list)
    where
      go : (own : Bool) → own || has list issue ≡ false → (has list issue ≡ false → place_of issue (list ++ (issue ∷ [])) ≡ length list)
          → cond own 0 (suc (place_of issue (list ++ (issue ∷ [])))) ≡ suc (length list)
      go true e later = absurd (true≢false e)
      go false e later = ap suc (later e)

  -- what a function gives for it, in the list of what it gives
  pub place_mapped : {A : Type 0} (f : ℕ → A) (d : A) (list : List ℕ) → has list issue ≡ true → get_or (map f list) (place_of issue list) d ≡ f issue
  unfolding has first_place
  place_mapped f d [] e = absurd (true≢false (sym e))
  place_mapped f d (other ∷ list) e = go (eqb other issue) refl e (place_mapped f d list)
    where
      go : (own : Bool) → eqb other issue ≡ own → own || has list issue ≡ true → (has list issue ≡ true → get_or (map f list) (place_of issue list) d ≡ f issue)
          → get_or (f other ∷ map f list) (cond own 0 (suc (place_of issue list))) d ≡ f issue
      go true same e later = ap f (eqb-true other issue same)
      go false same e later = later e

pub or_assoc : (a b c : Bool) → (a || b) || c ≡ a || (b || c)
or_assoc true b c = refl
or_assoc false b c = refl

pub has-append : (list more : List ℕ) (issue : ℕ) → has (list ++ more) issue ≡ has list issue || has more issue
unfolding has
has-append [] more issue = refl
has-append (other ∷ list) more issue = rw (has-append list more issue) (sym (or_assoc (eqb other issue) (has list issue) (has more issue)))

pub has-single : (other issue : ℕ) → has (other ∷ []) issue ≡ eqb other issue
unfolding has
has-single other issue = or-false (eqb other issue)

pub has-later : (list : List ℕ) (other issue : ℕ) → has list issue ≡ true → has (other ∷ list) issue ≡ true
unfolding has
has-later list other issue e = rw e (or-true (eqb other issue))

-- ---- the comparisons to the first equal
module _ (issue : ℕ) where
  pub compared_found : (list : List ℕ) → place_of issue list < length list → compared_with list issue ≡ place_of issue list + 1
  unfolding compared_with first_place
  compared_found [] h = let never : ⊥ = omega arith in absurd never
  compared_found (other ∷ list) h = go (eqb other issue) h (compared_found list)
    where
      go : (own : Bool) → cond own 0 (suc (place_of issue list)) < suc (length list) → (place_of issue list < length list → compared_with list issue ≡ place_of issue list + 1)
          → suc (cond own 0 (compared_with list issue)) ≡ cond own 0 (suc (place_of issue list)) + 1
      go true h later = omega arith
      go false h later = omega (arith, later (omega arith))

  pub compared_past : (list : List ℕ) → place_of issue list ≡ length list → compared_with list issue ≡ length list
  compared_past list e = go (has list issue) refl
    where
      go : (old : Bool) → has list issue ≡ old → compared_with list issue ≡ length list
      go true h = let never : ⊥ = omega (arith, has_within issue list h) in absurd never
      go false h = compared_all list issue h
