-- The place of the first element that a test finds, as a loop over the elements finds it.
-- Assumes nothing.
use mathlib.Core.Path.{◌≡◌, ◌∙◌}
use mathlib.Core.Bool.{Bool, true, false, cond}
use mathlib.Core.List.{List, [], ◌∷◌}
use Prim.Native.Nat.{ℕ, suc, ◌+◌, ◌≤◌, ◌<◌}
use native.Mathlib.Nat.{add-zero}
use native.Mathlib.Numerals.{add-one}
use native.Mathlib.Omega.{arith}
use lib.ListN.{length, drop, get_or, drop_of_length-le}
use lib.Seq.{drop-cons}
use Rattle.netting.specs.Inner.Places.{first_place}

module _ {A : Type 0} (test : A → Bool) where
  pub place_within : (list : List A) → first_place test list ≤ length list
  unfolding first_place
  place_within [] = omega arith
  place_within (a ∷ list) = go (test a) (place_within list)
    where
      go : (found : Bool) → first_place test list ≤ length list → cond found 0 (suc (first_place test list)) ≤ suc (length list)
      go true later = omega arith
      go false later = omega arith

  -- none of the first n elements is found
  pub record Searched (list : List A) (n : ℕ) : Type 0 where
    pub reached : n ≤ length list
    pub found : first_place test list ≡ n + first_place test (drop n list)

  pub searched_none : (list : List A) → Searched list 0
  searched_none list = record { reached = omega arith; found = omega arith }

  module _ (list : List A) (n : ℕ) (d : A) (within : n < length list) (passed : Searched list n) where
    pub searched_next : test (get_or list n d) ≡ false → Searched list (n + 1)
    unfolding first_place
    searched_next e =
        record {
          reached = omega arith;
          found = passed.found ∙ rw (drop-cons list n d within, e, add-one n) (omega arith);
        }

    pub searched_here : test (get_or list n d) ≡ true → first_place test list ≡ n
    unfolding first_place
    searched_here e = passed.found ∙ rw (drop-cons list n d within, e) (add-zero n)

  pub searched_all : (list : List A) (n : ℕ) → length list ≤ n → Searched list n → first_place test list ≡ n
  unfolding first_place
  searched_all list n past passed = passed.found ∙ rw (drop_of_length-le list past) (add-zero n)
