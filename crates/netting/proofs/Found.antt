-- The first leg that a test finds in a class or after it.
-- Assumes nothing.
use mathlib.Core.Path.{◌≡◌, sym, ap, ◌∙◌}
use mathlib.Core.Bool.{Bool, true, false, cond}
use mathlib.Core.List.{List, [], ◌∷◌, ◌++◌, map, map-map}
use Prim.Native.Nat.{ℕ, suc, ◌+◌, ◌≤◌, ◌<◌}
use native.Mathlib.Nat.{add-zero, add-suc, suc-add}
use native.Mathlib.Numerals.{add-one}
use native.Mathlib.Omega.{arith}
use lib.ListN.{length}
use Rattle.book.specs.declared.Row.{Row}
use Rattle.book.specs.Rows.{rows_of, decode}
use Rattle.book.specs.Legs.{Leg, legs_of, of_class}
use Rattle.book.specs.Refusals.{refused}
use Rattle.book.proofs.Placing.{from_class, from_next}
use Rattle.book.proofs.Walking.{class_legs, class_rows_lem}
use Rattle.netting.specs.Netted.{first_found}
use Rattle.netting.specs.Inner.Places.{first_place}
use Rattle.netting.proofs.Limits.{leg_with}

-- ---- the first leg that a test finds, in a class and then in the others
module _ (number class : ℕ) (test : Leg → Bool) (more : List Leg) where
  abbrev place : List Row → ℕ
  place rows = first_place (λ row. test (leg_with class row)) rows

  pub found_past : (at : ℕ) (rows : List Row) → place rows ≡ length rows
      → first_found number test at (map (leg_with class) rows ++ more) ≡ first_found number test (at + length rows) more
  unfolding first_found first_place
  found_past at [] e = rw (add-zero at)
  found_past at (row ∷ rows) e = go (test (leg_with class row)) e (found_past (suc at) rows)
    where
      go : (found : Bool) → cond found 0 (suc (place rows)) ≡ suc (length rows)
          → (place rows ≡ length rows → first_found number test (suc at) (map (leg_with class) rows ++ more) ≡ first_found number test (suc at + length rows) more)
          → cond found (refused number at) (first_found number test (suc at) (map (leg_with class) rows ++ more)) ≡ first_found number test (at + suc (length rows)) more
      go true e later = let never : ⊥ = omega arith in absurd never
      go false e later = rw (add-suc at (length rows), ← suc-add at (length rows)) (later (omega arith))

  pub found_in : (at : ℕ) (rows : List Row) → place rows < length rows → first_found number test at (map (leg_with class) rows ++ more) ≡ refused number (at + place rows)
  unfolding first_found first_place
  found_in at [] h = let never : ⊥ = omega arith in absurd never
  found_in at (row ∷ rows) h = go (test (leg_with class row)) h (found_in (suc at) rows)
    where
      go : (found : Bool) → cond found 0 (suc (place rows)) < suc (length rows)
          → (place rows < length rows → first_found number test (suc at) (map (leg_with class) rows ++ more) ≡ refused number (suc at + place rows))
          → cond found (refused number at) (first_found number test (suc at) (map (leg_with class) rows ++ more)) ≡ refused number (at + cond found 0 (suc (place rows)))
      go true h later = rw (add-zero at)
      go false h later = rw (add-suc at (place rows), ← suc-add at (place rows)) (later (omega arith))

-- ---- the legs of a book from a class on
module _ (s : List ℕ) (class : ℕ) (low : 1 ≤ class) (high : class ≤ 4) where
  pub legs_next : from_class (class_legs s) class ≡ map (leg_with class) (of_class class (legs_of s)) ++ from_class (class_legs s) (class + 1)
  unfolding class_legs
  legs_next =
      let own = ap (map (leg_with class)) (class_rows_lem s class low high) ∙ map-map (leg_with class) decode (rows_of s class) in
      rw (add-one class) (from_next (class_legs s) class low high ∙ ap (λ (legs : List Leg). legs ++ from_class (class_legs s) (suc class)) (sym own))
