-- The legs of a book: those of each class, how many there are, and which leg each number of the file is.
-- Assumes nothing.
use mathlib.Core.Path.{◌≡◌, refl, sym, ap, ◌∙◌}
use mathlib.Core.Bool.{Bool, true, false, cond}
use mathlib.Core.List.{List, [], ◌∷◌, ◌++◌, map, flat_map, append-nil}
use Prim.Native.Nat.{ℕ, zero, suc, ◌+◌, ◌-◌, ◌*◌, ◌≤◌, ◌<◌}
use native.Mathlib.Omega.{arith}
use lib.Dec.{eqb}
use lib.ListN.{length, take, drop, get_or, length-append, length-map, get_or-map, get_or-append}
use lib.Seq.{drop-drop, drop-append_seam, get_or-drop}
use borrow.Author.Tests.{eq-eqb}
use Rattle.book.specs.Counts.{contents_size, row_size, classes, counts_of, count_in, rows_before, count_of_rows}
use Rattle.book.specs.Rows.{rows_of, decode}
use Rattle.book.specs.Legs.{Leg, leg_of, legs_of, of_class}
use Rattle.book.proofs.Placing.{of_four, from_class, from_first, from_next, before-none, before-next}
use Rattle.book.proofs.Bodies.{class_count_lem, row_bytes_lem}

-- the legs of a class
unfoldable pub class_legs : List ℕ → ℕ → List Leg
class_legs s class = map (leg_of class) (rows_of s class)

pub legs_by_class : (s : List ℕ) → legs_of s ≡ flat_map (class_legs s) classes
unfolding legs_of class_legs
legs_by_class s = refl

-- ---- the rows of a class among the legs
pub of_class-append : (class : ℕ) (legs more : List Leg) → of_class class (legs ++ more) ≡ of_class class legs ++ of_class class more
unfolding of_class
of_class-append class [] more = refl
of_class-append class (leg ∷ legs) more = go (eqb leg.class class) (of_class-append class legs more)
  where
    go : (test : Bool) → of_class class (legs ++ more) ≡ of_class class legs ++ of_class class more
        → cond test (leg.row ∷ of_class class (legs ++ more)) (of_class class (legs ++ more)) ≡ cond test (leg.row ∷ of_class class legs) (of_class class legs) ++ of_class class more
    go true later = ap (λ rows. leg.row ∷ rows) later
    go false later = later

own_class : (class : ℕ) (rows : List (List ℕ)) → of_class class (map (leg_of class) rows) ≡ map decode rows
unfolding of_class
own_class class [] = refl
own_class class (bytes ∷ rows) = simp (eq-eqb class class refl) (ap (λ later. decode bytes ∷ later) (own_class class rows))

other_class : (class other : ℕ) → eqb other class ≡ false → (rows : List (List ℕ)) → of_class class (map (leg_of other) rows) ≡ []
unfolding of_class
other_class class other e [] = refl
other_class class other e (bytes ∷ rows) = simp e (other_class class other e rows)

module _ (s : List ℕ) where
  four : (class : ℕ) → of_class class (legs_of s)
      ≡ of_class class (map (leg_of 1) (rows_of s 1)) ++ (of_class class (map (leg_of 2) (rows_of s 2))
      ++ (of_class class (map (leg_of 3) (rows_of s 3)) ++ (of_class class (map (leg_of 4) (rows_of s 4)) ++ [])))
  unfolding legs_of flat_map of_class
  four class = simp of_class-append

  pub class_rows_lem : (class : ℕ) → 1 ≤ class → class ≤ 4 → of_class class (legs_of s) ≡ map decode (rows_of s class)
  class_rows_lem =
      of_four (λ class. of_class class (legs_of s) ≡ map decode (rows_of s class))
      (four 1 ∙ simp (own_class 1, other_class 1 2 refl, other_class 1 3 refl, other_class 1 4 refl, append-nil))
      (four 2 ∙ simp (own_class 2, other_class 2 1 refl, other_class 2 3 refl, other_class 2 4 refl, append-nil))
      (four 3 ∙ simp (own_class 3, other_class 3 1 refl, other_class 3 2 refl, other_class 3 4 refl, append-nil))
      (four 4 ∙ simp (own_class 4, other_class 4 1 refl, other_class 4 2 refl, other_class 4 3 refl, append-nil))

-- ---- the legs by number
-- the bytes of the row of a number of the file
abbrev pub bytes_at : List ℕ → ℕ → List ℕ
bytes_at s n = take row_size (drop (contents_size + row_size * n) s)

module _ (s : List ℕ) (sized : length s ≡ contents_size + row_size * count_of_rows (counts_of s)) where
  class_length : (class : ℕ) → length (class_legs s class) ≡ count_in (counts_of s) class
  unfolding class_legs
  class_length class = length-map (rows_of s class) _ ∙ class_count_lem s sized class

  pub legs_length : length (legs_of s) ≡ count_of_rows (counts_of s)
  unfolding legs_of class_legs flat_map count_of_rows count_in
  legs_length =
      rw (length-append, length-append, length-append, length-append)
      (omega (arith, class_length 1, class_length 2, class_length 3, class_length 4))

  -- the legs from a class's first row on are those of the class and of the classes after it
  legs_from : (class : ℕ) → 1 ≤ class → class ≤ 5 → drop (rows_before (counts_of s) class) (legs_of s) ≡ from_class (class_legs s) class
  unfolding rows_before
  legs_from zero low high = let never : ⊥ = omega arith in absurd never
  legs_from (suc zero) low high = rw (before-none (counts_of s) 1 (omega arith)) (legs_by_class s ∙ sym (from_first (class_legs s)))
  legs_from (suc (suc n)) low high =
      sym (drop-drop (count_in (counts_of s) (suc n)) (rows_before (counts_of s) (suc n)) (legs_of s))
      ∙ rw (legs_from (suc n) (omega arith) (omega arith), from_next (class_legs s) (suc n) (omega arith) (omega arith), ← class_length (suc n))
      (drop-append_seam (class_legs s (suc n)) (from_class (class_legs s) (suc (suc n))))

  -- the leg of a number that is in a class is the row of that number, with the class
  pub leg-at : (class n : ℕ) → 1 ≤ class → class ≤ 4 → rows_before (counts_of s) class ≤ n → n < rows_before (counts_of s) (class + 1)
      → get_or (legs_of s) n (leg_of class []) ≡ leg_of class (bytes_at s n)
  unfolding class_legs
  leg-at class n low high from to =
      let before = rows_before (counts_of s) class in
      let none = leg_of class [] in
      let i = n - before in
      let is : before + i ≡ n = omega arith in
      let inside : i < count_in (counts_of s) class = omega (arith, before-next (counts_of s) class) in
      let within : i < length (class_legs s class) = omega (arith, class_length class) in
      let numbered : get_or (legs_of s) (before + i) none ≡ leg_of class (bytes_at s (before + i)) =
      sym (get_or-drop before (legs_of s) i none)
      ∙ rw (legs_from class low (omega arith), from_next (class_legs s) class low high)
      (get_or-append (class_legs s class) (from_class (class_legs s) (suc class)) none i within
      ∙ get_or-map (leg_of class) (rows_of s class) i []
      ∙ ap (leg_of class) (row_bytes_lem s sized class i inside)) in
      rw is at numbered
