-- Which refusal a join has; and a join is accepted exactly where both books are and neither 11 nor 12 applies.
-- Assumes nothing.
use mathlib.Core.Path.{◌≡◌, refl}
use mathlib.Core.Bool.{Bool, true, false}
use mathlib.Core.List.{List}
use Prim.Native.Nat.{ℕ, ◌≤◌, ◌<◌}
use native.Mathlib.Omega.{arith}
use lib.ListN.{length}
use lib.Dec.{ltb, eqb}
use borrow.Author.Tests.{eqb-true, eqb-false, ne_eqb, ltb-false, lt-ltb, le-ltb}
use Rattle.book.specs.Counts.{count_of_rows}
use Rattle.book.specs.Refusals.{most_rows, refused, refusal_of}
use Rattle.book.specs.Accepted.{Accepted}
use Rattle.book.proofs.Acceptance.{accepted, refused-with_none}
use Rattle.join.specs.Joined.{joined_counts, joined, in_book, settled, join_refusal}

-- ---- each refusal
module _ (a b : List ℕ) (room : ℕ) where
  pub first_refused : ((refusal_of a).number ≡ 0 → ⊥) → join_refusal a b room ≡ in_book 0 (refusal_of a)
  unfolding join_refusal settled
  first_refused some = simp (ne_eqb _ _ some)

  module _ (first : Accepted a) where
    pub second_refused : ((refusal_of b).number ≡ 0 → ⊥) → join_refusal a b room ≡ in_book 1 (refusal_of b)
    unfolding join_refusal settled refused
    second_refused some = simp (refused-with_none a first, ne_eqb _ _ some)

    module _ (second : Accepted b) where
      pub too_many : most_rows < count_of_rows (joined_counts a b) → join_refusal a b room ≡ refused 11 0
      unfolding join_refusal settled refused
      too_many many = simp (refused-with_none a first, refused-with_none b second, lt-ltb _ _ many)

      pub too_long : count_of_rows (joined_counts a b) ≤ most_rows → room < length (joined a b) → join_refusal a b room ≡ refused 12 0
      unfolding join_refusal settled refused
      too_long few long =
          simp (refused-with_none a first, refused-with_none b second, le-ltb _ _ few, lt-ltb _ _ long)

-- ---- none
-- what join accepts: both books are accepted, and neither 11 nor 12 applies
pub record Joins (a b : List ℕ) (room : ℕ) : Type 0 where
  pub first : Accepted a
  pub second : Accepted b
  pub few : count_of_rows (joined_counts a b) ≤ most_rows
  pub fits : length (joined a b) ≤ room

pub joins : (a b : List ℕ) (room : ℕ) → (join_refusal a b room).number ≡ 0 → Joins a b room
unfolding join_refusal settled in_book refused
joins a b room e =
    go (eqb (refusal_of a).number 0) refl (eqb (refusal_of b).number 0) refl (ltb most_rows (count_of_rows (joined_counts a b))) refl (ltb room (length (joined a b))) refl
  where
    go : (p : Bool) → eqb (refusal_of a).number 0 ≡ p → (q : Bool) → eqb (refusal_of b).number 0 ≡ q
        → (many : Bool) → ltb most_rows (count_of_rows (joined_counts a b)) ≡ many → (short : Bool) → ltb room (length (joined a b)) ≡ short → Joins a b room
    go true p true q false m false s =
        record { first = accepted a (eqb-true _ _ p); second = accepted b (eqb-true _ _ q); few = ltb-false _ _ m; fits = ltb-false _ _ s }
    go true p true q false m true s = let never : ⊥ = omega (arith, simp (p, q, m, s) at e) in absurd never
    go true p true q true m short s = let never : ⊥ = omega (arith, simp (p, q, m) at e) in absurd never
    go true p false q many m short s = let never : ⊥ = eqb-false _ _ q (simp (p, q) at e) in absurd never
    go false p right q many m short s = let never : ⊥ = eqb-false _ _ p (simp p at e) in absurd never

pub not_refused : (a b : List ℕ) (room : ℕ) → Joins a b room → join_refusal a b room ≡ refused 0 0
unfolding join_refusal settled refused
not_refused a b room j =
    simp (refused-with_none a j.first, refused-with_none b j.second, le-ltb _ _ j.few, le-ltb _ _ j.fits)
