-- The four classes one after the other, and where the counts put the rows of each.
-- Assumes nothing.
use mathlib.Core.Path.{◌≡◌, refl, ap, ◌∙◌}
use mathlib.Core.List.{List, [], ◌++◌, flat_map}
use Prim.Native.Nat.{ℕ, zero, suc, ◌+◌, ◌-◌, ◌≤◌, ◌<◌}
use native.Mathlib.Nat.{add-zero, add-suc}
use native.Mathlib.Numerals.{add-one}
use native.Mathlib.Omega.{arith}
use lib.ListN.{drop}
use borrow.Author.Tests.{ne_eqb}
use Rattle.book.specs.Counts.{Counts, classes, count_in, rows_before, count_of_rows}

-- ---- the four classes
-- what holds of each of them
pub of_four : (P : ℕ → Type 0) → P 1 → P 2 → P 3 → P 4 → (class : ℕ) → 1 ≤ class → class ≤ 4 → P class
of_four P a b c d zero low high = let never : ⊥ = omega arith in absurd never
of_four P a b c d (suc zero) low high = a
of_four P a b c d (suc (suc zero)) low high = b
of_four P a b c d (suc (suc (suc zero))) low high = c
of_four P a b c d (suc (suc (suc (suc zero)))) low high = d
of_four P a b c d (suc (suc (suc (suc (suc n))))) low high = let never : ⊥ = omega arith in absurd never

-- a piece for each class, from a class on
unfoldable pub from_class : {A : Type 0} → (ℕ → List A) → ℕ → List A
from_class piece class = flat_map piece (drop (class - 1) classes)

module _ {A : Type 0} (piece : ℕ → List A) where
  pub from_first : from_class piece 1 ≡ flat_map piece classes
  unfolding from_class
  from_first = refl

  pub from_next : (class : ℕ) → 1 ≤ class → class ≤ 4 → from_class piece class ≡ piece class ++ from_class piece (suc class)
  unfolding from_class flat_map
  from_next = of_four (λ class. from_class piece class ≡ piece class ++ from_class piece (suc class)) refl refl refl refl

  pub from_last : from_class piece 5 ≡ []
  unfolding from_class flat_map
  from_last = refl

-- ---- the counts
module _ (counts : Counts) where
  -- no other number has rows
  pub none_past : (class : ℕ) → 5 ≤ class → count_in counts class ≡ 0
  unfolding count_in
  none_past class h = simp (ne_eqb class 1 (λ e. omega arith), ne_eqb class 2 (λ e. omega arith), ne_eqb class 3 (λ e. omega arith), ne_eqb class 4 (λ e. omega arith))

  pub before-next : (class : ℕ) → rows_before counts (class + 1) ≡ rows_before counts class + count_in counts class
  unfolding rows_before
  before-next class = rw add-one

  -- the rows before a class that is past the fourth are all rows
  before-past : (n : ℕ) → rows_before counts (suc (suc (suc (suc (suc n))))) ≡ count_of_rows counts
  unfolding rows_before count_in count_of_rows
  before-past zero = omega arith
  before-past (suc n) = omega (arith, before-past n, none_past (suc (suc (suc (suc (suc n))))) (omega arith))

  pub before-all : (class : ℕ) → 5 ≤ class → rows_before counts class ≡ count_of_rows counts
  before-all class h =
      let past : class ≡ suc (suc (suc (suc (suc (class - 5))))) = omega arith in
      ap (rows_before counts) past ∙ before-past (class - 5)

  -- the rows up to a class's end are rows of the book
  pub before-within : (class : ℕ) → rows_before counts class + count_in counts class ≤ count_of_rows counts
  unfolding rows_before count_in count_of_rows
  before-within zero = omega arith
  before-within (suc zero) = omega arith
  before-within (suc (suc zero)) = omega arith
  before-within (suc (suc (suc zero))) = omega arith
  before-within (suc (suc (suc (suc zero)))) = omega arith
  before-within (suc (suc (suc (suc (suc n))))) = omega (arith, before-past n, none_past (suc (suc (suc (suc (suc n))))) (omega arith))

  -- no rows before the first class
  pub before-none : (class : ℕ) → class ≤ 1 → rows_before counts class ≡ 0
  unfolding rows_before count_in
  before-none zero h = refl
  before-none (suc zero) h = refl
  before-none (suc (suc class)) h = omega arith

  -- the rows of a class end where those of a later one begin, or before
  before-grows : (class n : ℕ) → rows_before counts class ≤ rows_before counts (class + n)
  unfolding rows_before
  before-grows class zero = rw (add-zero class) (omega arith)
  before-grows class (suc n) = rw (add-suc class n) (omega (arith, before-grows class n))

  pub rows_apart : (class later : ℕ) → class < later → rows_before counts class + count_in counts class ≤ rows_before counts later
  rows_apart class later h =
      let is : class + 1 + (later - (class + 1)) ≡ later = omega arith in
      omega (arith, before-next class, before-grows (class + 1) (later - (class + 1)), ap (rows_before counts) is)
