-- Sums over a list: of two lists, of a permuted list, of changed elements; sums by index, and their bounds.
-- Assumes nothing.
use Prim.Native.Nat.{ℕ, zero, suc, ◌+◌, ◌*◌, ◌≤◌, ◌<◌}
use mathlib.Core.Path.{◌≡◌, refl, sym, ap}
use mathlib.Core.Bool.{Bool, true, false, cond}
use mathlib.Core.List.Perm
use mathlib.Core.List.{List, [], ◌∷◌, ◌++◌, map, Perm, Memᴰ}
use native.Mathlib.Nat.{ℕ_set, add_left_comm, mul-zero}
use native.Mathlib.Decide.{ℕ_discrete}
use native.Mathlib.Omega.{arith}
use lib.Dec.{T, eqb, eqb→eq}
use lib.ListN.{replicate}
use Rattle.sums.specs.Sums.{sum_of, sum_at}
use Rattle.sums.proofs.Cases.{counted≤}

-- ---- lists of anything
module _ {A : Type 0} where
  pub sum_of_append : (amount : A → ℕ) (list more : List A) → sum_of amount (list ++ more) ≡ sum_of amount list + sum_of amount more
  unfolding sum_of
  sum_of_append amount [] more = omega arith
  sum_of_append amount (a ∷ list) more = omega (arith, sum_of_append amount list more)

  pub sum_of_permuted : (amount : A → ℕ) {list list' : List A} → Perm list list' → sum_of amount list ≡ sum_of amount list'
  unfolding sum_of
  sum_of_permuted amount p = Perm.foldr-eq ℕ_set (λ a sum. amount a + sum) (λ a b sum. add_left_comm (amount a) (amount b) sum) p 0

  pub sum_of_map : {B : Type 0} (amount : B → ℕ) (change : A → B) (list : List A) → sum_of amount (map change list) ≡ sum_of (λ a. amount (change a)) list
  unfolding sum_of
  sum_of_map amount change [] = refl
  sum_of_map amount change (a ∷ list) = ap (λ (sum : ℕ). amount (change a) + sum) (sum_of_map amount change list)

  pub sum_of_plus : (f g : A → ℕ) (list : List A) → sum_of (λ a. f a + g a) list ≡ sum_of f list + sum_of g list
  unfolding sum_of
  sum_of_plus f g [] = refl
  sum_of_plus f g (a ∷ list) = omega (arith, sum_of_plus f g list)

  pub sum_of_times : (k : ℕ) (f : A → ℕ) (list : List A) → sum_of (λ a. k * f a) list ≡ k * sum_of f list
  unfolding sum_of
  sum_of_times k f [] = sym (mul-zero k)
  sum_of_times k f (a ∷ list) = omega (arith, sum_of_times k f list)

  -- what holds of each element of the list holds of the sums
  pub sum_of≤ : (f g : A → ℕ) (list : List A) → ((a : A) → Memᴰ a list → f a ≤ g a) → sum_of f list ≤ sum_of g list
  unfolding sum_of
  sum_of≤ f g [] h = omega arith
  sum_of≤ f g (a ∷ list) h = omega (arith, h a (Memᴰ.head refl), sum_of≤ f g list (λ b m. h b (Memᴰ.tail m)))

  -- each at most a rate of another
  pub sum_of_rate : (rate : ℕ) (f g : A → ℕ) (list : List A) → ((a : A) → f a ≤ rate * g a) → sum_of f list ≤ rate * sum_of g list
  sum_of_rate rate f g list each = omega (arith, sum_of≤ f (λ a. rate * g a) list (λ a m. each a), sum_of_times rate g list)

  pub sum_of_zero : (list : List A) → sum_of (λ a. 0) list ≡ 0
  unfolding sum_of
  sum_of_zero [] = refl
  sum_of_zero (a ∷ list) = omega (arith, sum_of_zero list)

  -- one element, so many times
  pub sum_of_replicate : (f : A → ℕ) (n : ℕ) (a : A) → sum_of f (replicate n a) ≡ n * f a
  unfolding sum_of
  sum_of_replicate f zero a = omega arith
  sum_of_replicate f (suc n) a = omega (arith, sum_of_replicate f n a)

-- a sum that is not zero has a part that is not
pub record Part {A : Type 0} (f : A → ℕ) (list : List A) : Type 0 where
  pub one : A
  pub is_one : Memᴰ one list
  pub counts : 0 < f one

pub a_part : {A : Type 0} (f : A → ℕ) (list : List A) → 0 < sum_of f list → Part f list
unfolding sum_of
a_part f [] h = let never : ⊥ = omega arith in absurd never
a_part f (a ∷ list) h = go (ℕ_discrete (f a) 0) (a_part f list)
  where
    go : Dec (f a ≡ 0) → (0 < sum_of f list → Part f list) → Part f (a ∷ list)
    go (yes none) later =
        let rest = later (omega arith) in
        record { one = rest.one; is_one = Memᴰ.tail rest.is_one; counts = rest.counts }
    go (no some) later = record { one = a; is_one = Memᴰ.head refl; counts = omega arith }

-- ---- sums by index
weight_at_lem : (weight : ℕ → ℕ) (j k n : ℕ) → cond (eqb j k) (weight j * n) 0 ≡ weight k * cond (eqb j k) n 0
weight_at_lem weight j k n = go (eqb j k) (eqb→eq j k)
  where
    go : (test : Bool) → (T test → j ≡ k) → cond test (weight j * n) 0 ≡ weight k * cond test n 0
    go true same = ap (λ (m : ℕ). weight m * n) (same tt)
    go false same = sym (mul-zero (weight k))

module _ {A : Type 0} (index amount : A → ℕ) where
  pub sum_at≤ : (k : ℕ) (list : List A) → sum_at index amount k list ≤ sum_of amount list
  sum_at≤ k list = sum_of≤ _ amount list (λ a m. counted≤ (eqb (index a) k) (amount a))

  -- the weighted amounts at an index are its weight times their sum
  pub sum_at_weighted : (weight : ℕ → ℕ) (k : ℕ) (list : List A) → sum_at index (λ a. weight (index a) * amount a) k list ≡ weight k * sum_at index amount k list
  sum_at_weighted weight k list = simp (weight_at_lem weight) (sum_of_times (weight k) _ list)
