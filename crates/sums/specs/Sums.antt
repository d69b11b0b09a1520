-- Sums over a list of anything, sums by index, and the numbers of a span.
use Rattle.std.specs.Prelude.{ℕ, zero, suc, ◌+◌, cond, eqb}
use mathlib.Core.List.{List, [], ◌∷◌, foldr}

module _ {A : Type 0} where
  -- the amounts of all elements, summed
  unfoldable pub sum_of : (A → ℕ) → List A → ℕ
  sum_of amount list = foldr (λ a sum. amount a + sum) 0 list

  -- the amounts of the elements whose index is k
  abbrev pub sum_at : (index amount : A → ℕ) → ℕ → List A → ℕ
  sum_at index amount k list = sum_of (λ a. cond (eqb (index a) k) (amount a) 0) list

-- the numbers from `start` on, as many as are asked for
unfoldable pub span : ℕ → ℕ → List ℕ
span start zero = []
span start (suc many) = start ∷ span (suc start) many
