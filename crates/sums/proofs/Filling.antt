-- An array that is filled entry by entry, and the list of what a function gives from 0 on.
-- Assumes nothing.
use mathlib.Core.Path.{◌≡◌, refl, sym, ap, ◌∙◌}
use mathlib.Core.List.{List, map}
use Prim.Native.Nat.{ℕ, zero, suc, ◌+◌, ◌≤◌, ◌<◌}
use native.Mathlib.Decide.{ℕ_discrete}
use native.Mathlib.Nat.{zero-add, add-zero, add-suc, suc-add}
use native.Mathlib.Omega.{arith}
use lib.ListN.{length, get_or, set, length-set}
use lib.Seq.{get_or-set_same, get_or-set_other, ext_get_or}
use Rattle.sums.specs.Sums.{sum_of, span}
use Rattle.sums.specs.Inner.Tables.{Reads}
use Rattle.sums.proofs.Sums.{sum_of_map}

-- the first k of n entries are given
pub record Filled (n : ℕ) (f : ℕ → ℕ) (out : List ℕ) (k : ℕ) : Type 0 where
  pub filled : k ≤ n
  pub sized : length out ≡ n
  pub read : Reads k f out

pub filled_none : (n : ℕ) (f : ℕ → ℕ) (out : List ℕ) → length out ≡ n → Filled n f out 0
filled_none n f out e = record { filled = omega arith; sized = e; read = record { below = λ k h. omega arith } }

pub filled_next : (n : ℕ) (f : ℕ → ℕ) (out : List ℕ) (k v : ℕ) → Filled n f out k → k < n → v ≡ f k → Filled n f (set out k v) (k + 1)
filled_next n f out k v before h is =
    record {
      filled = omega arith;
      sized = length-set out k v ∙ before.sized;
      read = record { below = λ j j-below. go j j-below (ℕ_discrete j k) };
    }
  where
    go : (j : ℕ) → j < k + 1 → Dec (j ≡ k) → get_or (set out k v) j 0 ≡ f j
    go j j-below (yes own) = rw own (get_or-set_same out k v 0 (omega (arith, before.sized)) ∙ is)
    go j j-below (no other) = get_or-set_other out k j v 0 other ∙ before.read.below j (omega arith)

pub filled_all : (n : ℕ) (f : ℕ → ℕ) (out : List ℕ) (k : ℕ) → Filled n f out k → n ≤ k → Reads n f out
filled_all n f out k all done = record { below = λ j h. all.read.below j (omega arith) }

-- ---- the list of what a function gives for the numbers of a span
module _ (f : ℕ → ℕ) where
  pub listed_length : (start n : ℕ) → length (map f (span start n)) ≡ n
  unfolding span
  listed_length start zero = refl
  listed_length start (suc n) = ap suc (listed_length (suc start) n)

  listed_from : (start n k : ℕ) → k < n → get_or (map f (span start n)) k 0 ≡ f (start + k)
  unfolding span
  listed_from start zero k h = let never : ⊥ = omega arith in absurd never
  listed_from start (suc n) zero h = ap f (sym (add-zero start))
  listed_from start (suc n) (suc k) h = rw (add-suc, ← suc-add) (listed_from (suc start) n k (omega arith))

  pub listed_at : (n k : ℕ) → k < n → get_or (map f (span 0 n)) k 0 ≡ f k
  listed_at n k h = listed_from 0 n k h ∙ ap f (zero-add k)

  -- an array of n entries that are given is that list
  pub listed_array : (n : ℕ) (out : List ℕ) → length out ≡ n → Reads n f out → out ≡ map f (span 0 n)
  listed_array n out sized read =
      ext_get_or 0 out (map f (span 0 n)) (sized ∙ sym (listed_length 0 n)) (λ k h. read.below k (omega arith) ∙ sym (listed_at n k (omega arith)))

-- what is equal below n gives the same list
pub listed_same : (f g : ℕ → ℕ) (n : ℕ) → ((k : ℕ) → k < n → f k ≡ g k) → map f (span 0 n) ≡ map g (span 0 n)
listed_same f g n same =
    listed_array g n (map f (span 0 n)) (listed_length f 0 n) (record { below = λ k h. listed_at f n k h ∙ same k h })

-- a list of n entries sums to what its entries do, one by one
pub entries_sum : (n : ℕ) (list : List ℕ) → length list ≡ n → sum_of (λ k. get_or list k 0) (span 0 n) ≡ sum_of (λ entry. entry) list
entries_sum n list sized =
    sym (sum_of_map (λ entry. entry) (λ k. get_or list k 0) (span 0 n))
    ∙ ap (sum_of (λ entry. entry)) (sym (listed_array (λ k. get_or list k 0) n list sized (record { below = λ k h. refl })))
