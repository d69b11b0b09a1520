-- Laws of what holds of every element: of its members, of two lists, of a list of lists, of mapped and of permuted lists; and the element at an index.
-- Assumes nothing.
use Prim.Native.Nat.{ℕ, zero, suc, ◌*◌, ◌≤◌, ◌<◌}
use mathlib.Core.Path.{◌≡◌, refl, sym, ◌∙◌}
use mathlib.Core.List.{List, [], ◌∷◌, ◌++◌, map, flat_map, Perm, Memᴰ}
use native.Mathlib.Omega.{arith}
use lib.ListN.{length, get_or, replicate}
use Rattle.sums.specs.Sums.{sum_of}
use Rattle.sums.specs.Every.{Every, none, also}
use Rattle.sums.proofs.Sums.{sum_of_permuted}

module _ {A : Type 0} {P : A → Type 0} where
  pub every_split : (l m : List A) → Every P (l ++ m) → Every P l × Every P m
  every_split [] m e = (none, e)
  every_split (a ∷ l) m (also p e) = let parts = every_split l m e in (also p parts.0, parts.1)

  pub every_append : {l m : List A} → Every P l → Every P m → Every P (l ++ m)
  every_append none f = f
  every_append (also p e) f = also p (every_append e f)

  pub every_at : {l : List A} → Every P l → (i : ℕ) (d : A) → i < length l → P (get_or l i d)
  every_at none i d h = let never : ⊥ = omega arith in absurd never
  every_at (also p rest) zero d h = p
  every_at (also p rest) (suc i) d h = every_at rest i d (omega arith)

  -- of each member, and the other way
  pub every_member : {l : List A} → Every P l → (a : A) → Memᴰ a l → P a
  every_member (also p rest) a (Memᴰ.head own) = rw own p
  every_member (also p rest) a (Memᴰ.tail later) = every_member rest a later
  every_member none a x3 = elim x3 [ ]

  pub member_every : (l : List A) → ((a : A) → Memᴰ a l → P a) → Every P l
  member_every [] h = none
  member_every (a ∷ l) h = also (h a (Memᴰ.head refl)) (member_every l (λ b later. h b (Memᴰ.tail later)))

  -- amounts that are each within a bound
  pub every_bound : (f : A → ℕ) (bound : ℕ) → ((a : A) → P a → f a ≤ bound) → {l : List A} → Every P l → sum_of f l ≤ bound * length l
  unfolding sum_of
  every_bound f bound each none = omega arith
  every_bound f bound each (also {a} p rest) = omega (arith, each a p, every_bound f bound each rest)

-- what holds of everything
pub every_all : {A : Type 0} {P : A → Type 0} → ((a : A) → P a) → (l : List A) → Every P l
every_all h [] = none
every_all h (a ∷ l) = also (h a) (every_all h l)

-- what holds of one element, so many times
pub every_replicate : {A : Type 0} (P : A → Type 0) (n : ℕ) (a : A) → P a → Every P (replicate n a)
every_replicate P zero a p = none
every_replicate P (suc n) a p = also p (every_replicate P n a p)

pub every_implied : {A : Type 0} {P Q : A → Type 0} → ((a : A) → P a → Q a) → {l : List A} → Every P l → Every Q l
every_implied h none = none
every_implied h (also {a} p e) = also (h a p) (every_implied h e)

-- ---- lists of lists
module _ {A B : Type 0} {P : B → Type 0} (f : A → List B) where
  pub every_flat : (l : List A) → Every P (flat_map f l) → Every (λ a. Every P (f a)) l
  unfolding flat_map
  every_flat [] e = none
  every_flat (a ∷ l) e = let parts = every_split (f a) (flat_map f l) e in also parts.0 (every_flat l parts.1)

  pub flat-every : {l : List A} → Every (λ a. Every P (f a)) l → Every P (flat_map f l)
  unfolding flat_map
  flat-every none = none
  flat-every (also p e) = every_append p (flat-every e)

-- ---- mapped lists
module _ {A B : Type 0} {P : A → Type 0} {Q : B → Type 0} (f : A → B) where
  pub every_mapped : ((a : A) → Q (f a) → P a) → (l : List A) → Every Q (map f l) → Every P l
  every_mapped h [] none = none
  every_mapped h (a ∷ l) (also p e) = also (h a p) (every_mapped h l e)

  pub mapped_every : ((a : A) → P a → Q (f a)) → {l : List A} → Every P l → Every Q (map f l)
  mapped_every h none = none
  mapped_every h (also {a} p e) = also (h a p) (mapped_every h e)

-- ---- a number that is 0 of every element, in any order
module _ {A : Type 0} (f : A → ℕ) where
  every_sum : {l : List A} → Every (λ a. f a ≡ 0) l → sum_of f l ≡ 0
  unfolding sum_of
  every_sum none = refl
  every_sum (also p rest) = omega (arith, every_sum rest)

  sum_every : (l : List A) → sum_of f l ≡ 0 → Every (λ a. f a ≡ 0) l
  unfolding sum_of
  sum_every [] e = none
  sum_every (a ∷ l) e = let first : f a ≡ 0 = omega arith in also first (sum_every l (omega arith))

  pub every_permuted : {l m : List A} → Perm l m → Every (λ a. f a ≡ 0) l → Every (λ a. f a ≡ 0) m
  every_permuted {l} {m} p every = sum_every m (sym (sum_of_permuted f p) ∙ every_sum every)

-- a sum is 0 where another is, if each element's part of it is
pub none_where : {A : Type 0} (f g : A → ℕ) → ((a : A) → f a ≡ 0 → g a ≡ 0) → (l : List A) → sum_of f l ≡ 0 → sum_of g l ≡ 0
none_where f g implied l e = every_sum g (every_implied implied (sum_every f l e))
