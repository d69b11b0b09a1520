-- Sums over the numbers of a span: one number more, what stands at one number, and a sum that a loop makes.
-- Assumes nothing.
use Prim.Native.Nat.{ℕ, zero, suc, ◌+◌, ◌-◌, ◌*◌, ◌≤◌, ◌<◌}
use mathlib.Core.Path.{◌≡◌, refl, sym, ap, ◌∙◌}
use mathlib.Core.Bool.{cond}
use mathlib.Core.List.{List, [], ◌∷◌, ◌++◌, Memᴰ}
use native.Mathlib.Nat.{zero-add, add-zero, add-suc, suc-add}
use native.Mathlib.Decide.{ℕ_discrete}
use native.Mathlib.Numerals.{add-one, lt_of_le_of_ne}
use native.Mathlib.Omega.{arith}
use lib.Dec.{eqb, eqb→eq, eqb_refl}
use Rattle.sums.specs.Sums.{sum_of, sum_at, span}
use Rattle.sums.specs.Every.{Every, none, also}
use Rattle.sums.proofs.Cases.{counted_where, counted_elsewhere, counted≤}
use Rattle.sums.proofs.Sums.{sum_of_append, sum_of_plus, sum_of_zero}

-- ---- the numbers of a span
pub span_last : (start many : ℕ) → span start (suc many) ≡ span start many ++ ((start + many) ∷ [])
unfolding span
span_last start zero = rw add-zero
span_last start (suc many) = ap (λ (l : List ℕ). start ∷ l) (rw (add-suc, ← suc-add) (span_last (suc start) many))

pub in_span : (k start n : ℕ) → Memᴰ k (span start n) → (start ≤ k) × (k < start + n)
unfolding span
in_span k start (suc n) (Memᴰ.head own) = omega arith
in_span k start (suc n) (Memᴰ.tail later) = omega (arith, in_span k (suc start) n later)
in_span k start zero x' = elim x' [ ]

-- a sum over the numbers from 1 on, one less each
pub sum_shift : (f : ℕ → ℕ) (start n : ℕ) → sum_of f (span (suc start) n) ≡ sum_of (λ k. f (suc k)) (span start n)
unfolding sum_of span
sum_shift f start zero = refl
sum_shift f start (suc n) = ap (λ (sum : ℕ). f (suc start) + sum) (sum_shift f (suc start) n)

-- ---- x at one number, and nothing at every other
abbrev pub slot : ℕ → ℕ → ℕ → ℕ
slot j x k = cond (eqb j k) x 0

pub slot_own : (j x k : ℕ) → j ≡ k → slot j x k ≡ x
slot_own j x k own = rw (← own) (counted_where (eqb j j) x (eqb_refl j))

pub slot_other : (j x k : ℕ) → (j ≡ k → ⊥) → slot j x k ≡ 0
slot_other j x k other = counted_elsewhere (eqb j k) x (λ t. other (eqb→eq j k t))

past_slot : (j x start n : ℕ) → j < start → sum_of (slot j x) (span start n) ≡ 0
unfolding sum_of span
past_slot j x start zero h = refl
past_slot j x start (suc n) h = omega (arith, slot_other j x start (λ e. omega arith), past_slot j x (suc start) n (omega arith))

-- a span that has the number sums to x
pub slot_within : (j x start n : ℕ) → start ≤ j → j < start + n → sum_of (slot j x) (span start n) ≡ x
unfolding sum_of span
slot_within j x start zero low high = let never : ⊥ = omega arith in absurd never
slot_within j x start (suc n) low high = go (ℕ_discrete j start) (λ h. slot_within j x (suc start) n h (omega arith))
  where
    go : Dec (j ≡ start) → (suc start ≤ j → sum_of (slot j x) (span (suc start) n) ≡ x) → slot j x start + sum_of (slot j x) (span (suc start) n) ≡ x
    go (yes own) later = omega (arith, slot_own j x start own, past_slot j x (suc start) n (omega arith))
    go (no other) later = omega (arith, slot_other j x start other, later (lt_of_le_of_ne low (λ e. other (sym e))))

-- and no span to more
one_slot : (j x start n : ℕ) → sum_of (slot j x) (span start n) ≤ x
unfolding sum_of span
one_slot j x start zero = omega arith
one_slot j x start (suc n) = go (ℕ_discrete j start) (one_slot j x (suc start) n)
  where
    go : Dec (j ≡ start) → sum_of (slot j x) (span (suc start) n) ≤ x → slot j x start + sum_of (slot j x) (span (suc start) n) ≤ x
    go (yes own) later = omega (arith, counted≤ (eqb j start) x, past_slot j x (suc start) n (omega arith))
    go (no other) later = omega (arith, slot_other j x start other)

module _ {A : Type 0} (index amount : A → ℕ) where
  -- each element is counted at one index at most
  pub slots_within : (n : ℕ) (list : List A) → sum_of (λ k. sum_at index amount k list) (span 0 n) ≤ sum_of amount list
  unfolding sum_of
  slots_within n [] = omega (arith, sum_of_zero (span 0 n))
  slots_within n (a ∷ list) =
      omega (
        arith,
        sum_of_plus (slot (index a) (amount a)) (λ k. sum_at index amount k list) (span 0 n),
        one_slot (index a) (amount a) 0 n,
        slots_within n list,
      )

  -- and at exactly one where each index is in the span
  pub slots_all : (n : ℕ) {list : List A} → Every (λ a. index a < n) list → sum_of (λ k. sum_at index amount k list) (span 0 n) ≡ sum_of amount list
  unfolding sum_of
  slots_all n none = sum_of_zero (span 0 n)
  slots_all n (also {a} {rest} below later) =
      omega (
        arith,
        sum_of_plus (slot (index a) (amount a)) (λ k. sum_at index amount k rest) (span 0 n),
        slot_within (index a) (amount a) 0 n (omega arith) (omega arith),
        slots_all n later,
      )

-- ---- sums from 0 on, one number more
sum_none : (f : ℕ → ℕ) → sum_of f (span 0 0) ≡ 0
unfolding sum_of span
sum_none f = refl

module _ (f : ℕ → ℕ) where
  pub sum_next : (g : ℕ) → sum_of f (span 0 (g + 1)) ≡ sum_of f (span 0 g) + f g
  unfolding sum_of
  sum_next g = rw (add-one g, span_last 0 g) (sum_of_append f (span 0 g) ((0 + g) ∷ []) ∙ rw zero-add (omega arith))

  sum_suc : (n : ℕ) → sum_of f (span 0 (suc n)) ≡ sum_of f (span 0 n) + f n
  sum_suc n = ap (λ (m : ℕ). sum_of f (span 0 m)) (sym (add-one n)) ∙ sum_next n

  pub sum_grows : (g more : ℕ) → sum_of f (span 0 g) ≤ sum_of f (span 0 (g + more))
  sum_grows g zero = rw add-zero (omega arith)
  sum_grows g (suc more) = rw (add-suc, ← add-one (g + more)) (omega (arith, sum_next (g + more), sum_grows g more))

  -- what one more adds is there in a longer sum
  pub sum_room : (g n : ℕ) → g < n → sum_of f (span 0 g) + f g ≤ sum_of f (span 0 n)
  sum_room g n h =
      let rest : g + 1 + (n - (g + 1)) ≡ n = omega arith in
      omega (arith, sum_next g, ap (λ (m : ℕ). sum_of f (span 0 m)) rest, sum_grows (g + 1) (n - (g + 1)))

-- what is equal below n sums to the same
pub sum_same : (f g : ℕ → ℕ) (n : ℕ) → ((k : ℕ) → k < n → f k ≡ g k) → sum_of f (span 0 n) ≡ sum_of g (span 0 n)
sum_same f g zero same = sum_none f ∙ sym (sum_none g)
sum_same f g (suc n) same = omega (arith, sum_suc f n, sum_suc g n, sum_same f g n (λ k h. same k (omega arith)), same n (omega arith))

-- of the numbers below n only k is at index k
pub sum_at_lem : (f : ℕ → ℕ) (n k : ℕ) → k < n → sum_at (λ j. j) f k (span 0 n) ≡ f k
sum_at_lem f n k h = sum_same _ (slot k (f k)) n (λ j below. go j (ℕ_discrete k j)) ∙ slot_within k (f k) 0 n (omega arith) (omega arith)
  where
    go : (j : ℕ) → Dec (k ≡ j) → cond (eqb j k) (f j) 0 ≡ slot k (f k) j
    go j (yes own) = rw (← own)
    go j (no other) = slot_other j (f j) k (λ e. other (sym e)) ∙ sym (slot_other k (f k) j other)

-- ---- a sum that a loop has brought as far as g
pub record Summed (f : ℕ → ℕ) (n sum g : ℕ) : Type 0 where
  pub reached : g ≤ n
  pub is_sum : sum ≡ sum_of f (span 0 g)

pub summed_none : (f : ℕ → ℕ) (n : ℕ) → Summed f n 0 0
unfolding sum_of span
summed_none f n = record { reached = omega arith; is_sum = refl }

pub summed_next : (f : ℕ → ℕ) (n sum g one : ℕ) → Summed f n sum g → g < n → one ≡ f g → Summed f n (sum + one) (g + 1)
summed_next f n sum g one before h is = record { reached = omega arith; is_sum = omega (arith, before.is_sum, sum_next f g) }

pub summed_all : (f : ℕ → ℕ) (n sum g : ℕ) → Summed f n sum g → n ≤ g → sum ≡ sum_of f (span 0 n)
summed_all f n sum g all done =
    let end : g ≡ n = omega (arith, all.reached) in
    all.is_sum ∙ ap (λ (m : ℕ). sum_of f (span 0 m)) end

-- ---- costs that are at most a rate of sizes, the sizes summing to at most a bound
pub record Rated (cost size : ℕ → ℕ) (rate bound n : ℕ) : Type 0 where
  pub each : (k : ℕ) → cost k ≤ rate * size k
  pub whole : sum_of size (span 0 n) ≤ bound

module _ (cost size : ℕ → ℕ) (rate bound n : ℕ) (rated : Rated cost size rate bound n) where
  pub rated_size : (g : ℕ) → g < n → size g ≤ bound
  rated_size g h = omega (arith, sum_room size g n h, rated.whole)
