-- Cases of a test: what is known of a choice, and of tests put together.
-- Assumes nothing.
use mathlib.Core.Path.{◌≡◌, refl}
use mathlib.Core.Bool.{Bool, true, false, cond, ◌||◌, ◌&&◌, true≢false, false≢true}
use Prim.Native.Nat.{ℕ, suc, ◌+◌, ◌*◌, ◌≤◌, ◌<◌}
use native.Mathlib.Nat.{mul-zero}
use native.Mathlib.Omega.{arith}
use mir.Val.{bool_byte}
use lib.Dec.{T}

-- ---- tests put together
pub neither : (a b : Bool) → (a || b) ≡ false → (a ≡ false) × (b ≡ false)
neither true b e = absurd (true≢false e)
neither false b e = (refl, e)

pub both : (a b : Bool) → (a && b) ≡ true → (a ≡ true) × (b ≡ true)
both true b e = (refl, e)
both false b e = absurd (false≢true e)

-- ---- a choice between two things
-- the same either way
pub cond_same : {A : Type 0} (test : Bool) (a : A) → cond test a a ≡ a
cond_same true a = refl
cond_same false a = refl

-- the same first thing: what follows matters only where the test does not hold
pub cond_else : {A : Type 0} (test : Bool) (a b c : A) → (test ≡ false → b ≡ c) → cond test a b ≡ cond test a c
cond_else true a b c h = refl
cond_else false a b c h = h refl

-- ---- a choice between two numbers
-- a test that would have given a number above 0 did not hold
pub untaken : (test : Bool) (n rest : ℕ) → cond test (suc n) rest ≡ 0 → (test ≡ false) × (rest ≡ 0)
untaken true n rest e = let never : ⊥ = omega arith in absurd never
untaken false n rest e = (refl, e)

-- both within a bound
pub either : {bound : ℕ} (test : Bool) (a b : ℕ) → a ≤ bound → b ≤ bound → cond test a b ≤ bound
either true a b h k = h
either false a b h k = k

pub cond_add : (test : Bool) (a b c d : ℕ) → cond test a b + cond test c d ≡ cond test (a + c) (b + d)
cond_add true a b c d = refl
cond_add false a b c d = refl

-- ---- a number that counts where a test passes
-- a test as a machine's number
pub as_number : (test : Bool) → bool_byte test ≡ cond test 1 0
as_number true = refl
as_number false = refl

pub counted_where : (test : Bool) (n : ℕ) → T test → cond test n 0 ≡ n
counted_where true n passes = refl
counted_where false n passes = absurd passes

pub counted_elsewhere : (test : Bool) (n : ℕ) → ¬ T test → cond test n 0 ≡ 0
counted_elsewhere true n fails = absurd (fails tt)
counted_elsewhere false n fails = refl

pub counted≤ : (test : Bool) (n : ℕ) → cond test n 0 ≤ n
counted≤ true n = omega arith
counted≤ false n = omega arith

pub counted_times : (test : Bool) (w n : ℕ) → cond test (w * n) 0 ≡ w * cond test n 0
counted_times true w n = refl
counted_times false w n = omega (arith, mul-zero w)

pub counted_test : (test : Bool) (n : ℕ) → 0 < cond test n 0 → (test ≡ true) × (0 < n)
counted_test true n h = (refl, h)
counted_test false n h = let never : ⊥ = omega arith in absurd never
