-- How many comparisons netting makes: at most n(n - 1)/2 for the n rows of a book, and as many where they are of one class and of different issues.
-- Assumes nothing.
use Prim.Native.Nat.{ℕ, zero, suc, ◌+◌, ◌-◌, ◌*◌, ◌/◌, ◌≤◌}
use mathlib.Core.Path.{◌≡◌, refl}
use mathlib.Core.Bool.{Bool, true, false, cond}
use mathlib.Core.List.{List, [], ◌∷◌}
use native.Mathlib.Omega.{arith}
use lib.Dec.{eqb}
use lib.ListN.{length}
use borrow.Author.Tests.{eqb-true, eq-eqb}
use Rattle.sums.specs.Sums.{sum_of}
use Rattle.sums.proofs.Every.{every_all}
use Rattle.book.specs.declared.Row.{Row}
use Rattle.book.specs.declared.Refusal.{Refusal}
use Rattle.book.specs.Counts.{count_in, count_of_rows}
use Rattle.book.specs.Legs.{legs_of, of_class}
use Rattle.book.specs.Accepted.{Accepted}
use Rattle.book.proofs.Placing.{of_four}
use Rattle.book.proofs.Walking.{legs_length}
use Rattle.book.proofs.Acceptance.{accepted}
use Rattle.layout.specs.Room.{or_next, figure_of}
use Rattle.issues.specs.Issues.{has}
use Rattle.issues.specs.Comparing.{comparisons_from, comparisons}
use Rattle.issues.proofs.Comparing.{comparisons-from, comparisons-reached}
use Rattle.book.proofs.ClassRows.{class_size}
use Rattle.netting.specs.Netted.{issues_refusal, comparisons_of, netting_refusal, netted_answer, netted_of}
use Rattle.offsetting.specs.NetOffset.{net_offset_refusal, net_offset_of}
use Rattle.claims.specs.Netting.{ComparingHolds, ReachingHolds}
use Rattle.claims.proofs.Writing.{neither_refused}

-- ---- numbers
halves : (n compared : ℕ) → 2 * compared + n ≤ n * n → compared ≤ n * (n - 1) / 2
halves zero compared h = omega arith
halves (suc m) compared h =
    let less : suc m - 1 ≡ m = omega arith in
    rw less (omega arith)

halved : (n compared : ℕ) → 2 * compared + n ≡ n * n → compared ≡ n * (n - 1) / 2
halved zero compared h = omega arith
halved (suc m) compared h =
    let less : suc m - 1 ≡ m = omega arith in
    rw less (omega arith)

none_compared : (rows : List Row) → length rows ≡ 0 → comparisons rows ≡ 0
unfolding comparisons_from
none_compared [] e = refl
none_compared (row ∷ rows) e = let never : ⊥ = omega arith in absurd never

nothing-kept : (issue : ℕ) → has [] issue ≡ false
unfolding has
nothing-kept issue = refl

-- ---- the four classes of an accepted book
module _ (s : List ℕ) (ok : Accepted s) where
  abbrev rows : ℕ → List Row
  rows class = of_class class (legs_of s)

  four : length (legs_of s) ≡ length (rows 1) + (length (rows 2) + (length (rows 3) + length (rows 4)))
  unfolding count_of_rows count_in
  four =
      omega (
        arith,
        legs_length s ok.sized,
        class_size s ok 1 (omega arith) (omega arith),
        class_size s ok 2 (omega arith) (omega arith),
        class_size s ok 3 (omega arith) (omega arith),
        class_size s ok 4 (omega arith) (omega arith),
      )

  all_classes_lem : 2 * comparisons_of s + length (legs_of s) ≤ length (legs_of s) * length (legs_of s)
  unfolding comparisons_of sum_of
  all_classes_lem = rw four (omega (arith, comparisons-from [] (rows 1), comparisons-from [] (rows 2), comparisons-from [] (rows 3), comparisons-from [] (rows 4)))

  -- all rows in one class
  reached : (class : ℕ) → 1 ≤ class → class ≤ 4 → length (rows class) ≡ length (legs_of s) → comparisons_of s ≡ comparisons (rows class)
  unfolding comparisons_of sum_of
  reached =
      of_four (λ class. length (rows class) ≡ length (legs_of s) → comparisons_of s ≡ comparisons (rows class))
      (λ all. omega (arith, four, none_compared (rows 2) (omega (arith, four)), none_compared (rows 3) (omega (arith, four)), none_compared (rows 4) (omega (arith, four))))
      (λ all. omega (arith, four, none_compared (rows 1) (omega (arith, four)), none_compared (rows 3) (omega (arith, four)), none_compared (rows 4) (omega (arith, four))))
      (λ all. omega (arith, four, none_compared (rows 1) (omega (arith, four)), none_compared (rows 2) (omega (arith, four)), none_compared (rows 4) (omega (arith, four))))
      (λ all. omega (arith, four, none_compared (rows 1) (omega (arith, four)), none_compared (rows 2) (omega (arith, four)), none_compared (rows 3) (omega (arith, four))))

-- a book whose issues can be netted is accepted
able_accepted : (s : List ℕ) → (issues_refusal s).number ≡ 0 → Accepted s
unfolding issues_refusal
able_accepted s e = accepted s (neither_refused _ _ e).0

-- the comparisons of a call that takes accepted books alone
bounded : (s : List ℕ) (refusal : Refusal) → (refusal.number ≡ 0 → Accepted s)
    → figure_of refusal (comparisons_of s) ≤ length (legs_of s) * (length (legs_of s) - 1) / 2
unfolding figure_of
bounded s refusal taken = go (eqb refusal.number 0) refl
  where
    go : (passes : Bool) → eqb refusal.number 0 ≡ passes → cond passes (comparisons_of s) 0 ≤ length (legs_of s) * (length (legs_of s) - 1) / 2
    go true e = halves (length (legs_of s)) (comparisons_of s) (all_classes_lem s (taken (eqb-true refusal.number 0 e)))
    go false e = omega arith

pub comparing : ComparingHolds
unfolding netted_of net_offset_of netted_answer netting_refusal net_offset_refusal
comparing s room =
    let taken : (next : Refusal) → (or_next (issues_refusal s) next).number ≡ 0 → Accepted s =
    λ next e. able_accepted s (neither_refused (issues_refusal s) next e).0 in
    record { netting = bounded s _ (taken _); one_call = bounded s _ (taken _) }

pub reaching : ReachingHolds
unfolding netted_of netted_answer figure_of netting_refusal
reaching s room e class low high all different =
    let rows = of_class class (legs_of s) in
    let most = comparisons-reached [] (every_all (λ row. nothing-kept row.issue) rows) different in
    rw (eq-eqb (netting_refusal s room).number 0 e)
    (halved (length (legs_of s)) (comparisons_of s) (rw (reached s (able_accepted s (neither_refused (issues_refusal s) _ e).0) class low high all, ← all) (omega (arith, most))))
