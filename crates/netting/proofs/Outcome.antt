-- What the amounts of an accepted book come to: 14, and with the nets in the place of the sums the netted rows.
-- Assumes nothing.
use mathlib.Core.Path.{◌≡◌, refl, sym, ap, ◌∙◌}
use mathlib.Core.Bool.{Bool, true, false, cond}
use mathlib.Core.List.{List}
use Prim.Native.Nat.{ℕ, zero, suc, ◌+◌, ◌-◌, ◌≤◌, ◌<◌}
use native.Mathlib.Nat.{zero-add, add-zero, add-suc, suc-add}
use native.Mathlib.Omega.{arith}
use lib.ListN.{length}
use borrow.Author.Tests.{ltb-false}
use Rattle.sums.specs.Every.{Every}
use Rattle.sums.proofs.Every.{every_implied}
use Rattle.book.specs.declared.Counts.{Counts}
use Rattle.book.specs.Counts.{counts_of, rows_before, count_of_rows}
use Rattle.book.specs.Legs.{Leg, legs_of, of_class}
use Rattle.book.specs.Refusals.{most_amount, refused}
use Rattle.book.specs.Accepted.{Accepted}
use Rattle.book.proofs.Placing.{from_class, from_first, from_last, before-none, before-next, before-all, before-within}
use Rattle.book.proofs.Walking.{class_legs, legs_by_class}
use Rattle.book.proofs.ClassRows.{class_size, rows_clean}
use Rattle.ladder.specs.Position.{Bands, gross, net, absolute_net}
use Rattle.issues.specs.Agreeing.{over_limit}
use Rattle.netting.specs.Netted.{first_found, found_in_class, over_refusal, netted_class}
use Rattle.netting.specs.Inner.Gathering.{Holds}
use Rattle.amounts.specs.declared.positions.Amounts.{Amounts}
use Rattle.amounts.specs.Inner.Standing.{positions_in, Stands}
use Rattle.amounts.proofs.Standing.{standing-same}
use Rattle.netting.specs.Inner.Nets.{is_over, first_number, NetsAt}
use Rattle.netting.proofs.Settling.{OneSided, clean_sided, settled-netted}
use Rattle.netting.proofs.Limits.{over_class}
use Rattle.netting.proofs.Found.{legs_next}

-- where none is found, none of the rows is
none_found : (n : ℕ) (test : ℕ → Bool) (row many : ℕ) → (first_number (suc n) test row many).number ≡ 0 → (k : ℕ) → k < many → test (row + k) ≡ false
unfolding first_number refused
none_found n test row zero e k h = let never : ⊥ = omega arith in absurd never
none_found n test row (suc many) e k h = go (test row) refl e (none_found n test (suc row) many) k h
  where
    go : (found : Bool) → test row ≡ found → (cond found (refused (suc n) row) (first_number (suc n) test (suc row) many)).number ≡ 0
        → ((first_number (suc n) test (suc row) many).number ≡ 0 → (k : ℕ) → k < many → test (suc row + k) ≡ false)
        → (k : ℕ) → k < suc many → test (row + k) ≡ false
    go true t e later k h = let never : ⊥ = omega arith in absurd never
    go false t e later zero h = rw (add-zero row) t
    go false t e later (suc k) h = rw (add-suc row k, ← suc-add row k) (later e k (omega arith))

module _ (s : List ℕ) (ok : Accepted s) (amounts : Amounts)
    (holds : (class : ℕ) → 1 ≤ class → class ≤ 4 → Holds (rows_before (counts_of s) class) (of_class class (legs_of s)) amounts) where
  abbrev counts : Counts
  counts = counts_of s

  abbrev positions : Bands
  positions = positions_in amounts

  sided : (class : ℕ) → 1 ≤ class → class ≤ 4 → Every OneSided (of_class class (legs_of s))
  sided class low high = every_implied (λ row clean. clean_sided clean) (rows_clean s ok class low high)

  -- ---- 14
  test : Leg → Bool
  test leg = over_limit (of_class leg.class (legs_of s)) leg.row

  Same : ℕ → Type 0
  Same class =
      first_number 14 (λ k. is_over (positions k)) (rows_before counts class) (count_of_rows counts - rows_before counts class)
      ≡ first_found 14 test (rows_before counts class) (from_class (class_legs s) class)

  same_past : Same 5
  unfolding Same first_number first_found
  same_past =
      let none : count_of_rows counts - rows_before counts 5 ≡ 0 = omega (arith, before-all counts 5 (omega arith)) in
      rw (none, from_last (class_legs s))

  same_class : (class : ℕ) → 1 ≤ class → class ≤ 4 → Same (class + 1) → Same class
  unfolding Same test
  same_class class low high later =
      let size = class_size s ok class low high in
      let past = rows_before counts class + length (of_class class (legs_of s)) in
      let next : rows_before counts (class + 1) ≡ past = before-next counts class ∙ ap (λ (n : ℕ). rows_before counts class + n) (sym size) in
      let many : count_of_rows counts - rows_before counts class ≡ length (of_class class (legs_of s)) + (count_of_rows counts - past) =
      omega (arith, before-within counts class) in
      rw (many, legs_next s class low high)
      (over_class positions class (of_class class (legs_of s)) test (λ row. refl) amounts (rows_before counts class) refl (holds class low high) (sided class low high)
      (from_class (class_legs s) (class + 1)) (count_of_rows counts - past) (rw next at later))

  pub over_found : first_number 14 (λ k. is_over (positions k)) 0 (count_of_rows counts) ≡ over_refusal (legs_of s)
  unfolding Same found_in_class test
  over_found =
      let four = same_class 4 (omega arith) (omega arith) same_past in
      let three = same_class 3 (omega arith) (omega arith) four in
      let two = same_class 2 (omega arith) (omega arith) three in
      let one = same_class 1 (omega arith) (omega arith) two in
      let all : count_of_rows counts - 0 ≡ count_of_rows counts = omega arith in
      rw (before-none counts 1 (omega arith), all, from_first (class_legs s), ← legs_by_class s) at one

  nets-within : (first_number 14 (λ k. is_over (positions k)) 0 (count_of_rows counts)).number ≡ 0 → (k : ℕ) → k < count_of_rows counts → absolute_net (positions k) ≤ most_amount
  nets-within e k h = ltb-false most_amount _ (rw zero-add at (none_found 13 (λ j. is_over (positions j)) 0 (count_of_rows counts) e k h))

  -- ---- the nets in the place of the sums
  pub stands : (first_number 14 (λ k. is_over (positions k)) 0 (count_of_rows counts)).number ≡ 0 → {amounts' : Amounts} → NetsAt (count_of_rows counts) amounts amounts'
      → Stands s (netted_class s) amounts'
  stands none {amounts'} nets =
      record {
        can = record { within = λ k h. omega (arith, ap gross (nets.each k h), nets-within none k h) };
        each = λ class low high.
            standing-same (positions_in amounts') (λ k. net (positions k)) _ _ (λ k h.
            nets.each (rows_before counts class + k) (omega (arith, class_size s ok class low high, before-within counts class)))
            ∙ settled-netted amounts _ _ (holds class low high) (sided class low high);
      }
