-- The option tables that are not refused are those that are described directly.
-- Assumes nothing.
use mathlib.Core.Path.{◌≡◌, refl, ap, ◌∙◌}
use mathlib.Core.Bool.{Bool, true, false, cond}
use mathlib.Core.List.{List, [], ◌∷◌}
use Prim.Native.Nat.{ℕ, zero, suc, ◌+◌, ◌*◌, ◌≤◌}
use native.Mathlib.Omega.{arith}
use lib.ListN.{length, length-map}
use borrow.Author.Tests.{leb-true, le-leb, ltb-false, le-ltb, eqb-true, eq-eqb, not-false}
use Rattle.sums.specs.Sums.{span}
use Rattle.sums.specs.Every.{Every, none, also}
use Rattle.sums.proofs.Cases.{neither, both}
use Rattle.book.specs.Refusals.{refused}
use Rattle.options.specs.Table.{OptionRow, count_size, option_size, option_count, option_at, options_of}
use Rattle.options.specs.Refusals.{most_options, length_refused, sort_allowed, size_allowed, allowed, first_outside, options_refusal}
use Rattle.options.specs.Accepted.{Allowed, AcceptedOptions}

-- ---- a row
in_ranges : (option : OptionRow) → allowed option ≡ true → Allowed option
unfolding allowed sort_allowed size_allowed
in_ranges option e =
    let parts = both _ _ e in
    let classed = both _ _ parts.0 in
    let class = both _ _ classed.0 in
    let grouped = both _ _ classed.1 in
    let righted = both _ _ grouped.1 in
    let kinded = both _ _ righted.1 in
    let kind = both _ _ kinded.0 in
    let sizes = both _ _ parts.1 in
    let amount = both _ _ sizes.0 in
    record {
      class_from = leb-true _ _ class.0;
      class_to = leb-true _ _ class.1;
      group = leb-true _ _ grouped.0;
      right = leb-true _ _ righted.0;
      kind_from = leb-true _ _ kind.0;
      kind_to = leb-true _ _ kind.1;
      days = leb-true _ _ kinded.1;
      amount_from = leb-true _ _ amount.0;
      amount_to = leb-true _ _ amount.1;
      delta = leb-true _ _ sizes.1;
    }

ranges_in : (option : OptionRow) → Allowed option → allowed option ≡ true
unfolding allowed sort_allowed size_allowed
ranges_in option ok =
    simp (
      le-leb _ _ ok.class_from,
      le-leb _ _ ok.class_to,
      le-leb _ _ ok.group,
      le-leb _ _ ok.right,
      le-leb _ _ ok.kind_from,
      le-leb _ _ ok.kind_to,
      le-leb _ _ ok.days,
      le-leb _ _ ok.amount_from,
      le-leb _ _ ok.amount_to,
      le-leb _ _ ok.delta,
    )

-- ---- all rows
none_outside : (row : ℕ) (options : List OptionRow) → (first_outside row options).number ≡ 0 → Every Allowed options
unfolding first_outside refused
none_outside row [] e = none
none_outside row (option ∷ options) e = go (none_outside (suc row) options) (allowed option) refl e
  where
    go : ((first_outside (suc row) options).number ≡ 0 → Every Allowed options) → (passes : Bool) → allowed option ≡ passes
        → (cond passes (first_outside (suc row) options) (refused 17 row)).number ≡ 0 → Every Allowed (option ∷ options)
    go later true t e = also (in_ranges option t) (later e)
    go later false t e = let never : ⊥ = omega arith in absurd never

outside-none : (row : ℕ) {options : List OptionRow} → Every Allowed options → first_outside row options ≡ refused 0 0
unfolding first_outside
outside-none row none = refl
outside-none row (also {a = option} ok later) = rw (ranges_in option ok) (outside-none (suc row) later)

-- ---- the table
pub record TableSized (s : List ℕ) : Type 0 where
  pub counted : count_size ≤ length s
  pub few : option_count s ≤ most_options
  pub sized : length s ≡ count_size + option_size * option_count s

pub table_sized : (s : List ℕ) → length_refused s ≡ false → TableSized s
unfolding length_refused
table_sized s e =
    let parts = neither _ _ e in
    let later = neither _ _ parts.1 in
    record { counted = ltb-false _ _ parts.0; few = ltb-false _ _ later.0; sized = eqb-true _ _ (not-false _ later.1) }

sized_table : (s : List ℕ) → TableSized s → length_refused s ≡ false
unfolding length_refused
sized_table s table = simp (le-ltb _ _ table.counted, le-ltb _ _ table.few, eq-eqb _ _ table.sized)

-- 16, and past it
pub wrong_length : (s : List ℕ) → (cond {A = ℕ} (length_refused s) 16 0 ≡ 0 → ⊥) → options_refusal s ≡ refused (cond (length_refused s) 16 0) 0
unfolding options_refusal
wrong_length s = go (length_refused s)
  where
    go : (test : Bool) → (cond {A = ℕ} test 16 0 ≡ 0 → ⊥) → cond test (refused 16 0) (first_outside 0 (options_of s)) ≡ refused (cond test 16 0) 0
    go true some = refl
    go false some = absurd (some refl)

pub right_length : (s : List ℕ) → cond {A = ℕ} (length_refused s) 16 0 ≡ 0 → length_refused s ≡ false
right_length s = go (length_refused s)
  where
    go : (test : Bool) → cond {A = ℕ} test 16 0 ≡ 0 → test ≡ false
    go true e = let never : ⊥ = omega arith in absurd never
    go false e = refl

pub past_length : (s : List ℕ) → length_refused s ≡ false → options_refusal s ≡ first_outside 0 (options_of s)
unfolding options_refusal
past_length s sized = simp sized

-- a table that passes 16 and 17, and back
pub accepted_options : (s : List ℕ) → (options_refusal s).number ≡ 0 → AcceptedOptions s
unfolding options_refusal refused
accepted_options s = go (length_refused s) refl
  where
    go : (test : Bool) → length_refused s ≡ test → (cond test (refused 16 0) (first_outside 0 (options_of s))).number ≡ 0 → AcceptedOptions s
    go true t e = let never : ⊥ = omega arith in absurd never
    go false t e =
        let table = table_sized s t in
        record { counted = table.counted; few = table.few; sized = table.sized; every = none_outside 0 (options_of s) e }

pub accepted_sized : {s : List ℕ} → AcceptedOptions s → TableSized s
accepted_sized ok = record { counted = ok.counted; few = ok.few; sized = ok.sized }

pub options_taken : (s : List ℕ) → AcceptedOptions s → options_refusal s ≡ refused 0 0
unfolding options_refusal
options_taken s ok = rw (sized_table s (accepted_sized ok)) (outside-none 0 ok.every)

-- as many rows as the table says
span-length : (start n : ℕ) → length (span start n) ≡ n
unfolding span
span-length start zero = refl
span-length start (suc n) = ap suc (span-length (suc start) n)

pub options_length : (s : List ℕ) → length (options_of s) ≡ option_count s
unfolding options_of
options_length s = length-map (span 0 (option_count s)) (option_at s) ∙ span-length 0 (option_count s)
