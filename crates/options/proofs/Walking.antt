-- The rows of a table one by one: their fields, the rows so far, and the search for one that is out of range.
-- Assumes nothing.
use mathlib.Core.Path.{◌≡◌, ◌∙◌}
use mathlib.Core.Bool.{true, false}
use mathlib.Core.List.{List, [], ◌∷◌, ◌++◌, map, map-append}
use Prim.Native.Nat.{ℕ, zero, suc, ◌+◌, ◌-◌, ◌≤◌, ◌<◌}
use native.Mathlib.Nat.{zero-add, add-zero}
use native.Mathlib.Decide.{ℕ_discrete}
use native.Mathlib.Numerals.{add-one, lt_of_le_of_ne}
use native.Mathlib.Omega.{arith}
use lib.ListN.{take, drop, get_or}
use Rattle.sums.specs.Sums.{span}
use Rattle.sums.specs.Every.{Every, also}
use Rattle.sums.proofs.Spans.{span_last}
use Rattle.book.specs.Fields.{u16_at, u32_at}
use Rattle.book.specs.Refusals.{refused}
use Rattle.book.proofs.Chunks.{part_byte, part_u16, part_u32}
use Rattle.options.specs.Table.{OptionRow, option_size, decode_option, option_count, option_at, options_of}
use Rattle.options.specs.Refusals.{allowed, first_outside, options_refusal}
use Rattle.options.specs.Accepted.{Allowed}
use Rattle.options.specs.Inner.Reading.{options_to}
use Rattle.options.proofs.Ranges.{accepted_options}

-- ---- the fields of the eighteen bytes at an offset
module _ (s : List ℕ) (start : ℕ) where
  pub option-fields : decode_option (take option_size (drop start s)) ≡ record {
    class = get_or s start 0;
    group = get_or s (start + 1) 0;
    right = get_or s (start + 2) 0;
    kind = get_or s (start + 3) 0;
    amount = u32_at s (start + 4);
    delta = u16_at s (start + 8);
    gamma = u16_at s (start + 10);
    vega = u16_at s (start + 12);
    volatility = u16_at s (start + 14);
    days = u16_at s (start + 16);
  }
  unfolding decode_option
  option-fields =
      let class = part_byte s start option_size 0 (omega arith) in
      let group = part_byte s start option_size 1 (omega arith) in
      let right = part_byte s start option_size 2 (omega arith) in
      let kind = part_byte s start option_size 3 (omega arith) in
      let amount = part_u32 s start option_size 4 (omega arith) in
      let delta = part_u16 s start option_size 8 (omega arith) in
      let gamma = part_u16 s start option_size 10 (omega arith) in
      let vega = part_u16 s start option_size 12 (omega arith) in
      let volatility = part_u16 s start option_size 14 (omega arith) in
      let days = part_u16 s start option_size 16 (omega arith) in
      simp (class, group, right, kind, amount, delta, gamma, vega, volatility, days, add-zero)

module _ (s : List ℕ) where
  -- ---- the rows so far, and one more
  pub to_next : (n : ℕ) → options_to s (n + 1) ≡ options_to s n ++ (option_at s n ∷ [])
  to_next n = rw (add-one n, span_last 0 n, zero-add n) (map-append (option_at s) (span 0 n) (n ∷ []))

  -- all rows
  pub to_all : {row : ℕ} → row ≡ option_count s → options_to s row ≡ options_of s
  unfolding options_of
  to_all end = rw end

  each_of : {P : OptionRow → Type 0} (start many : ℕ) → Every P (map (option_at s) (span start many)) → (k : ℕ) → start ≤ k → k < start + many → P (option_at s k)
  unfolding span
  each_of start zero all k low high = let never : ⊥ = omega arith in absurd never
  each_of {P} start (suc many) (also here later) k low high = go (ℕ_discrete start k) (λ h. each_of (suc start) many later k h (omega arith))
    where
      go : Dec (start ≡ k) → (suc start ≤ k → P (option_at s k)) → P (option_at s k)
      go (yes own) rest = rw (← own) here
      go (no other) rest = rest (lt_of_le_of_ne low other)

  -- each row of a table that is not refused
  pub each_taken : (options_refusal s).number ≡ 0 → (k : ℕ) → k < option_count s → Allowed (option_at s k)
  unfolding options_of
  each_taken taken k h = each_of 0 _ (accepted_options s taken).every k (omega arith) (omega arith)

  -- ---- the search
  abbrev left : ℕ → List OptionRow
  left row = map (option_at s) (span row (option_count s - row))

  -- the rows before one are in range
  pub record Passed (row : ℕ) : Type 0 where
    pub so_far : first_outside 0 (options_of s) ≡ first_outside row (left row)

  pub none_passed : Passed 0
  unfolding options_of
  none_passed = let all : option_count s - 0 ≡ option_count s = omega arith in record { so_far = rw all }

  here : (row : ℕ) → row < option_count s → left row ≡ option_at s row ∷ left (suc row)
  unfolding span
  here row more = let one : option_count s - row ≡ suc (option_count s - suc row) = omega arith in rw one

  module _ {row : ℕ} (before : Passed row) where
    pub one_passed : row < option_count s → allowed (option_at s row) ≡ true → Passed (row + 1)
    unfolding first_outside
    one_passed more passes = rw (add-one row) (record { so_far = before.so_far ∙ rw (here row more, passes) })

    pub one_outside : row < option_count s → allowed (option_at s row) ≡ false → first_outside 0 (options_of s) ≡ refused 17 row
    unfolding first_outside
    one_outside more fails = before.so_far ∙ rw (here row more, fails)

    pub all_passed : row ≡ option_count s → first_outside 0 (options_of s) ≡ refused 0 0
    unfolding first_outside span
    all_passed end = let none : option_count s - row ≡ 0 = omega arith in before.so_far ∙ rw none
