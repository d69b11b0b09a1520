-- What stands at each number when all rows of a class were added: sums from its first row to its last, and nothing elsewhere.
-- Assumes nothing.
use mathlib.Core.Path.{◌≡◌, sym, ap, fun_ext, ◌∙◌}
use mathlib.Core.List.{List, map, Memᴰ}
use Prim.Native.Nat.{ℕ, ◌+◌, ◌≤◌, ◌<◌}
use native.Mathlib.Decide.{ℕ_discrete, dec_lt}
use native.Mathlib.Omega.{arith}
use lib.ListN.{length, get_or, length-map, get_or-eq_default}
use Rattle.sums.specs.Sums.{sum_of, sum_at, span}
use Rattle.sums.proofs.Sums.{sum_of≤, sum_of_zero}
use Rattle.sums.proofs.Spans.{in_span, slot, slot_own, slot_other}
use Rattle.sums.proofs.Tables.{length_tally, tally_at}
use Rattle.book.specs.declared.Row.{Row}
use Rattle.netting.specs.Inner.Places.{first_row_of}
use Rattle.netting.specs.Inner.Gathering.{issue_numbers, gathered_in, first_row_sum}
use Rattle.netting.proofs.FirstRows.{first-row_within}

none_at : {A : Type 0} (index amount : A → ℕ) (k : ℕ) (list : List A) → ((a : A) → Memᴰ a list → index a ≡ k → ⊥) → sum_at index amount k list ≡ 0
none_at index amount k list other =
    omega (arith, sum_of≤ (λ a. slot (index a) (amount a) k) (λ a. 0) list (λ a member. omega (arith, slot_other (index a) (amount a) k (other a member))), sum_of_zero list)

shift_at : {A : Type 0} (first : ℕ) (index amount : A → ℕ) (k : ℕ) (list : List A) → sum_at (λ a. first + index a) amount (first + k) list ≡ sum_at index amount k list
shift_at first index amount k list = ap (λ (f : _ → ℕ). sum_of f list) (fun_ext (λ a. go a (ℕ_discrete (index a) k)))
  where
    go : (a : _) → Dec (index a ≡ k) → slot (first + index a) (amount a) (first + k) ≡ slot (index a) (amount a) k
    go a (yes own) = slot_own (first + index a) (amount a) (first + k) (ap (λ (n : ℕ). first + n) own) ∙ sym (slot_own (index a) (amount a) k own)
    go a (no other) = slot_other (first + index a) (amount a) (first + k) (λ e. other (omega arith)) ∙ sym (slot_other (index a) (amount a) k other)

module _ (amount : Row → ℕ) (first : ℕ) (rows : List Row) (table : List ℕ) where
  abbrev all : List ℕ
  all = gathered_in amount first rows (length rows) table

  abbrev number : ℕ → ℕ
  number k = first + first_row_of (issue_numbers rows) k

  abbrev amount_at : ℕ → ℕ
  amount_at k = get_or (map amount rows) k 0

  at_number : (m : ℕ) → m < length table → get_or all m 0 ≡ get_or table m 0 + sum_at number amount_at m (span 0 (length rows))
  at_number m h = tally_at number amount_at table (span 0 (length rows)) m h

  -- a number that is the place of no row
  in_table : (m : ℕ) → ((k : ℕ) → Memᴰ k (span 0 (length rows)) → first + first_row_of (issue_numbers rows) k ≡ m → ⊥) → get_or all m 0 ≡ get_or table m 0
  in_table m other = go (dec_lt m (length table))
    where
      go : Dec (m < length table) → get_or all m 0 ≡ get_or table m 0
      go (yes h) =
          omega (arith, at_number m h, none_at number amount_at m (span 0 (length rows)) other)
      go (no h) =
          get_or-eq_default all 0 {n = m} (omega (arith, length_tally number amount_at table (span 0 (length rows))))
          ∙ sym (get_or-eq_default table 0 {n = m} (omega arith))

  -- nothing before the first row
  pub all_before : (m : ℕ) → m < first → get_or all m 0 ≡ get_or table m 0
  all_before m low = in_table m (λ k member own. omega arith)

  -- at a row, what is added there
  pub all_at : (k : ℕ) → first + k < length table → get_or table (first + k) 0 ≡ 0 → get_or all (first + k) 0 ≡ first_row_sum amount rows k
  all_at k h none' = omega (arith, at_number (first + k) h, shift_at first (first_row_of (issue_numbers rows)) amount_at k (span 0 (length rows)))

  -- and nothing past the last
  pub all_past : (m : ℕ) → first + length rows ≤ m → get_or table m 0 ≡ 0 → get_or all m 0 ≡ 0
  all_past m past none' =
      in_table m (λ k member own.
      let below = in_span k 0 (length rows) member in
      omega (arith, first-row_within (issue_numbers rows) k (omega (arith, length-map rows (λ r. r.issue)))))
      ∙ none'
