-- A table of sums that is filled row by row holds at each index the sum of the amounts of the rows with that index.
-- Assumes nothing.
use Prim.Native.Nat.{ℕ, ◌+◌, ◌≤◌, ◌<◌}
use mathlib.Core.Path.{◌≡◌, refl, sym, ◌∙◌}
use mathlib.Core.List.{List, [], ◌∷◌, ◌++◌, foldl-append}
use native.Mathlib.Decide.{ℕ_discrete}
use native.Mathlib.Nat.{add-zero}
use native.Mathlib.Omega.{arith}
use lib.ListN.{length, get_or, replicate, length-set, length-replicate, get_or-replicate}
use lib.Seq.{set-get_or, get_or-set_same, get_or-set_other, lt-length-set}
use Rattle.sums.specs.Sums.{sum_of, sum_at}
use Rattle.sums.specs.Inner.Tables.{placed, tally}
use Rattle.sums.proofs.Sums.{sum_of_append, sum_at≤}
use Rattle.sums.proofs.Spans.{slot, slot_own, slot_other}

module _ {A : Type 0} (index amount : A → ℕ) where
  pub length_tally : (table : List ℕ) (rows : List A) → length (tally index amount table rows) ≡ length table
  length_tally table [] = refl
  length_tally table (row ∷ rows) = length_tally (placed index amount table row) rows ∙ length-set table (index row) _

  -- one row: at its own index, and at another
  placed_at : (table : List ℕ) (row : A) (k : ℕ) → k < length table → Dec (index row ≡ k)
      → get_or (placed index amount table row) k 0 ≡ get_or table k 0 + slot (index row) (amount row) k
  placed_at table row k h (yes own) =
      let here : index row < length table = omega arith in
      rw (← own) (get_or-set_same table (index row) _ 0 here ∙ omega (arith, slot_own (index row) (amount row) (index row) refl))
  placed_at table row k h (no other) =
      get_or-set_other table (index row) k _ 0 (λ e. other (sym e)) ∙ omega (arith, slot_other (index row) (amount row) k other)

  -- a row without an amount leaves the table as it is
  pub placed-none : (table : List ℕ) (row : A) → amount row ≡ 0 → placed index amount table row ≡ table
  placed-none table row none = rw (none, add-zero (get_or table (index row) 0)) (set-get_or table (index row) 0)

  pub tally_at : (table : List ℕ) (rows : List A) (k : ℕ) → k < length table
      → get_or (tally index amount table rows) k 0 ≡ get_or table k 0 + sum_at index amount k rows
  unfolding sum_of
  tally_at table [] k h = omega arith
  tally_at table (row ∷ rows) k h =
      omega (arith, tally_at (placed index amount table row) rows k (lt-length-set table (index row) _ h), placed_at table row k h (ℕ_discrete (index row) k))

  -- a table of zeros
  pub tallied : (n : ℕ) (rows : List A) (k : ℕ) → k < n → get_or (tally index amount (replicate n 0) rows) k 0 ≡ sum_at index amount k rows
  tallied n rows k h =
      let within : k < length {A = ℕ} (replicate n 0) = omega (arith, length-replicate {A = ℕ} n 0) in
      omega (arith, tally_at (replicate n 0) rows k within, get_or-replicate {A = ℕ} n k 0 0 h)

  -- one row more, and room for its amount
  pub tally_last : (table : List ℕ) (rows : List A) (row : A)
      → tally index amount table (rows ++ (row ∷ [])) ≡ placed index amount (tally index amount table rows) row
  tally_last table rows row = foldl-append (placed index amount) table rows (row ∷ [])

  pub tally_room : (n : ℕ) (rows : List A) (row : A) (more : List A) (k : ℕ) → k < n
      → get_or (tally index amount (replicate n 0) rows) k 0 + amount row ≤ sum_of amount (rows ++ (row ∷ more))
  unfolding sum_of
  tally_room n rows row more k h =
      omega (arith, tallied n rows k h, sum_at≤ index amount k rows, sum_of_append amount rows (row ∷ more))
