-- The first of some rows that a test finds, as a loop over their numbers finds it.
-- Assumes nothing.
use mathlib.Core.Path.{◌≡◌, ◌∙◌}
use mathlib.Core.Bool.{Bool, true, false}
use Prim.Native.Nat.{ℕ, suc, ◌+◌, ◌-◌, ◌≤◌, ◌<◌}
use native.Mathlib.Numerals.{add-one}
use native.Mathlib.Omega.{arith}
use Rattle.book.specs.Refusals.{refused}
use Rattle.netting.specs.Inner.Nets.{first_number}

module _ (number : ℕ) (test : ℕ → Bool) (rows : ℕ) where
  -- none of the rows before this one is found
  pub record Unfound (row : ℕ) : Type 0 where
    pub reached : row ≤ rows
    pub same : first_number number test 0 rows ≡ first_number number test row (rows - row)

  pub unfound_none : Unfound 0
  unfound_none = record { reached = omega arith; same = let all : rows - 0 ≡ rows = omega arith in rw all }

  module _ (row : ℕ) (more : row < rows) (now : Unfound row) where
    here : rows - row ≡ suc (rows - suc row)
    here = omega arith

    pub unfound_next : test row ≡ false → Unfound (row + 1)
    unfolding first_number
    unfound_next e = record { reached = omega arith; same = now.same ∙ rw (here, e, add-one row) }

    pub found_here : test row ≡ true → first_number number test 0 rows ≡ refused number row
    unfolding first_number
    found_here e = now.same ∙ rw (here, e)

  pub found_none : (row : ℕ) → rows ≤ row → Unfound row → first_number number test 0 rows ≡ refused 0 0
  unfolding first_number
  found_none row past now = let none' : rows - row ≡ 0 = omega arith in now.same ∙ rw none'
