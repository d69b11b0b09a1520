-- Amounts put at one number: what stands there, and at the others.
-- Assumes nothing.
use mathlib.Core.Path.{◌≡◌}
use Prim.Native.Nat.{ℕ, ◌<◌}
use native.Mathlib.Omega.{arith}
use lib.ListN.{set}
use lib.Seq.{get_or-set_same, get_or-set_other}
use Rattle.book.specs.Refusals.{most_rows}
use Rattle.ladder.specs.declared.positions.Position.{Position}
use Rattle.ladder.specs.Position.{empty}
use Rattle.amounts.specs.declared.positions.Amounts.{Amounts}
use Rattle.amounts.specs.Inner.Standing.{positions_in}

module _ (amounts amounts' : Amounts) (at : ℕ) (position : Position) (is : amounts'.rows ≡ set amounts.rows at position) where
  pub put_here : at < most_rows → positions_in amounts' at ≡ position
  put_here room = rw is (get_or-set_same amounts.rows at position empty (omega (arith, amounts.sized)))

  pub put_other : (k : ℕ) → (k ≡ at → ⊥) → positions_in amounts' k ≡ positions_in amounts k
  put_other k other = rw is (get_or-set_other amounts.rows at k position empty other)
