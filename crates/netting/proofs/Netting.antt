-- The nets put in the place of the sums, number by number.
-- Assumes nothing.
use mathlib.Core.Path.{◌≡◌, refl, ap, ◌∙◌}
use Prim.Native.Nat.{ℕ, ◌+◌, ◌≤◌, ◌<◌}
use native.Mathlib.Decide.{ℕ_discrete}
use native.Mathlib.Numerals.{lt_of_le_of_ne}
use native.Mathlib.Omega.{arith}
use lib.ListN.{set}
use Rattle.book.specs.Refusals.{most_rows}
use Rattle.ladder.specs.Position.{net}
use Rattle.amounts.specs.declared.positions.Amounts.{Amounts}
use Rattle.amounts.specs.Inner.Standing.{positions_in}
use Rattle.amounts.proofs.Tables.{put_here, put_other}
use Rattle.netting.specs.Inner.Nets.{NetsAt}

module _ (amounts₀ : Amounts) where
  -- the numbers before this one hold their nets, and the others what they held
  pub record NettedTo (row : ℕ) (amounts : Amounts) : Type 0 where
    pub each : (k : ℕ) → k < row → positions_in amounts k ≡ net (positions_in amounts₀ k)
    pub others : (k : ℕ) → row ≤ k → positions_in amounts k ≡ positions_in amounts₀ k

  pub netted_none : NettedTo 0 amounts₀
  netted_none = record { each = λ k h. let never : ⊥ = omega arith in absurd never; others = λ k h. refl }

  pub netted_next : (row : ℕ) (amounts amounts' : Amounts) → NettedTo row amounts → row < most_rows → amounts'.rows ≡ set amounts.rows row (net (positions_in amounts row))
      → NettedTo (row + 1) amounts'
  netted_next row amounts amounts' now room is =
      record {
        each = λ k h. go k (omega arith) (ℕ_discrete k row);
        others = λ k h. put_other amounts amounts' row _ is k (λ e. omega arith) ∙ now.others k (omega arith);
      }
    where
      go : (k : ℕ) → k ≤ row → Dec (k ≡ row) → positions_in amounts' k ≡ net (positions_in amounts₀ k)
      go k h (yes own) = rw own (put_here amounts amounts' row _ is room ∙ ap net (now.others row (omega arith)))
      go k h (no other) = put_other amounts amounts' row _ is k other ∙ now.each k (lt_of_le_of_ne h other)

  pub netted_all : (row : ℕ) {rows : ℕ} {amounts : Amounts} → NettedTo row amounts → rows ≤ row → NetsAt rows amounts₀ amounts
  netted_all row now past = record { each = λ k h. now.each k (omega arith) }
