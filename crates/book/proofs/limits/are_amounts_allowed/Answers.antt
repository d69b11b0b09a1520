-- `book::limits::are_amounts_allowed` meets its contract: 8 and 9 do not apply where one amount is zero and the other in its range.
use mathlib.Core.Path.{◌≡◌, sym, ◌∙◌}
use mathlib.Core.Bool.{false, beq}
use mathlib.Core.Logic.{⊎_elim, inl, inr}
use Prim.Native.Nat.{min, ◌+◌, ◌≤◌}
use native.Mathlib.Decide.{ℕ_discrete}
use native.Mathlib.Omega.{arith}
use lib.Dec.{eqb}
use borrow.Author.Tests.{eq-eqb, ne_eqb, le-ltb, lt-leb}
use Rattle.std.proofs.lemmas.Bool.Decides.{leb_tells}
use Rattle.book.specs.Rows.{Row}
use Rattle.book.specs.Refusals.{most_amount, amounts_refusal}
use Rattle.book.proofs.Passing.{amounts_clean, one_test, over_sum}
use Rattle.book.proofs.limits.are_amounts_allowed.Goals as goal

module _ (row : Row) where
  refused : (min row.long row.short ≡ 0 → 1 ≤ row.long + row.short → row.long + row.short ≤ most_amount → ⊥) → eqb (amounts_refusal row) 0 ≡ false
  refused out =
      ne_eqb _ _ (λ e.
      let clean = amounts_clean row e in
      ⊎_elim (λ h. out (omega arith) (omega arith) (omega (arith, clean.1))) (λ h. out (omega arith) (omega arith) (omega (arith, clean.1))) clean.0)

  passed : min row.long row.short ≡ 0 → 1 ≤ row.long + row.short → row.long + row.short ≤ most_amount → amounts_refusal row ≡ 0
  unfolding amounts_refusal
  passed none low high = simp (one, over_sum most_amount row.long row.short one, le-ltb _ _ high)
    where
      go : Dec (row.short ≡ 0) → beq (eqb row.long 0) (eqb row.short 0) ≡ false
      go (yes short) = one_test row.long row.short (inl (omega arith, short))
      go (no some) = one_test row.long row.short (inr (omega arith, omega arith))

      one : beq (eqb row.long 0) (eqb row.short 0) ≡ false
      one = go (ℕ_discrete row.short 0)

pub returns-then-min-ne0 : goal.returns-then-min-ne0
returns-then-min-ne0 c = sym (refused c.args.row (λ none low high. omega arith))

pub returns-else-amount-ge1 : goal.returns-else-amount-ge1
returns-else-amount-ge1 c = lt-leb 1 _ (omega arith) ∙ sym (refused c.args.row (λ none low high. omega arith))

pub returns-then-amount-ge1 : goal.returns-then-amount-ge1
returns-then-amount-ge1 c =
    let row = c.args.row in
    ⊎_elim
    (λ h. h.0 ∙ sym (eq-eqb _ 0 (passed row (omega arith) (omega arith) h.1)))
    (λ h. h.0 ∙ sym (refused row (λ none low high. omega (arith, h.1))))
    (leb_tells (row.long + row.short) most_amount)
