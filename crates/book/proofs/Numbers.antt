-- Reasons and their numbers: no reason has the number 0, and what an error that is passed on tells.
-- Assumes nothing.
use mathlib.Core.Path.{◌≡◌, refl, sym, ap, ◌∙◌}
use Prim.Native.Nat.{ℕ}
use native.Mathlib.Omega.{arith}
use borrow.Author.Tests.{eq-eqb, ne_eqb}
use Rattle.std.proofs.Common.{Result, Ok, Err}
use Rattle.std.specs.Result.{IsErrAnd}
use Rattle.book.specs.declared.reasons.Reason.TheVariants.{Contents, Rows, Length, Group, Kind, Days, Coupon, Sides, Amount, LadderGroup, JoinedRows, Room, IssueTerms, NetAmount, Note, OptionTable, OptionRow, TableLength, TableValues, SmallBank, Place, Limits}
use Rattle.book.specs.Refusals.{Refusal, refused, or_else}
use Rattle.book.specs.Reasons.{Reason, Refused, number_of, number_in, numbers_of, told, at_start}

pub some_number : (reason : Reason) → number_of reason ≡ 0 → ⊥
unfolding number_of
some_number Contents e = omega arith
some_number Rows e = omega arith
some_number Length e = omega arith
some_number Group e = omega arith
some_number Kind e = omega arith
some_number Days e = omega arith
some_number Coupon e = omega arith
some_number Sides e = omega arith
some_number Amount e = omega arith
some_number LadderGroup e = omega arith
some_number JoinedRows e = omega arith
some_number Room e = omega arith
some_number IssueTerms e = omega arith
some_number NetAmount e = omega arith
some_number Note e = omega arith
some_number OptionTable e = omega arith
some_number OptionRow e = omega arith
some_number TableLength e = omega arith
some_number TableValues e = omega arith
some_number SmallBank e = omega arith
some_number Place e = omega arith
some_number Limits e = omega arith

-- so that a number which is a reason's is not 0
pub some_of : (reason : Reason) {n : ℕ} → number_of reason ≡ n → n ≡ 0 → ⊥
some_of reason e none = some_number reason (e ∙ none)

pub some_told : (r : Refused) {refusal : Refusal} → numbers_of r ≡ refusal → refusal.number ≡ 0 → ⊥
unfolding numbers_of
some_told r e = some_of r.reason (ap (λ (refusal : Refusal). refusal.number) e)

pub none_told : {refusal : Refusal} → refused 0 0 ≡ refusal → refusal.number ≡ 0
unfolding refused
none_told e = ap (λ (refusal : Refusal). refusal.number) (sym e)

-- ---- an error that is passed on by a `?`
module _ {A : Type 0} where
  pub number_on : (answer : Result A Reason) (reason : Reason) {n : ℕ} → IsErrAnd answer (λ y. y ≡ reason) → number_of reason ≡ n → number_in answer ≡ n
  unfolding number_in
  number_on (Ok value) reason h e = absurd h
  number_on (Err own) reason h e = ap number_of h ∙ e

  pub told_on : (answer : Result A Refused) (r : Refused) {refusal : Refusal} → IsErrAnd answer (λ y. y ≡ r) → numbers_of r ≡ refusal → told answer ≡ refusal
  unfolding told
  told_on (Ok value) r h e = absurd h
  told_on (Err own) r h e = ap numbers_of h ∙ e

  -- a reason, which is one against no row
  pub told_at_start : (answer : Result A Refused) (reason : Reason) {n : ℕ} → IsErrAnd answer (λ y. y ≡ at_start reason) → number_of reason ≡ n → told answer ≡ refused n 0
  unfolding told numbers_of refused
  told_at_start (Ok value) reason h e = absurd h
  told_at_start (Err own) reason h e = ap numbers_of h ∙ ap (λ n. refused n 0) e

-- ---- the first of two refusals
pub or_first : (a b : ℕ) → (a ≡ 0 → ⊥) → or_else a b ≡ a
unfolding or_else
or_first a b some = simp (ne_eqb a 0 some)

pub or_next : (a b : ℕ) → a ≡ 0 → or_else a b ≡ b
unfolding or_else
or_next a b none = simp (eq-eqb a 0 none)
