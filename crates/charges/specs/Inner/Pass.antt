-- What one pass over a book's rows gives: the refusal, the rows taken, and the sums of the rows before the first bad one.
use Rattle.std.specs.Prelude.{ℕ, ◌≡◌, cond, List, Result, IfOk, eqb, length, take}
use Rattle.book.specs.Legs.{Leg}
use Rattle.book.specs.declared.reasons.Refused.{Refused}
use Rattle.book.specs.Reasons.{told}
use Rattle.book.specs.declared.Refusal.{Refusal}
use Rattle.book.specs.Refusals.{row_refusal}
use Rattle.charges.specs.Inner.Slots.{Sums, LegSums, with_leg}

-- one row: refused, and the sums as they were; or added
pub record Took (leg : Leg) (number : ℕ) (old new : Sums) : Type 0 where
  pub is : number ≡ row_refusal leg.class leg.row
  pub added : number ≡ 0 → new ≡ with_leg leg old
  pub kept : (number ≡ 0 → ⊥) → new ≡ old

-- the legs before the first bad one: all where there is none
unfoldable pub passed : Refusal → List Leg → List Leg
passed refusal legs = take (cond (eqb refusal.number 0) (length legs) refusal.row) legs

-- the refusal of some legs, or how many were taken: all of them (P4); and the sums of those before the first bad one
pub record PassOf (refusal : Refusal) (legs : List Leg) (answer : Result ℕ Refused) (sums : Sums) : Type 0 where
  pub is_refusal : told answer ≡ refusal
  pub all : IfOk answer (λ rows. rows ≡ length legs)
  pub sums_are : LegSums (passed refusal legs) sums.positions sums.specifics sums.rows
