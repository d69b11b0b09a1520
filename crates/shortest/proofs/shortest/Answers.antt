-- `shortest::shortest` meets its contract: nothing is written of a book that is accepted or refused with 1.
-- Assumes nothing.
use mathlib.Core.Path.{◌≡◌, refl, sym, ap, ◌∙◌}
use mathlib.Core.Bool.{true}
use mathlib.Core.Logic.{inl, inr}
use mathlib.Core.List.{[]}
use Prim.Native.Nat.{◌≤◌}
use native.Mathlib.Omega.{arith}
use borrow.Author.Tests.{eq-eqb}
use Rattle.book.specs.declared.Refusal.{Refusal}
use Rattle.book.specs.declared.reasons.Reason.{Reason}
use Rattle.book.specs.declared.reasons.Reason.TheVariants.{Contents, Rows, Length, Group, Kind, Days, Coupon, Sides, Amount, LadderGroup, JoinedRows, Room, IssueTerms, NetAmount, Note, OptionTable, OptionRow, TableLength, TableValues, SmallBank, Place, Limits}
use Rattle.book.specs.Refusals.{refusal_of}
use Rattle.book.specs.Reasons.{number_of, numbers_of, told}
use Rattle.book.specs.Parts.{accepts}
use Rattle.book.proofs.Numbers.{none_told}
use Rattle.layout.proofs.Writing.{written-nothing}
use Rattle.shortest.specs.Shortest.{shortest_answer}
use Rattle.shortest.proofs.Outcome.{file_none, not_accepted, wrote}
use Rattle.shortest.proofs.shortest.Goals as goal

-- a reason against a row
row_reason : (reason : Reason) → (reason ≡ Contents → ⊥) → (reason ≡ Rows → ⊥) → (reason ≡ Length → ⊥) → 4 ≤ number_of reason
unfolding number_of
row_reason Contents a b c = absurd (a refl)
row_reason Rows a b c = absurd (b refl)
row_reason Length a b c = absurd (c refl)
row_reason Group a b c = omega arith
row_reason Kind a b c = omega arith
row_reason Days a b c = omega arith
row_reason Coupon a b c = omega arith
row_reason Sides a b c = omega arith
row_reason Amount a b c = omega arith
row_reason LadderGroup a b c = omega arith
row_reason JoinedRows a b c = omega arith
row_reason Room a b c = omega arith
row_reason IssueTerms a b c = omega arith
row_reason NetAmount a b c = omega arith
row_reason Note a b c = omega arith
row_reason OptionTable a b c = omega arith
row_reason OptionRow a b c = omega arith
row_reason TableLength a b c = omega arith
row_reason TableValues a b c = omega arith
row_reason SmallBank a b c = omega arith
row_reason Place a b c = omega arith
row_reason Limits a b c = omega arith

-- of an accepted book nothing is written
pub returns-in_default : goal.returns-in_default
unfolding shortest_answer told accepts
returns-in_default c =
    let s = c.args.book.now in
    let none : (refusal_of s).number ≡ 0 = none_told c.in_default.ensures in
    let both = wrote s c.args.out.now [] (file_none s (omega arith)) 0 refl true (eq-eqb _ _ none) (omega arith) (sym (written-nothing c.args.out.now 0)) in
    record { answer = both.0; output = both.1 }

-- of one refused with 1 neither
pub returns-in-Contents : goal.returns-in-Contents
unfolding shortest_answer told numbers_of number_of
returns-in-Contents c =
    let s = c.args.book.now in
    let one : 1 ≡ (refusal_of s).number = sym (ap number_of c.in-Contents.is) ∙ ap (λ (r : Refusal). r.number) c.in-Err.ensures in
    let both = wrote s c.args.out.now [] (file_none s (omega arith)) 0 refl _ (not_accepted s (omega arith)) (omega arith) (sym (written-nothing c.args.out.now 0)) in
    record { answer = both.0; output = both.1 }

pub show_contents-requires : goal.show_contents-requires
unfolding told numbers_of number_of
show_contents-requires c =
    let number : number_of c.in-Err.found.reason ≡ (refusal_of c.args.book.now).number = ap (λ (r : Refusal). r.number) c.in-Err.ensures in
    elim c.in-Rows.is [
      | inl two ↦ let is = ap number_of two in (omega arith, omega arith)
      | inr three ↦ let is = ap number_of three in (omega arith, omega arith)
    ]

pub show_row-requires : goal.show_row-requires
unfolding told numbers_of
show_row-requires c =
    let many = row_reason c.in-Err.found.reason c.in_default-reason.not-Contents c.in_default-reason.not-Rows c.in_default-reason.not-Length in
    (omega (arith, ap (λ (r : Refusal). r.number) c.in-Err.ensures), c.from.ensures ∙ ap (λ (r : Refusal). r.row) c.in-Err.ensures)
