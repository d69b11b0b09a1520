-- From what was read of a book to the answers of the ladder calls.
-- Assumes nothing.
use mathlib.Core.Path.{◌≡◌, refl, sym, ap, subst, ◌∙◌}
use mathlib.Core.Bool.{true, cond}
use mathlib.Core.List.{List}
use Prim.Native.Nat.{ℕ, ◌≤◌, ◌<◌}
use native.Mathlib.Omega.{arith}
use lib.Dec.{eqb}
use borrow.Author.Tests.{lt-ltb, le-ltb, eq-eqb, ne_eqb}
use Rattle.std.proofs.Common.{Result, Ok, Err}
use Rattle.std.specs.Result.{IsErrAnd}
use Rattle.sums.proofs.Cases.{either}
use Rattle.book.specs.declared.Counts.{Counts}
use Rattle.book.specs.Counts.{count_in, count_of_rows, counts_of, body_of}
use Rattle.book.specs.declared.Refusal.{Refusal}
use Rattle.book.specs.Refusals.{last_group, refused, refusal_of}
use Rattle.book.specs.declared.reasons.Reason.{Reason}
use Rattle.book.specs.declared.reasons.Reason.TheVariants.{LadderGroup}
use Rattle.book.specs.declared.reasons.Refused.{Refused}
use Rattle.book.specs.Reasons.{number_of, numbers_of, told, at_start}
use Rattle.book.specs.Inner.Reading.{part_rows}
use Rattle.book.specs.Parts.{accepts, part_of}
use Rattle.book.proofs.Numbers.{none_told, some_told, told_on}
use Rattle.book.proofs.Handing.{accepted_reads, part_accepted}
use Rattle.ladder.specs.declared.positions.Position.{Position}
use Rattle.ladder.specs.declared.InterestFigures.{InterestFigures}
use Rattle.ladder.specs.declared.CommodityFigures.{CommodityFigures}
use Rattle.table.specs.Loaded.{table_refusal, table_of}
use Rattle.charges.specs.Charges.{interest_figures_of, commodity_figures_of}
use Rattle.charges.specs.Report.{class_rows, before, ladder_refusal, figures_or, no_interest, no_commodity, InterestLadder, CommodityLadder, interest_answer, commodity_answer, interest_ladder_of, commodity_ladder_of}
use Rattle.charges.specs.Inner.Ladders.{CleanPart, GroupSums}
use Rattle.charges.specs.Inner.Answers.{SumsGiven}

-- ---- a part that was read
-- no class has more rows than all
part_within : (counts : Counts) (class : ℕ) → count_in counts class ≤ count_of_rows counts
unfolding count_in count_of_rows
part_within counts class =
    either (eqb class 1) counts.interest _ (omega arith)
    (either (eqb class 2) counts.equity _ (omega arith)
    (either (eqb class 3) counts.exchange _ (omega arith) (either (eqb class 4) counts.commodity 0 (omega arith) (omega arith))))

-- a class's part of an accepted book: its rows are clean, and are those of the class
module _ (s : List ℕ) (ok : accepts s ≡ true) (class : ℕ) (low : 1 ≤ class) (high : class ≤ 4) where
  part_clean : CleanPart class (part_of s class)
  part_clean =
      let read = accepted_reads s ok refl in
      record { clean = read.clean class low high; few = omega (arith, read.sizes class, read.few, part_within (counts_of s) class) }

  pub body_clean : CleanPart class (body_of s class)
  body_clean = subst (CleanPart class) (part_accepted s class ok) part_clean

  pub sums_given : {group : ℕ} {positions : List Position} → GroupSums class group (part_rows (body_of s class)) positions → SumsGiven s class group positions
  sums_given sums =
      let rows : part_rows (body_of s class) ≡ class_rows s class = ap part_rows (sym (part_accepted s class ok)) ∙ (accepted_reads s ok refl).rows class low high in
      record { clean = rw (← rows) body_clean.clean; few = rw (← rows) body_clean.few; sums = rw (← rows) sums }

-- ---- a reason against no row, in numbers
pub start_told : (reason : Reason) {n : ℕ} → number_of reason ≡ n → numbers_of (at_start reason) ≡ refused n 0
unfolding numbers_of refused
start_told reason e = ap (λ n. refused n 0) e

pub ladder_told : (reason : Reason) → reason ≡ LadderGroup → numbers_of (at_start reason) ≡ refused 10 0
unfolding number_of
ladder_told reason e = start_told reason (ap number_of e)

-- ---- what a ladder call refuses: a wrong group first, then by a number that comes before the book
pub group_refused : (refusal : Refusal) {group : ℕ} → last_group < group → refused 10 0 ≡ ladder_refusal refusal group
unfolding ladder_refusal
group_refused refusal {group} over = simp (lt-ltb last_group group over)

pub group_passed : (refusal : Refusal) {group : ℕ} → group ≤ last_group → refusal ≡ ladder_refusal refusal group
unfolding ladder_refusal
group_passed refusal {group} range = simp (le-ltb last_group group range)

pub number_first : (number : ℕ) (refusal : Refusal) → (number ≡ 0 → ⊥) → refused number 0 ≡ before number refusal
unfolding before
number_first number refusal some = simp (ne_eqb number 0 some)

pub number_none : (number : ℕ) (refusal : Refusal) → number ≡ 0 → refusal ≡ before number refusal
unfolding before
number_none number refusal none = simp (eq-eqb number 0 none)

-- ---- the figures of an answer, by its refusal
module _ {A : Type 0} (figures none : A) where
  figures_refused : (answer : Result A Refused) (r : Refused) {refusal : Refusal} → IsErrAnd answer (λ y. y ≡ r) → numbers_of r ≡ refusal → figures_or none answer ≡ cond (eqb refusal.number 0) figures none
  unfolding figures_or
  figures_refused (Ok value) r h e = absurd h
  figures_refused (Err own) r h e = simp (ne_eqb _ _ (some_told r e))

  figures_given : (refusal : Refusal) → refusal.number ≡ 0 → figures ≡ cond (eqb refusal.number 0) figures none
  figures_given refusal good = simp (eq-eqb _ _ good)

-- ---- the answers, field by field
pub same_interest : {refusal refusal' : Refusal} {figures figures' : InterestFigures} → refusal ≡ refusal' → figures ≡ figures'
    → ◌≡◌ {A = InterestLadder} (record { refusal = refusal; figures = figures }) (record { refusal = refusal'; figures = figures' })
same_interest e f = λ i. record { refusal = e i; figures = f i }

pub same_commodity : {refusal refusal' : Refusal} {figures figures' : CommodityFigures} → refusal ≡ refusal' → figures ≡ figures'
    → ◌≡◌ {A = CommodityLadder} (record { refusal = refusal; figures = figures }) (record { refusal = refusal'; figures = figures' })
same_commodity e f = λ i. record { refusal = e i; figures = f i }

module _ (table s : List ℕ) (group : ℕ) where
  abbrev interest_refusal : Refusal
  interest_refusal = ladder_refusal (before (table_refusal table) (refusal_of s)) group

  pub interest_refused : (answer : Result InterestFigures Refused) (r : Refused) → IsErrAnd answer (λ y. y ≡ r) → numbers_of r ≡ interest_refusal → interest_answer answer ≡ interest_ladder_of table s group
  unfolding interest_answer interest_ladder_of
  interest_refused answer r h e =
      same_interest (told_on answer r h e) (figures_refused (interest_figures_of (table_of table) group (class_rows s 1)) no_interest answer r h e)

  pub interest_given : {figures : InterestFigures} → refused 0 0 ≡ interest_refusal → figures ≡ interest_figures_of (table_of table) group (class_rows s 1)
      → interest_answer (Ok figures) ≡ interest_ladder_of table s group
  unfolding interest_answer interest_ladder_of figures_or told
  interest_given e f = same_interest e (f ∙ figures_given (interest_figures_of (table_of table) group (class_rows s 1)) no_interest interest_refusal (none_told e))

module _ (s : List ℕ) (group : ℕ) where
  abbrev commodity_refusal : Refusal
  commodity_refusal = ladder_refusal (refusal_of s) group

  pub commodity_refused : (answer : Result CommodityFigures Refused) (r : Refused) → IsErrAnd answer (λ y. y ≡ r) → numbers_of r ≡ commodity_refusal → commodity_answer answer ≡ commodity_ladder_of s group
  unfolding commodity_answer commodity_ladder_of
  commodity_refused answer r h e =
      same_commodity (told_on answer r h e) (figures_refused (commodity_figures_of group (class_rows s 4)) no_commodity answer r h e)

  pub commodity_given : {figures : CommodityFigures} → refused 0 0 ≡ commodity_refusal → figures ≡ commodity_figures_of group (class_rows s 4)
      → commodity_answer (Ok figures) ≡ commodity_ladder_of s group
  unfolding commodity_answer commodity_ladder_of figures_or told
  commodity_given e f = same_commodity e (f ∙ figures_given (commodity_figures_of group (class_rows s 4)) no_commodity commodity_refusal (none_told e))
