-- The book of the deltas: its rows, its length, and that it is accepted.
-- Assumes nothing.
use mathlib.Core.Path.{◌≡◌, refl, ◌∙◌}
use mathlib.Core.Bool.{Bool, true, false, cond}
use mathlib.Core.Logic.{◌⊎◌, inl, inr}
use mathlib.Core.List.{List, [], ◌∷◌}
use Prim.Native.Nat.{ℕ, ◌+◌, ◌≤◌, ◌<◌}
use native.Mathlib.Omega.{arith}
use lib.Dec.{eqb}
use lib.ListN.{length}
use borrow.Author.Tests.{eqb-true, eqb-false, ne_eqb}
use Rattle.sums.specs.Sums.{sum_of}
use Rattle.sums.specs.Every.{Every, none, also}
use Rattle.sums.proofs.Cases.{either}
use Rattle.book.specs.declared.Row.{Row}
use Rattle.book.specs.Counts.{count_of_rows}
use Rattle.book.specs.Legs.{Leg, of_class}
use Rattle.book.specs.Refusals.{most_amount, floating}
use Rattle.book.specs.Accepted.{Clean, Accepted, plain}
use Rattle.book.proofs.Placing.{of_four}
use Rattle.layout.specs.Files.{counts_by, book_of}
use Rattle.layout.proofs.Rows.{book_legs, book_accepted}
use Rattle.charges.specs.Report.{class_rows}
use Rattle.options.specs.Table.{OptionRow}
use Rattle.options.specs.Refusals.{most_options}
use Rattle.options.specs.Delta.{is_long, delta_amount, delta_leg, delta_legs, delta_book}
use Rattle.options.specs.Accepted.{Allowed}
use Rattle.options.proofs.Rounding.{delta_within, delta_some}

-- ---- the row of an option
-- no row of an option is a floating-rate note, since none is of interest
not_floating : (class kind : ℕ) → 2 ≤ class → floating class kind ≡ false
unfolding floating
not_floating class kind from = simp (ne_eqb class 1 (λ e. omega arith))

leg-clean : (option : OptionRow) → Allowed option → 1 ≤ option.delta → Clean option.class (delta_leg option).row
unfolding delta_leg
leg-clean option ok some =
    let amount = delta_amount option in
    let within : amount ≤ most_amount = omega (arith, delta_within option ok.delta, ok.amount_to) in
    record {
      group = ok.group;
      kind_from = ok.kind_from;
      kind_to = ok.kind_to;
      terms = plain (not_floating option.class option.kind ok.class_from) ok.days (omega arith);
      one_side = sides (is_long option) amount (delta_some option ok.amount_from some);
      long = either (is_long option) amount 0 within (omega arith);
      short = either (is_long option) 0 amount (omega arith) within;
    }
  where
    sides : (test : Bool) (n : ℕ) → 1 ≤ n → ((0 < cond test n 0) × (cond test 0 n ≡ 0)) ⊎ ((cond test n 0 ≡ 0) × (0 < cond test 0 n))
    sides true n h = inl (h, refl)
    sides false n h = inr (refl, h)

-- ---- all rows, without those of delta 0
-- a clean row of a class that options may have
pub record CleanLeg (leg : Leg) : Type 0 where
  pub class_from : 2 ≤ leg.class
  pub class_to : leg.class ≤ 4
  pub clean : Clean leg.class leg.row

pub legs_clean : {options : List OptionRow} → Every Allowed options → Every CleanLeg (delta_legs options)
unfolding delta_legs delta_leg
legs_clean none = none
legs_clean (also {a} {rest} ok later) = go (eqb a.delta 0) refl (legs_clean later)
  where
    go : (test : Bool) → eqb a.delta 0 ≡ test → Every CleanLeg (delta_legs rest) → Every CleanLeg (cond test (delta_legs rest) (delta_leg a ∷ delta_legs rest))
    go true t clean = clean
    go false t clean = also (record { class_from = ok.class_from; class_to = ok.class_to; clean = leg-clean a ok (omega (arith, eqb-false a.delta 0 t)) }) clean

-- how many rows an option has
abbrev pub rows_for : OptionRow → ℕ
rows_for option = cond (eqb option.delta 0) 0 1

legs_many : (options : List OptionRow) → length (delta_legs options) ≡ sum_of rows_for options
unfolding delta_legs sum_of
legs_many [] = refl
legs_many (option ∷ options) = go (eqb option.delta 0) (legs_many options)
  where
    go : (test : Bool) → length (delta_legs options) ≡ sum_of rows_for options
        → length (cond test (delta_legs options) (delta_leg option ∷ delta_legs options)) ≡ cond test 0 1 + sum_of rows_for options
    go true later = omega arith
    go false later = omega arith

rows_few : (options : List OptionRow) → sum_of rows_for options ≤ length options
unfolding sum_of
rows_few [] = omega arith
rows_few (option ∷ options) = omega (arith, either {bound = 1} (eqb option.delta 0) 0 1 (omega arith) (omega arith), rows_few options)

-- ---- the rows of a class
one_more : (row : Row) (legs : List Leg) (class : ℕ) → 1 ≤ class → class ≤ 4
    → count_of_rows (counts_by (λ k. of_class k (record { class = class; row = row } ∷ legs))) ≡ count_of_rows (counts_by (λ k. of_class k legs)) + 1
unfolding count_of_rows counts_by of_class
one_more row legs =
    of_four (λ class. count_of_rows (counts_by (λ k. of_class k (record { class = class; row = row } ∷ legs))) ≡ count_of_rows (counts_by (λ k. of_class k legs)) + 1)
    (omega arith) (omega arith) (omega arith) (omega arith)

all_counted : {legs : List Leg} → Every CleanLeg legs → count_of_rows (counts_by (λ class. of_class class legs)) ≡ length legs
unfolding count_of_rows counts_by of_class
all_counted none = refl
all_counted (also {a} {rest} ok later) = one_more a.row rest a.class (omega (arith, ok.class_from)) ok.class_to ∙ omega (arith, all_counted later)

class_clean : (class : ℕ) {legs : List Leg} → Every CleanLeg legs → Every (Clean class) (of_class class legs)
unfolding of_class
class_clean class none = none
class_clean class (also {a} {rest} ok later) = go (eqb a.class class) refl (class_clean class later)
  where
    go : (test : Bool) → eqb a.class class ≡ test → Every (Clean class) (of_class class rest) → Every (Clean class) (cond test (a.row ∷ of_class class rest) (of_class class rest))
    go true t clean = also (rw (eqb-true a.class class t) at ok.clean) clean
    go false t clean = clean

pub no_interest_lem : {legs : List Leg} → Every CleanLeg legs → of_class 1 legs ≡ []
unfolding of_class
no_interest_lem none = refl
no_interest_lem (also {a} ok later) = simp (ne_eqb a.class 1 (λ e. omega (arith, ok.class_from))) (no_interest_lem later)

-- ---- the book
module _ (options : List OptionRow) where
  pub delta_rows_lem : (class : ℕ) → 1 ≤ class → class ≤ 4 → class_rows (delta_book options) class ≡ of_class class (delta_legs options)
  unfolding delta_book book_of
  delta_rows_lem = book_legs (λ class. of_class class (delta_legs options))

  module _ (ok : Every Allowed options) where
    delta_counts_lem : count_of_rows (counts_by (λ class. of_class class (delta_legs options))) ≡ sum_of rows_for options
    delta_counts_lem = all_counted (legs_clean ok) ∙ legs_many options

    -- none of interest
    pub delta_interest : class_rows (delta_book options) 1 ≡ []
    delta_interest = delta_rows_lem 1 (omega arith) (omega arith) ∙ no_interest_lem (legs_clean ok)

    pub delta_accepted : length options ≤ most_options → Accepted (delta_book options)
    unfolding delta_book book_of
    delta_accepted few =
        book_accepted (λ class. of_class class (delta_legs options)) (omega (arith, delta_counts_lem, rows_few options))
        (λ class low high. class_clean class (legs_clean ok))
