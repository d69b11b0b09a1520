-- A bank with foreign exchange and commodities alone: when its book is accepted, and its figures.
-- Assumes nothing.
use Prim.Native.Nat.{ℕ, ◌+◌, ◌≤◌}
use mathlib.Core.Path.{◌≡◌, refl, sym, ap, ◌∙◌}
use mathlib.Core.Bool.{Bool, true, false}
use mathlib.Core.List.{List}
use native.Mathlib.Omega.{arith}
use lib.Dec.{eqb}
use borrow.Author.Tests.{eqb-true, eqb-false, eq-eqb, ne_eqb}
use Rattle.std.proofs.Common.{Result, Ok, Err}
use Rattle.std.specs.Result.{IsErrAnd}
use Rattle.book.specs.Counts.{counts_of}
use Rattle.book.specs.Legs.{legs_of}
use Rattle.book.specs.declared.Refusal.{Refusal}
use Rattle.book.specs.Refusals.{contents_refusal, refused, first_refusal, refusal_of}
use Rattle.book.specs.declared.reasons.Refused.{Refused}
use Rattle.book.specs.Reasons.{numbers_of, told, figure_in}
use Rattle.book.specs.Accepted.{Accepted}
use Rattle.book.proofs.Acceptance.{accepted, refused-with_none, sized_contents}
use Rattle.book.proofs.Numbers.{some_told}
use Rattle.charges.specs.declared.SmallBank.{SmallBank as Figures}
use Rattle.charges.specs.Charges.{exchange_general, simplified_commodity}
use Rattle.charges.specs.Report.{class_rows}
use Rattle.charges.specs.SmallBank.{small_number, small_refusal, small_with, small_bank_of, small_answer}
use Rattle.charges.specs.Inner.Answers.{most_total}
use Rattle.charges.proofs.Rates.{exchange_rate, simplified-rate}
use Rattle.charges.proofs.Costs.{amounts_most}

-- neither interest rows nor equity rows
abbrev pub Neither : List ℕ → Type 0
Neither s = (counts_of s).interest + (counts_of s).equity ≡ 0

module _ (s : List ℕ) where
  -- what check gives, where 20 is not given
  small_check : contents_refusal s ≡ 0 → Neither s → small_refusal s ≡ refusal_of s
  unfolding small_refusal small_number refusal_of
  small_check passed none = simp (passed, none)

  -- the contents come first
  pub small_contents : small_number s ≡ 0 → contents_refusal s ≡ 0
  unfolding small_number
  small_contents e = go (eqb (contents_refusal s) 0) refl
    where
      go : (test : Bool) → eqb (contents_refusal s) 0 ≡ test → contents_refusal s ≡ 0
      go true t = eqb-true _ _ t
      go false t = simp t at e

  -- where they are refused, and where they pass but there are rows of interest or equity
  pub small_first : (contents_refusal s ≡ 0 → ⊥) → contents_refusal s ≡ small_number s
  unfolding small_number
  small_first bad = simp (ne_eqb _ 0 bad)

  pub small_some : contents_refusal s ≡ 0 → (Neither s → ⊥) → 20 ≡ small_number s
  unfolding small_number
  small_some passed some = simp (eq-eqb _ 0 passed, ne_eqb _ 0 some)

  pub small_neither : contents_refusal s ≡ 0 → Neither s → 0 ≡ small_number s
  unfolding small_number
  small_neither passed none = simp (eq-eqb _ 0 passed, eq-eqb _ 0 none)

  -- so what is refused before the rows comes first, and where nothing is the rows decide
  pub small_before : (small_number s ≡ 0 → ⊥) → refused (small_number s) 0 ≡ small_refusal s
  unfolding small_refusal
  small_before bad = simp (ne_eqb _ 0 bad)

  pub small_rows : small_number s ≡ 0 → first_refusal 0 (legs_of s) ≡ small_refusal s
  unfolding small_refusal
  small_rows none = simp (eq-eqb _ 0 none)

  pub small_none : Accepted s → Neither s → small_refusal s ≡ refused 0 0
  small_none ok none = small_check (sized_contents s (record { contents = ok.contents; few = ok.few; sized = ok.sized })) none ∙ refused-with_none s ok

  pub small_accepted : (small_refusal s).number ≡ 0 → Accepted s × Neither s
  unfolding small_refusal small_number refused
  small_accepted e = go (eqb (contents_refusal s) 0) refl (eqb ((counts_of s).interest + (counts_of s).equity) 0) refl
    where
      go : (contents : Bool) → eqb (contents_refusal s) 0 ≡ contents → (none : Bool) → eqb ((counts_of s).interest + (counts_of s).equity) 0 ≡ none → Accepted s × Neither s
      go true c true n =
          let passed = eqb-true _ _ c in
          let neither = eqb-true _ _ n in
          (accepted s (ap (λ (r : Refusal). r.number) (sym (small_check passed neither)) ∙ e), neither)
      go true c false n = absurd (omega (arith, simp (c, n) at e))
      go false c none n = absurd (eqb-false _ _ c (simp (c, c) at e))

-- ---- the figures
module _ (s : List ℕ) where
  -- of a refused book none
  pub small_refused : (answer : Result Figures Refused) (r : Refused) → IsErrAnd answer (λ y. y ≡ r) → numbers_of r ≡ small_refusal s → small_answer answer ≡ small_bank_of s
  unfolding small_answer small_bank_of small_with told figure_in
  small_refused (Ok figures) r h e = absurd h
  small_refused (Err own) r h e = let told = ap numbers_of h ∙ e in rw told (simp (ne_eqb _ _ (some_told r e)))

  module _ (ok : Accepted s) {exchange commodity : ℕ} (is-exchange : exchange ≡ exchange_general (class_rows s 3)) (is-commodity : commodity ≡ simplified_commodity (class_rows s 4)) where
    pub small_fits : exchange + commodity ≤ most_total
    small_fits =
        omega (
          arith,
          is-exchange,
          is-commodity,
          exchange_rate (class_rows s 3),
          simplified-rate (class_rows s 4),
          amounts_most s ok 3 (omega arith) (omega arith),
          amounts_most s ok 4 (omega arith) (omega arith),
        )

    pub small_charged : refused 0 0 ≡ small_refusal s → small_answer (Ok (record { exchange = exchange; commodity = commodity; total = exchange + commodity })) ≡ small_bank_of s
    unfolding small_answer small_bank_of small_with told figure_in refused
    small_charged e = rw (← e, is-exchange, is-commodity)
