-- What a call that nets answers, by its refusal: the first of several, and with it the figures and the output.
-- Assumes nothing.
use mathlib.Core.Path.{◌≡◌, refl, sym, ap, ◌∙◌}
use mathlib.Core.List.{List}
use Prim.Native.Nat.{ℕ}
use lib.ListN.{length}
use Rattle.std.proofs.Common.{Result, Ok, Err}
use Rattle.std.specs.Result.{IsErrAnd}
use Rattle.book.specs.declared.Refusal.{Refusal}
use Rattle.book.specs.declared.Refused.{Refused}
use Rattle.book.specs.Legs.{legs_of}
use Rattle.book.specs.Refusals.{refused, refusal_of}
use Rattle.book.specs.Reasons.{numbers_of, told, figure_in}
use Rattle.book.specs.Accepted.{Accepted}
use Rattle.book.proofs.Numbers.{some_told}
use Rattle.book.proofs.Acceptance.{refused-with_none}
use Rattle.layout.specs.Room.{Written, or_next, room_refusal, written_answer, written_of, output_of}
use Rattle.layout.proofs.Room.{or_first, or_next_lem, no_figure, whole_figure, output_kept}
use Rattle.netting.specs.declared.Netted.{Netted as Figures}
use Rattle.netting.specs.Netted.{differing_refusal, over_refusal, issues_refusal, netting_answer, netted_answer}

-- ---- the book's own refusal, and else 13 and 14
module _ (s : List ℕ) {refusal : Refusal} where
  pub refused-book : refusal ≡ refusal_of s → (refusal.number ≡ 0 → ⊥) → issues_refusal s ≡ refusal
  unfolding issues_refusal
  refused-book own some = rw (← own) (or_first refusal _ some)

  pub refused-issues : Accepted s → refusal ≡ or_next (differing_refusal (legs_of s)) (over_refusal (legs_of s)) → issues_refusal s ≡ refusal
  unfolding issues_refusal refused
  refused-issues ok found = or_next_lem (refusal_of s) _ (ap (λ (r : Refusal). r.number) (refused-with_none s ok)) ∙ sym found

-- ---- the answer, where a refusal comes before 12
module _ (own : Refusal) (book out : List ℕ) (comparisons : ℕ) where
  abbrev last : Refusal
  last = or_next own (room_refusal (length book) (length out))

  pub record Answers (answer : Result Figures Refused) (after : List ℕ) : Type 0 where
    pub is : netting_answer answer ≡ netted_answer last book comparisons
    pub output : after ≡ output_of last book out

  -- an error that is passed on
  pub passed_on : {answer : Result Figures Refused} {r : Refused} {after : List ℕ} → IsErrAnd answer (λ e. e ≡ r) → Answers (Err r) after → Answers answer after
  passed_on {answer = Ok _} h answers = absurd h
  passed_on {answer = Err e} h answers = record { is = ap (λ (r : Refused). netting_answer (Err r)) h ∙ answers.is; output = answers.output }

  with_refusal : (r : Refused) → last ≡ numbers_of r → Answers (Err r) out
  unfolding netted_answer told figure_in
  with_refusal r e =
      record {
        is = rw (e, no_figure (numbers_of r) (some_told r refl) (length book), no_figure (numbers_of r) (some_told r refl) comparisons);
        output = rw e (sym (output_kept (numbers_of r) (some_told r refl) book out));
      }

  -- refused before the output is looked at
  pub turned-away : (r : Refused) → own ≡ numbers_of r → Answers (Err r) out
  turned-away r e = with_refusal r (rw e (or_first (numbers_of r) _ (some_told r refl)))

  -- the book written, or 12
  module _ (none : own ≡ refused 0 0) where
    found : last ≡ room_refusal (length book) (length out)
    unfolding refused
    found = or_next_lem own _ (ap (λ (r : Refusal). r.number) none)

    pub too_short : (r : Refused) → written_answer (Err r) ≡ written_of (room_refusal (length book) (length out)) book
        → {after : List ℕ} → after ≡ output_of (room_refusal (length book) (length out)) book out → Answers (Err r) after
    unfolding written_of told
    too_short r is after-is =
        let twelve : room_refusal (length book) (length out) ≡ numbers_of r = ap (λ (w : Written). w.refusal) (sym is) in
        rw (after-is, twelve, output_kept (numbers_of r) (some_told r refl) book out) (with_refusal r (found ∙ twelve))

    pub carried_out : (n : ℕ) → written_answer (Ok n) ≡ written_of (room_refusal (length book) (length out)) book
        → {after : List ℕ} → after ≡ output_of (room_refusal (length book) (length out)) book out → Answers (Ok (record { length = n; comparisons = comparisons })) after
    unfolding netted_answer written_of told figure_in refused
    carried_out n is after-is =
        let enough : room_refusal (length book) (length out) ≡ refused 0 0 = ap (λ (w : Written). w.refusal) (sym is) in
        let long : n ≡ length book = ap (λ (w : Written). w.length) is ∙ rw enough (whole_figure (refused 0 0) refl (length book)) in
        record {
          is = rw (found, enough, whole_figure (refused 0 0) refl (length book), whole_figure (refused 0 0) refl comparisons, long);
          output = after-is ∙ rw found;
        }
