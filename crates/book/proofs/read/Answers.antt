-- `book::read` meets its contract: the contents are refused, or they pass and the search gives the refusal of the rows.
use mathlib.Core.Path.{◌≡◌, sym, ◌∙◌}
use borrow.Author.Tests.{eq-eqb}
use Rattle.book.specs.Refusals.{contents_refusal, first_refusal, refusal_of}
use Rattle.book.specs.Reasons.{number_in, numbers_of, told}
use Rattle.book.proofs.Numbers.{told_on, told_at_start, some_of}
use Rattle.book.proofs.Acceptance.{contents_sized}
use Rattle.book.proofs.Handing.{refused_contents, passed_contents, passed_accepts, accepted_reads}
use Rattle.book.proofs.read.Goals as goal

pub returns-in_err-counts-clause-refusal : goal.returns-in_err-counts-clause-refusal
unfolding number_in
returns-in_err-counts-clause-refusal c =
    let found = c.in_err-counts.ensures.number in
    told_at_start _ _ c.from_residual.ensures.1 found ∙ sym (refused_contents _ (some_of _ found))

pub first_refused-requires : goal.first_refused-requires
unfolding number_in
first_refused-requires c =
    (c.in_ok-counts.ensures.counts, contents_sized _ (sym c.in_ok-counts.ensures.number))

pub returns-in_err-first_refused-clause-refusal : goal.returns-in_err-first_refused-clause-refusal
unfolding number_in told
returns-in_err-first_refused-clause-refusal c =
    told_on _ _ c.from_residual-in_err-first_refused.ensures.1 c.in_err-first_refused.ensures
    ∙ sym (passed_contents _ (sym c.in_ok-counts.ensures.number))

pub invariant_of-result : goal.invariant_of-result
unfolding number_in told
invariant_of-result c =
    record {
      accepted = passed_accepts _ (c.in_ok-first_refused.ensures ∙ sym (passed_contents _ (sym c.in_ok-counts.ensures.number)));
      own = c.in_ok-counts.ensures.counts;
    }

pub returns-clause-refusal : goal.returns-clause-refusal
unfolding number_in told
returns-clause-refusal c = c.in_ok-first_refused.ensures ∙ sym (passed_contents _ (sym c.in_ok-counts.ensures.number))

pub returns-clause-parts : goal.returns-clause-parts
unfolding number_in told
returns-clause-parts c =
    let passed = c.in_ok-first_refused.ensures ∙ sym (passed_contents _ (sym c.in_ok-counts.ensures.number)) in
    accepted_reads _ (passed_accepts _ passed) c.in_ok-counts.ensures.counts
