-- `book::limits::check_terms` meets its contract: the limits are chosen first, and each test gives what the definition does.
use mathlib.Core.Path.{◌≡◌, sym, ap, ◌∙◌}
use mathlib.Core.Bool.{Bool, true, false, cond}
use Rattle.std.proofs.Common.{Err}
use Rattle.book.specs.declared.reasons.Reason.TheVariants.{Note}
use Rattle.book.specs.Reasons.{Reason, number_of, number_in}
use Rattle.book.specs.Refusals.{most_days, most_coupon, most_fixing, most_final}
use Rattle.book.proofs.Terms.{days_over, coupon_over, ends_early, none_refused, terms_answer}
use Rattle.book.proofs.limits.check_terms.Goals.{After-either, After-either-2}
use Rattle.book.proofs.limits.check_terms.Goals as goal

-- the number of a reason that is chosen by the kind
reason_either : (note : Bool) (plain reason : Reason) → reason ≡ cond note Note plain → number_in {A = Unit} (Err reason) ≡ cond note 15 (number_of plain)
unfolding number_in number_of
reason_either true plain reason e = ap number_of e
reason_either false plain reason e = ap number_of e

-- the limit of days, and that of bytes 4-5
days_limit : (at : After-either) → at.either.result ≡ cond at.is_floating-note.result most_fixing (most_days at.args.class)
days_limit at = at.either.ensures ∙ ap (cond at.is_floating-note.result most_fixing) at.most_days.ensures

abbrev days_of : After-either-2 → After-either
days_of at = at.before.before.before.before

coupon_limit : (at : After-either-2)
    → at.either-2.result ≡ cond (days_of at).is_floating-note.result most_final (most_coupon (days_of at).args.class)
coupon_limit at = at.either-2.ensures ∙ ap (cond (days_of at).is_floating-note.result most_final) at.most_coupon.ensures

pub returns-then-either-row : goal.returns-then-either-row
unfolding number_of
returns-then-either-row c =
    reason_either c.is_floating-note.result _ _ c.either-then-either-row.ensures
    ∙ sym (days_over c.is_floating-note.result c.args.row.days c.args.row.coupon _ _ _ (rw (days_limit (goal.at.returns-then-either-row c).After-either) at c.if-either-row.true))
    ∙ terms_answer c.args.class c.args.row _ c.is_floating-note.ensures

pub returns-then-either-row-2 : goal.returns-then-either-row-2
unfolding number_of
returns-then-either-row-2 c =
    reason_either c.is_floating-note.result _ _ c.either-then-either-row-2.ensures
    ∙ sym (coupon_over c.is_floating-note.result c.args.row.days c.args.row.coupon _ _ _
    (rw (days_limit (goal.at.returns-then-either-row-2 c).After-either) at c.if-either-row.false) (rw (coupon_limit (goal.at.returns-then-either-row-2 c).After-either-2) at c.if-either-row-2.true))
    ∙ terms_answer c.args.class c.args.row _ c.is_floating-note.ensures

pub returns-then-row-either : goal.returns-then-row-either
unfolding number_in number_of
returns-then-row-either c =
    sym (ends_early c.is_floating-note.result c.args.row.days c.args.row.coupon _ _ _
    (rw (days_limit (goal.at.returns-then-row-either c).After-either) at c.if-either-row.false) (rw (coupon_limit (goal.at.returns-then-row-either c).After-either-2) at c.if-either-row-2.false) (rw c.either-3.ensures at c.if-row-either.true))
    ∙ terms_answer c.args.class c.args.row _ c.is_floating-note.ensures

pub returns : goal.returns
unfolding number_in
returns c =
    sym (none_refused c.is_floating-note.result c.args.row.days c.args.row.coupon _ _ _
    (rw (days_limit (goal.at.returns c).After-either) at c.if-either-row.false) (rw (coupon_limit (goal.at.returns c).After-either-2) at c.if-either-row-2.false) (rw c.either-3.ensures at c.if-row-either.false))
    ∙ terms_answer c.args.class c.args.row _ c.is_floating-note.ensures
