-- `charges::ladder_sums` meets its contract: refused, or the sums of the group's rows in the class's part of the book.
use Rattle.std.proofs.Common.{◌≡◌, ap, ◌∙◌, ℕ, List}
use Rattle.book.specs.Counts.{body_of}
use Rattle.book.specs.Reasons.{told}
use Rattle.book.proofs.Numbers.{told_on}
use Rattle.book.proofs.Handing.{passed_accepts}
use Rattle.charges.proofs.Reading.{body_clean, sums_given, ladder_told, group_refused, group_passed}
use Rattle.charges.proofs.ladder_sums.Goals.{After-body-part}
use Rattle.charges.proofs.ladder_sums.Goals as goal

-- the part that is read is the class's
part_is : (c : After-body-part) → c.body-part.result.now ≡ body_of c.args.book.now c.args.class
part_is c = c.body-part.ensures ∙ ap (λ (s : List ℕ). body_of s c.args.class) c.in_ok-read.ensures.bytes

pub returns-in_err-ladder_group-clause-refusal : goal.returns-in_err-ladder_group-clause-refusal
returns-in_err-ladder_group-clause-refusal c =
    let wrong = c.in_err-ladder_group.ensures in
    told_on _ _ c.from_residual.ensures.1 (ladder_told _ wrong.0 ∙ group_refused _ wrong.1)

pub returns-in_err-read-clause-refusal : goal.returns-in_err-read-clause-refusal
unfolding told
returns-in_err-read-clause-refusal c =
    told_on _ _ c.from_residual-in_err-read.ensures.1 (c.in_err-read.ensures.refusal ∙ group_passed _ c.in_ok-ladder_group.ensures)

pub tally-requires : goal.tally-requires
unfolding told
tally-requires c =
    rw (part_is (goal.at.tally-requires c).After-body-part)
    (body_clean c.args.book.now (passed_accepts _ c.in_ok-read.ensures.refusal) c.args.class c.requires.0 c.requires.1)

pub returns-clause-refusal : goal.returns-clause-refusal
unfolding told
returns-clause-refusal c = c.in_ok-read.ensures.refusal ∙ group_passed _ c.in_ok-ladder_group.ensures

pub returns-clause-given : goal.returns-clause-given
unfolding told
returns-clause-given c =
    sums_given c.args.book.now (passed_accepts _ c.in_ok-read.ensures.refusal) c.args.class c.requires.0 c.requires.1
    (rw (part_is (goal.at.returns-clause-given c).After-body-part) at c.tally.ensures)
