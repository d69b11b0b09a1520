-- `book::limits::check_group` meets its contract: each test is the definition's, in its order.
use borrow.Author.Tests.{lt-ltb, le-ltb}
use Rattle.book.specs.Reasons.{number_of, number_in}
use Rattle.book.specs.Refusals.{group_refusal}
use Rattle.book.proofs.limits.check_group.Goals as goal

pub returns-then-row-gt-LAST_GROUP : goal.returns-then-row-gt-LAST_GROUP
unfolding group_refusal number_in number_of
returns-then-row-gt-LAST_GROUP c = simp (lt-ltb _ _ c.if-row-gt-LAST_GROUP.true)

pub returns-then-wrong_kind : goal.returns-then-wrong_kind
unfolding group_refusal number_in number_of
returns-then-wrong_kind c = simp (le-ltb _ _ c.if-row-gt-LAST_GROUP.false, ← c.wrong_kind.ensures, c.if-wrong_kind.true)

pub returns : goal.returns
unfolding group_refusal number_in
returns c = simp (le-ltb _ _ c.if-row-gt-LAST_GROUP.false, ← c.wrong_kind.ensures, c.if-wrong_kind.false)
