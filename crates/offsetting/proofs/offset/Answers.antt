-- `offsetting::offset` meets its contract: a refused book is refused here too, and of another the rows' own amounts without the pairs that fit are written.
use mathlib.Core.Path.{subst}
use mathlib.Core.List.{List}
use Prim.Native.Nat.{ℕ}
use Rattle.book.specs.Reasons.{told}
use Rattle.book.proofs.Acceptance.{accepts_accepted}
use Rattle.amounts.proofs.Outcome.{stands_written, stands_output_by_room}
use Rattle.offsetting.specs.Offset.{offset_book}
use Rattle.offsetting.proofs.Outcome.{Answers, offset_stands, turned-away, carried_out}
use Rattle.offsetting.proofs.offset.Goals.{In_err-book, After-write_book}
use Rattle.offsetting.proofs.offset.Goals as goal

pub returns-in_err-book : goal.returns-in_err-book
unfolding told
returns-in_err-book c =
    let answers = turned-away c.args.book.now c.args.out.now _ _ c.from_residual.ensures.1 c.in_err-book.ensures.refusal in
    record { answer = answers.answer; output = answers.output }

-- what is written, of the bytes that were read
written : (c : After-write_book) → Answers c.in_ok-book.book.bytes.now c.args.out.now c.write_book.result c.write_book.new.out
unfolding offset_book
written c =
    let ok = accepts_accepted _ c.in_ok-book.book.accepted in
    let now = offset_stands ok c.own_amounts.ensures c.drop_interest.ensures in
    carried_out _ _ ok _ (stands_written now c.args.out.now c.write_book.ensures.length) (stands_output_by_room now c.args.out.now c.write_book.ensures.output)

pub returns : goal.returns
returns c =
    let answers = subst (λ (s : List ℕ). Answers s c.args.out.now c.write_book.result c.write_book.new.out) c.in_ok-book.ensures.bytes (written (goal.at.returns c).After-write_book) in
    record { answer = answers.answer; output = answers.output }
