-- `text::lines::Text::push_decimal` meets its contract: the last digit follows the digits before it.
use Rattle.std.proofs.Common.{ℕ, arith}
use Rattle.text.specs.Inner.Pieces.{Wrote}
use Rattle.text.proofs.Pieces.{front, front-none, front-some, some_room, last_room, wrote_last}
use Rattle.text.proofs.lines.Text.+push_decimal.Goals.{then-tens-gt0, else-tens-gt0, Joined-tens-gt0}
use Rattle.text.proofs.lines.Text.+push_decimal.Goals as goal

-- the digits before the last, where there are any, are written first
first : (t : ℕ) (c : Joined-tens-gt0 t) → Wrote c.args.self.now.out.now c.args.self.now.length (front c.args.n) c.if-tens-gt0.self.length c.if-tens-gt0.self.out.now
first t c =
    elim c.if-tens-gt0.branch [
      | then-tens-gt0 w ↦ rw w.self-is (front-some _ _ _ w.if-tens-gt0.true w.push_decimal.ensures.wrote)
      | else-tens-gt0 w ↦ rw w.self-is (front-none _ _ _ w.if-tens-gt0.false)
    ]

pub push_decimal-requires : goal.push_decimal-requires
push_decimal-requires t c = (omega arith, some_room _ _ c.args.n (omega arith) c.requires c.if-tens-gt0.true)

pub push-requires : goal.push-requires
push-requires t c = last_room _ _ c.args.n (omega arith) c.requires (first t (goal.at.push-requires t c).Joined-tens-gt0)

pub returns-clause-wrote : goal.returns-clause-wrote
returns-clause-wrote t c =
    wrote_last _ _ c.args.n (omega arith) c.requires (first t (goal.at.returns-clause-wrote t c).Joined-tens-gt0) c.push.ensures.wrote
