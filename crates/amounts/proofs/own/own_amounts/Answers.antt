-- `amounts::own::own_amounts` meets its contract: the classes before stand at their numbers.
use mathlib.Core.List.{List}
use Prim.Native.Nat.{ℕ, ◌+◌, ◌≤◌}
use native.Mathlib.Omega.{arith}
use lib.ListN.{length}
use Rattle.book.specs.Refusals.{most_rows}
use Rattle.book.specs.Inner.Reading.{part_rows}
use Rattle.book.specs.Accepted.{Accepted}
use Rattle.book.proofs.Acceptance.{accepts_accepted}
use Rattle.amounts.specs.declared.positions.Amounts.{Amounts}
use Rattle.amounts.specs.Inner.Own.{OwnIn}
use Rattle.amounts.proofs.Parts.{PartIs, part_is}
use Rattle.amounts.proofs.Filling.{FilledTo, to_none, class_room, to_next, to_all}
use Rattle.amounts.proofs.own.own_amounts.Goals.{After-rows_before}
use Rattle.amounts.proofs.own.own_amounts.Goals as goal

pub loop-class-init : goal.loop-class-init
loop-class-init c = to_none _

module _ {s : List ℕ} (ok : Accepted s) {class : ℕ} {amounts : Amounts} (now : FilledTo s class amounts) (more : class ≤ 4)
    {first : ℕ} {part : List ℕ} (own : PartIs s class first part) where
  room : first + length (part_rows part) ≤ most_rows
  room = rw (own.first_is, own.rows_are) (class_room s ok class amounts now more)

  next : {amounts' : Amounts} → OwnIn first (part_rows part) amounts amounts' → FilledTo s (class + 1) amounts'
  next did = to_next s ok class amounts now more (rw (own.first_is, own.rows_are) at did)

-- the part of a turn
own : (c : After-rows_before) → PartIs c.args.book.bytes.now c.loop-class.class c.rows_before.result c.body.result.now
own c = part_is (accepts_accepted _ c.args.book.accepted) c.args.book.own c.loop-class.invariant.low (omega arith) c.rows_before.ensures.0 c.body.ensures

pub class_amounts-requires : goal.class_amounts-requires
class_amounts-requires c =
    room (accepts_accepted _ c.args.book.accepted) c.loop-class.invariant (omega arith) (own (goal.at.class_amounts-requires c).After-rows_before)

pub loop-class-preserved : goal.loop-class-preserved
loop-class-preserved c =
    next (accepts_accepted _ c.args.book.accepted) c.loop-class.invariant (omega arith) (own (goal.at.loop-class-preserved c).After-rows_before) c.class_amounts.ensures

pub returns : goal.returns
returns c = to_all _ (accepts_accepted _ c.args.book.accepted) _ c.loop-class.invariant (omega arith)
