-- `offsetting::pairs::drop_pairs` meets its contract: the pairs of the rows before are dropped.
use mathlib.Core.Path.{sym}
use Prim.Native.Nat.{◌<◌}
use native.Mathlib.Omega.{arith}
use lib.ListN.{length}
use Rattle.book.specs.Inner.Reading.{part_rows}
use Rattle.offsetting.proofs.Searching.{many-rows}
use Rattle.offsetting.proofs.Dropping.{dropped-none, dropped-same, found_within, dropped-pair, dropped-all}
use Rattle.offsetting.proofs.pairs.drop_pairs.Goals.{In-loop-row, in-Some, in_default}
use Rattle.offsetting.proofs.pairs.drop_pairs.Goals as goal

pub loop-row-init : goal.loop-row-init
loop-row-init c = dropped-none _ _

-- the row of a turn is there
inside : (c : In-loop-row) → c.loop-row.row < length (part_rows c.args.part.now)
inside c = omega (arith, many-rows c.args.part.now c.row_count-row-end.ensures)

pub fit_for-requires : goal.fit_for-requires
fit_for-requires c = (inside (goal.at.fit_for-requires c).In-loop-row, c.requires)

pub put-requires : goal.put-requires
put-requires c = omega (arith, inside (goal.at.put-requires c).In-loop-row, c.requires)

pub put-requires-in-Some : goal.put-requires-in-Some
put-requires-in-Some c =
    let there = inside (goal.at.put-requires-in-Some c).In-loop-row in
    omega (arith, (found_within _ _ _ _ c.loop-row.invariant there c.requires c.in-Some.other (sym c.in-Some.ensures)).1, c.requires)

pub loop-row-preserved : goal.loop-row-preserved
loop-row-preserved c =
    let there = inside (goal.at.loop-row-preserved c).In-loop-row in
    elim c.match-fit_for.branch [
      | in-Some w ↦ rw (w.amounts-is) (dropped-pair _ _ _ _ c.loop-row.invariant there c.requires w.in-Some.other (sym w.in-Some.ensures) w.put.new.self w.put-in-Some.new.self w.put.ensures w.put-in-Some.ensures)
      | in_default w ↦ rw (w.amounts-is) (dropped-same _ _ _ _ c.loop-row.invariant there c.requires (sym w.in_default.ensures))
    ]

pub returns : goal.returns
returns c = dropped-all _ _ _ c.loop-row.invariant (omega (arith, many-rows c.args.part.now c.row_count-row-end.ensures))
