-- `dearest::write_rows` meets its contract: after each turn one row more is written.
use native.Mathlib.Omega.{arith}
use Rattle.dearest.proofs.Times.{no_rows, same_room, one_more, all_rows}
use Rattle.dearest.proofs.write_rows.Goals as goal

pub loop-at-init : goal.loop-at-init
loop-at-init c = no_rows _ _ _ c.requires.1

pub write_row-requires : goal.write_row-requires
write_row-requires c =
    omega (arith, c.requires.1, same_room _ _ _ c.requires.1 c.loop-at.invariant)

pub loop-at-preserved : goal.loop-at-preserved
loop-at-preserved c =
    one_more _ _ _ c.requires.1 c.loop-at.invariant (omega arith) c.write_row.ensures

pub shape_of-out : goal.shape_of-out
shape_of-out c = same_room _ _ _ c.requires.1 c.loop-at.invariant

pub returns : goal.returns
returns c = all_rows _ _ _ c.requires.1 c.loop-at.invariant (omega arith)
