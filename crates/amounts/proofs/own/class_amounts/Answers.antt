-- `amounts::own::class_amounts` meets its contract: the rows before stand at their numbers.
use mathlib.Core.Path.{ap, ◌∙◌}
use Prim.Native.Nat.{◌+◌}
use native.Mathlib.Omega.{arith}
use lib.ListN.{length-map, set}
use Rattle.book.specs.Rows.{rows_in, decode}
use Rattle.book.proofs.ClassRows.{row_is}
use Rattle.amounts.specs.Inner.Own.{amounts_of}
use Rattle.amounts.proofs.Filling.{filled_next}
use Rattle.amounts.proofs.own.class_amounts.Goals as goal

pub loop-row-preserved : goal.loop-row-preserved
loop-row-preserved c =
    let leg = c.amounts_of.ensures ∙ ap amounts_of (c.row_at.ensures ∙ row_is _ _) in
    filled_next _ _ _ _ _ _ c.loop-row.invariant
    (omega (arith, c.requires, c.loop-row-test.true, c.row_count-row-end.ensures, length-map (rows_in c.args.part.now) decode))
    (c.put.ensures ∙ ap (set c.loop-row.amounts.rows (c.args.first + c.loop-row.row)) leg)
