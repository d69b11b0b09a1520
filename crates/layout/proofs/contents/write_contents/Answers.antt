-- `layout::contents::write_contents` meets its contract: the loop writes the counts one after the other.
use Rattle.std.proofs.Common.{◌∙◌, ◌-◌, ◌*◌, ap, arith, rules, length}
use Rattle.layout.specs.Written.{written}
use Rattle.layout.specs.Files.{two_bytes_of, contents_bytes}
use Rattle.layout.proofs.Bytes.{low_two}
use Rattle.layout.proofs.Classwise.{begins, piece_room, writes-next, all_written}
use Rattle.layout.proofs.Whole.{contents_length}
use Rattle.layout.proofs.contents.write_contents.Invariants.{count_piece}
use Rattle.layout.proofs.contents.write_contents.Goals as goal

pub loop-class-init : goal.loop-class-init
unfolding count_piece contents_bytes
loop-class-init c = begins _ _ 0 (omega (arith, contents_length c.args.counts))

pub write_array-requires : goal.write_array-requires
unfolding count_piece two_bytes_of
write_array-requires c =
    omega (arith, ap length c.to_le_bytes.ensures, piece_room _ _ _ _ _ _ c.loop-class.invariant (omega arith))

pub loop-class-preserved : goal.loop-class-preserved
unfolding count_piece two_bytes_of
loop-class-preserved c =
    let out = c.loop-class.out in
    let at = 2 * (c.loop-class.class - 1) in
    let bytes = low_two c.class_rows.result (search rules) c.to_le_bytes.ensures ∙ ap two_bytes_of c.class_rows.ensures in
    writes-next _ _ _ out _ _ c.loop-class.invariant (omega arith) _ _ (c.write_array.ensures ∙ ap (written out at) bytes) (omega arith)

pub returns : goal.returns
unfolding count_piece contents_bytes
returns c = all_written _ _ _ _ _ _ c.loop-class.invariant (omega arith)
