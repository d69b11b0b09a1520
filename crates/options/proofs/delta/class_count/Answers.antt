-- `options::delta::class_count` meets its contract: the rows before are counted.
use mathlib.Core.Path.{◌≡◌, refl, ap, ◌∙◌}
use mathlib.Core.Bool.{Bool, true, false, cond}
use mathlib.Core.List.{List}
use Prim.Native.Nat.{ℕ, ◌≤◌}
use native.Mathlib.Omega.{arith}
use lib.ListN.{length}
use mir.Val.{bool_byte}
use Rattle.options.specs.Table.{OptionRow}
use Rattle.options.specs.Inner.Writing.{gives_row, delta_rows}
use Rattle.options.proofs.Walking.{to_all}
use Rattle.options.proofs.Bytes.{count_none, count_next}
use Rattle.options.proofs.delta.class_count.Goals as goal

one_or_none : (b : Bool) → (bool_byte b ≡ cond b 1 0) × (bool_byte b ≤ 1)
one_or_none true = (refl, omega arith)
one_or_none false = (refl, omega arith)

pub loop-row-init : goal.loop-row-init
loop-row-init c = record { so_far = count_none _ _; below = omega arith }

pub loop-row-preserved : goal.loop-row-preserved
loop-row-preserved c =
    let is = c.from-count.ensures ∙ (one_or_none c.gives_row.result).0 ∙ ap (λ (b : Bool). cond {A = ℕ} b 1 0) (c.gives_row.ensures ∙ ap (gives_row c.args.class) c.option.ensures.value) in
    record {
      so_far = omega (arith, c.loop-row.invariant.so_far, is, count_next c.args.class c.args.table.bytes.now c.loop-row.row);
      below = omega (arith, c.loop-row.invariant.below, c.from-count.ensures, (one_or_none c.gives_row.result).1);
    }

pub returns : goal.returns
returns c =
    c.loop-row.invariant.so_far
    ∙ ap (λ (options : List OptionRow). length (delta_rows c.args.class options)) (to_all c.args.table.bytes.now {row = c.loop-row.row} (omega (arith, c.len-row-end.ensures)))
