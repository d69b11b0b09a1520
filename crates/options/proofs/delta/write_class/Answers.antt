-- `options::delta::write_class` meets its contract: the rows before are written.
use mathlib.Core.Path.{◌≡◌, sym, ap, ◌∙◌}
use mathlib.Core.Bool.{Bool, true, false}
use native.Mathlib.Omega.{arith}
use Rattle.book.specs.declared.Row.{Row}
use Rattle.layout.specs.Files.{row_bytes}
use Rattle.layout.specs.Written.{written}
use Rattle.options.specs.Delta.{delta_leg}
use Rattle.options.specs.Inner.Writing.{gives_row}
use Rattle.options.specs.Table.{OptionRow, option_at}
use Rattle.options.proofs.Bytes.{no_rows, row_fits, row_passed, row_written, all_rows}
use Rattle.options.proofs.delta.write_class.Goals.{After-gives_row, then-gives_row, else-gives_row}
use Rattle.options.proofs.delta.write_class.Goals as goal

module _ (c : After-gives_row) where
  gives : (test : Bool) → c.gives_row.result ≡ test → gives_row c.args.class (option_at c.args.table.bytes.now c.loop-row.row) ≡ test
  gives test is = ap (gives_row c.args.class) (sym c.option-option.ensures.value) ∙ sym c.gives_row.ensures ∙ is

pub loop-row-init : goal.loop-row-init
loop-row-init c = no_rows _ _ _ _

pub write_row-requires : goal.write_row-requires
write_row-requires c =
    let some = gives (goal.at.write_row-requires c).After-gives_row true c.if-gives_row.true in
    omega (arith, row_fits _ _ _ _ c.loop-row.invariant c.requires (omega (arith, c.len-row-end.ensures)) some)

pub overflow_add-end : goal.overflow_add-end
overflow_add-end c =
    let some = gives (goal.at.overflow_add-end c).After-gives_row true c.if-gives_row.true in
    omega (arith, row_fits _ _ _ _ c.loop-row.invariant c.requires (omega (arith, c.len-row-end.ensures)) some)

pub loop-row-preserved : goal.loop-row-preserved
loop-row-preserved c =
    let gives_lem = gives (goal.at.loop-row-preserved c).After-gives_row in
    elim c.if-gives_row.branch [
      | then-gives_row w ↦ let own = ap (λ (o : OptionRow). row_bytes (delta_leg o).row) c.option-option.ensures.value in
          let writes = w.write_row.ensures ∙ ap (λ (r : Row). written c.loop-row.out c.loop-row.end (row_bytes r)) w.delta_row.ensures ∙ ap (written c.loop-row.out c.loop-row.end) own in
          let some = gives_lem true w.if-gives_row.true in
          let fits = row_fits _ _ _ _ c.loop-row.invariant c.requires (omega (arith, c.len-row-end.ensures)) some in
          rw (w.out-is, w.end-is) (row_written _ _ _ _ c.loop-row.invariant some fits writes)
      | else-gives_row w ↦ rw (w.out-is, w.end-is) (row_passed _ _ _ _ c.loop-row.invariant (gives_lem false w.if-gives_row.false))
    ]

pub returns-clause-value : goal.returns-clause-value
returns-clause-value c = (all_rows _ _ _ _ c.loop-row.invariant (omega (arith, c.len-row-end.ensures))).0

pub returns-clause-out_after : goal.returns-clause-out_after
returns-clause-out_after c = (all_rows _ _ _ _ c.loop-row.invariant (omega (arith, c.len-row-end.ensures))).1
