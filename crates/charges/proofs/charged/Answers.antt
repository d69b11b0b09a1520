-- `charges::charged` meets its contract: a table that is refused, or the report by the one that was loaded.
use Rattle.std.proofs.Common.{ap, ◌∙◌}
use Rattle.ladder.specs.declared.Table.{Table}
use Rattle.table.proofs.Accepting.{refused_number, loaded_passed, loaded_table, loaded_bounds}
use Rattle.charges.specs.Inner.Answers.{report_by}
use Rattle.charges.proofs.Reporting.{table_refused, table_loaded}
use Rattle.charges.proofs.charged.Goals as goal

pub returns-in_err-load : goal.returns-in_err-load
returns-in_err-load c = table_refused _ _ _ _ c.from_residual.ensures.1 (refused_number c.args.table.now _ c.in_err-load.ensures)

pub charge_by-requires : goal.charge_by-requires
charge_by-requires c = loaded_bounds _ _ c.in_ok-load.ensures

pub returns : goal.returns
returns c =
    c.charge_by.ensures.report
    ∙ ap (λ (table : Table). report_by table c.args.book.now) (loaded_table _ _ c.in_ok-load.ensures)
    ∙ table_loaded _ _ (loaded_passed _ _ c.in_ok-load.ensures)
