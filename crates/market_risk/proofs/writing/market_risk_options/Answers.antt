-- `market_risk_options` meets its contract: the entries of an answer are its figures, or its refusal and no figure.
use mathlib.Core.Path.{◌≡◌, refl, ap, ◌∙◌}
use mathlib.Core.List.{List, [], ◌∷◌}
use Prim.Native.Nat.{ℕ}
use lib.ListN.{length, get_or}
use Rattle.book.specs.Refusals.{refused}
use Rattle.charges.specs.Report.{refused_report}
use Rattle.options.specs.Options.{Priced, by_class, priced_of, refused_pricing, priced_answer}
use Rattle.market_risk.specs.Entries.{refusal_entries, report_figures, priced_entries}
use Rattle.market_risk.proofs.writing.market_risk_options.Goals as goal

-- the entries one by one
abbrev one_by_one : Priced → List ℕ
one_by_one priced =
    priced.refusal.number ∷ priced.refusal.row ∷ priced.refusal.book ∷ priced.length ∷
    get_or priced.gammas 0 0 ∷ get_or priced.gammas 1 0 ∷ get_or priced.gammas 2 0 ∷
    get_or priced.vegas 0 0 ∷ get_or priced.vegas 1 0 ∷ get_or priced.vegas 2 0 ∷
    priced.report.interest.specific ∷ priced.report.interest.general ∷
    priced.report.equity.specific ∷ priced.report.equity.general ∷
    priced.report.exchange ∷ priced.report.commodity ∷ priced.report.total ∷ []

all_entries : (table : List ℕ) (room : ℕ) → one_by_one (priced_of table room) ≡ priced_entries (priced_of table room)
unfolding by_class priced_of refusal_entries report_figures priced_entries
all_entries table room = refl

pub returns-in-Ok-clause-res_after : goal.returns-in-Ok-clause-res_after
unfolding refused priced_answer
returns-in-Ok-clause-res_after c = ap one_by_one c.in-Ok.ensures.0 ∙ all_entries c.args.table.now (length c.args.out.now)

pub returns-in-Err-clause-res_after : goal.returns-in-Err-clause-res_after
unfolding priced_answer refused_pricing refused_report refusal_entries report_figures priced_entries
returns-in-Err-clause-res_after c = c.refused_entries.ensures ∙ ap priced_entries c.in-Err.ensures.0
