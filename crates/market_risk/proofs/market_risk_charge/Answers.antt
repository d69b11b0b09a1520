-- `market_risk_charge` meets its contract: three lists written one after the other are the entries of the report.
use mathlib.Core.Path.{◌≡◌, refl, ap, ◌∙◌}
use mathlib.Core.List.{List, [], ◌∷◌, ◌++◌, append_assoc}
use Prim.Native.Nat.{ℕ}
use native.Mathlib.Omega.{arith}
use lib.ListN.{length, replicate, length-append}
use Rattle.layout.specs.Written.{written}
use Rattle.layout.proofs.Writing.{written-more, written-whole}
use Rattle.charges.specs.declared.Report.{Report}
use Rattle.charges.proofs.Reporting.{ListsSized, lists_sized}
use Rattle.market_risk.specs.Entries.{refusal_entries, report_figures, report_entries}
use Rattle.market_risk.proofs.market_risk_charge.Goals.{After-charge-report, After-write_entries}
use Rattle.market_risk.proofs.market_risk_charge.Goals as goal

-- the refusal, the figures and the rows taken
abbrev figures : Report → List ℕ
figures report = refusal_entries report.refusal ++ (report_figures report ++ (report.taken ∷ []))

-- the report that the library gave has its 32 entries in each list
sized : (c : After-charge-report) → ListsSized c.charge-report.result
sized c = rw c.charge-report.ensures (lists_sized _ _)

entries_in_steps : (report : Report) → ListsSized report → {out1 out2 out3 : List ℕ} → out1 ≡ written (replicate 75 0) 0 (figures report)
    → out2 ≡ written out1 11 report.specifics → out3 ≡ written out2 43 report.generals → out3 ≡ report_entries report
unfolding refusal_entries report_figures report_entries
entries_in_steps report many e1 e2 e3 =
    let lists = figures report ++ report.specifics in
    let places : length lists ≡ 43 = rw (length-append (figures report) report.specifics, many.specifics_many) in
    let all : length (lists ++ report.generals) ≡ 75 = rw (length-append lists report.generals, places, many.generals_many) in
    written-more (replicate 75 0) lists report.generals 0 43
    (written-more (replicate 75 0) (figures report) report.specifics 0 11 e1 e2 refl (omega (arith, many.specifics_many))) e3
    (omega (arith, places)) (omega (arith, many.generals_many))
    ∙ written-whole (replicate 75 0) (lists ++ report.generals) all
    ∙ append_assoc (figures report) report.specifics report.generals

-- the first entries, from the refusal on
first : (c : After-write_entries) → c.write_entries.new.out ≡ written (replicate 75 0) 0 (figures c.charge-report.result)
unfolding refusal_entries report_figures
first c = rw c.refusal_entries.ensures at c.write_entries.ensures

pub returns : goal.returns
returns c =
    entries_in_steps c.charge-report.result (sized (goal.at.returns c).After-charge-report) (first (goal.at.returns c).After-write_entries) c.write_entries-2.ensures c.write_entries-3.ensures
    ∙ ap report_entries c.charge-report.ensures
