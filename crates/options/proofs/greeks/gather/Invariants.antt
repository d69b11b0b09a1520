-- `options::greeks::gather` meets its contract: the options before are added, and each slot has room for one more.
use Rattle.options.specs.Inner.Reading.{options_to}
use Rattle.options.specs.Inner.Sums.{Measure, Measures, Gathered}
use Rattle.options.proofs.greeks.gather.Given as goal

abbrev pub invariant-loop-row : goal.invariant-loop-row
invariant-loop-row g l =
    (measure : Measure) → Measures (λ option. goal.F-pre g l.amount option) (λ option r. goal.F-post g l.amount option r) measure
    → Gathered measure l.class l.row (options_to l.table.bytes.now l.row) l.sides
