-- `options::greeks::gamma_charge` meets its contract: the sums are the definition's.
use mathlib.Core.Path.{◌∙◌}
use Rattle.std.proofs.Common.{rules}
use Rattle.options.specs.Table.{option_count, options_of}
use Rattle.options.specs.Inner.Sums.{gamma_measure, Gathered}
use Rattle.options.proofs.Limits.{gamma_within}
use Rattle.options.proofs.Ranges.{accepted_options}
use Rattle.options.proofs.Gathering.{gamma_is, gamma_fits}
use Rattle.options.proofs.greeks.gamma_charge.Goals.{After-gather}
use Rattle.options.proofs.greeks.gamma_charge.Goals as goal

pub gather-requires : goal.gather-requires
gather-requires c = (gamma_measure, search (rules, gamma_within))

gathered : (c : After-gather)
    → Gathered gamma_measure c.args.class (option_count c.args.table.bytes.now) (options_of c.args.table.bytes.now) c.gather.result
gathered c = c.gather.ensures gamma_measure (search (rules, gamma_within))

pub half_shorts-requires : goal.half_shorts-requires
half_shorts-requires c = gamma_fits (gathered (goal.at.half_shorts-requires c).After-gather) (accepted_options _ c.args.table.taken).few

pub returns : goal.returns
returns c = c.half_shorts.ensures ∙ gamma_is (gathered (goal.at.returns c).After-gather)
