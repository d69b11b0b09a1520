-- `options::greeks::vega_charge` meets its contract: the sums are the definition's.
use Rattle.std.proofs.Common.{rules, arith}
use Rattle.options.specs.Table.{option_count, options_of}
use Rattle.options.specs.Inner.Sums.{vega_measure, Gathered}
use Rattle.options.proofs.Limits.{vega_within}
use Rattle.options.proofs.Ranges.{accepted_options}
use Rattle.options.proofs.Gathering.{vega_fits, vega_is}
use Rattle.options.proofs.greeks.vega_charge.Goals.{After-gather-positions}
use Rattle.options.proofs.greeks.vega_charge.Goals as goal

pub gather-positions-requires : goal.gather-positions-requires
gather-positions-requires c = (vega_measure, search (rules, vega_within))

gathered : (c : After-gather-positions)
    → Gathered vega_measure c.args.class (option_count c.args.table.bytes.now) (options_of c.args.table.bytes.now) c.gather-positions.result
gathered c = c.gather-positions.ensures vega_measure (search (rules, vega_within))

pub absolute_nets-requires-clause-many_bound : goal.absolute_nets-requires-clause-many_bound
absolute_nets-requires-clause-many_bound c =
    omega (arith, vega_fits (gathered (goal.at.absolute_nets-requires-clause-many_bound c).After-gather-positions) (accepted_options _ c.args.table.taken).few)

pub overflow_mul-result : goal.overflow_mul-result
overflow_mul-result c =
    omega (arith, c.absolute_nets.ensures.within, vega_fits (gathered (goal.at.overflow_mul-result c).After-gather-positions) (accepted_options _ c.args.table.taken).few)

pub returns : goal.returns
returns c = vega_is (gathered (goal.at.returns c).After-gather-positions) c.absolute_nets.ensures.is
