-- `ladder::shorthand` meets its contract: the nets of the currencies are those of one zone, and gold is a band of its own.
use Rattle.std.proofs.Common.{refl, arith}
use Rattle.ladder.specs.Position.{total}
use Rattle.ladder.specs.Inner.Steps.{bands}
use Rattle.ladder.proofs.Gathering.{shorthand-in_steps}
use Rattle.ladder.proofs.shorthand.Goals as goal

pub zone_of-requires-clause-many_bound : goal.zone_of-requires-clause-many_bound
unfolding total
zone_of-requires-clause-many_bound c = omega arith

pub gross-requires : goal.gross-requires
unfolding total
gross-requires c = omega arith

pub overflow_add-result : goal.overflow_add-result
unfolding total
overflow_add-result c = omega arith

pub returns : goal.returns
returns c =
    shorthand-in_steps (bands c.args.positions.now) _
    c.zone_of.ensures.is_nets refl c.net-gold.ensures.is c.max.ensures c.gross.ensures
