-- `ladder::whole::gather` meets its contract: the bands of the three zones are within those of the ladder.
use Rattle.std.proofs.Common.{◌≤◌, arith}
use Rattle.ladder.specs.Position.{Bands, gross, total}
use Rattle.ladder.specs.Inner.Steps.{limit, bands}
use Rattle.ladder.specs.Interest.{all_bands, zones}
use Rattle.ladder.proofs.AddsUp.{three_grosses}
use Rattle.ladder.proofs.whole.gather.Goals as goal

within : (f : Bands) → gross (total f (all_bands zones)) ≤ limit
    → (gross (total f zones.first) ≤ limit) × (gross (total f zones.second) ≤ limit) × (gross (total f zones.third) ≤ limit)
within f h = omega (arith, three_grosses zones f)

pub zone_of-requires-clause-many_bound : goal.zone_of-requires-clause-many_bound
zone_of-requires-clause-many_bound c = (within (bands c.args.positions.now) c.requires).0

pub zone_of-requires-2-clause-many_bound : goal.zone_of-requires-2-clause-many_bound
zone_of-requires-2-clause-many_bound c = (within (bands c.args.positions.now) c.requires).1

pub zone_of-requires-3-clause-many_bound : goal.zone_of-requires-3-clause-many_bound
zone_of-requires-3-clause-many_bound c = (within (bands c.args.positions.now) c.requires).2
