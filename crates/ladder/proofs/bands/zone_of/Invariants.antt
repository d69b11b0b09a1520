-- `ladder::bands::zone_of` meets its contract: before a band it has what the bands of the zone up to it sum to.
use Rattle.ladder.specs.Inner.Steps.{bands}
use Rattle.ladder.proofs.Gathering.{GatheredTo}
use Rattle.ladder.proofs.bands.zone_of.Given as goal

abbrev pub invariant-loop-position : goal.invariant-loop-position
invariant-loop-position l = GatheredTo (bands l.positions) l.start l.position-index l.zone
