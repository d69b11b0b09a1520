-- `ladder::commodity` meets its contract: before each band it has what the nearer bands give.
use Rattle.ladder.specs.Inner.Steps.{bands}
use Rattle.ladder.proofs.Gathering.{Carries}
use Rattle.ladder.proofs.commodity.Given as goal

abbrev pub invariant-loop-band : goal.invariant-loop-band
invariant-loop-band l =
    Carries (bands l.positions) l.band-index (record { matches = l.matches; carried = l.carried; position = l.position })
