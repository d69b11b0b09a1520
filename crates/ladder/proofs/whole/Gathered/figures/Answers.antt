-- `ladder::whole::Gathered::figures` meets its contract: what the zones match is within their gross.
use Rattle.std.proofs.Common.{arith}
use Rattle.ladder.proofs.Gathering.{combined-within, figures_in_steps}
use Rattle.ladder.proofs.whole.Gathered.figures.Goals as goal

pub charge-requires : goal.charge-requires
charge-requires c =
    (c.requires.0, omega (arith, c.requires.1.within, combined-within _ c.requires.1 c.combine-matches.ensures))

pub returns : goal.returns
returns c = figures_in_steps _ _ c.combine-matches.ensures c.charge.ensures
