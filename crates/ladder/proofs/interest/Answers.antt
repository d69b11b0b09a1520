-- `ladder::interest` meets its contract: the three zones, gathered, make the ladder.
use Rattle.ladder.proofs.Gathering.{gathered_summed, gathered_interest}
use Rattle.ladder.proofs.interest.Goals as goal

pub figures-requires : goal.figures-requires
figures-requires c =
    (c.requires.accepted_percents, gathered_summed c.gather.ensures c.requires.zones_bound)

pub returns : goal.returns
returns c =
    gathered_interest c.requires.accepted_percents c.gather.ensures c.figures.ensures
