-- `ladder::whole::Gathered::with_band` meets its contract: the band's zone takes the position, the others stay.
use Rattle.ladder.proofs.OneBand.{with_first, with_second, with_third}
use Rattle.ladder.proofs.whole.Gathered.with_band.Goals as goal

pub returns-then-band-lt4 : goal.returns-then-band-lt4
returns-then-band-lt4 c = with_first _ _ _ c.requires c.if-band-lt4.true c.with_band.ensures

pub returns-then-band-lt7 : goal.returns-then-band-lt7
returns-then-band-lt7 c = with_second _ _ _ c.requires c.if-band-lt4.false c.if-band-lt7.true c.with_band-then-band-lt7.ensures

pub returns-else-band-lt7 : goal.returns-else-band-lt7
returns-else-band-lt7 c = with_third _ _ _ c.requires c.if-band-lt4.false c.if-band-lt7.false c.with_band-else-band-lt7.ensures
