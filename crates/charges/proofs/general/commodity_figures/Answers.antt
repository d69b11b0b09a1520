-- `charges::general::commodity_figures` meets its contract: the array is the bands of the commodity.
use mathlib.Core.Path.{◌∙◌}
use native.Mathlib.Omega.{arith}
use Rattle.ladder.proofs.Agreeing.{gross-agree, commodity-agree}
use Rattle.charges.proofs.general.commodity_figures.Goals as goal

pub commodity-requires : goal.commodity-requires
commodity-requires c =
    omega (arith, gross-agree (record { below = c.commodity_bands.ensures }), c.requires.1)

pub returns : goal.returns
returns c = c.commodity.ensures.is ∙ commodity-agree (record { below = c.commodity_bands.ensures })
