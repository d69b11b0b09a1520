-- `charges::commodity_ladder` meets its contract: refused, or the figures of the commodity's rows.
use Rattle.std.proofs.Common.{◌∙◌, arith}
use Rattle.book.specs.Reasons.{told}
use Rattle.ladder.specs.Commodity.{commodity_band_count}
use Rattle.charges.proofs.Figures.{commodity-from, given_sized, given_agree, given_fits}
use Rattle.charges.proofs.Reading.{commodity_refused, commodity_given}
use Rattle.charges.proofs.commodity_ladder.Goals as goal

pub returns-in_err-positions : goal.returns-in_err-positions
unfolding told
returns-in_err-positions c = commodity_refused _ _ _ _ c.from_residual.ensures.1 c.in_err-positions.ensures.refusal

pub commodity_figures-requires : goal.commodity_figures-requires
commodity_figures-requires c =
    let given = c.in_ok-positions.ensures.given in
    (omega (arith, given_sized given), given_fits given commodity_band_count (omega arith))

pub returns : goal.returns
unfolding told
returns c =
    let positions = c.in_ok-positions.positions in
    commodity_given _ _ c.in_ok-positions.ensures.refusal
    (c.commodity_figures.ensures ∙ commodity-from positions 0 _ _ (given_agree c.in_ok-positions.ensures.given commodity_band_count (omega arith)))
