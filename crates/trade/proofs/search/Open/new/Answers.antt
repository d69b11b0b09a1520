-- `trade::search::Open::new` meets its contract: the array holds the weighted bands, the open one taken out.
use Rattle.std.proofs.Common.{◌≡◌, arith}
use Rattle.ladder.specs.Position.{empty}
use Rattle.ladder.specs.Table.{weight_in}
use Rattle.ladder.proofs.Matching.{same_position}
use Rattle.trade.proofs.Opening.{whole_fits, each_fits, parts_fit, searchable_of, opened_of}
use Rattle.trade.proofs.search.Open.new.Goals.{After-default}
use Rattle.trade.proofs.search.Open.new.Goals as goal

pub weighted_bands-others-requires : goal.weighted_bands-others-requires
weighted_bands-others-requires c =
    record {
      band_count_in_bounds = omega (arith, c.requires.sized);
      by_index = λ k h. let fits = each_fits _ _ _ c.requires k h in (omega (arith, fits), omega (arith, fits));
    }

-- what the open band is left with
none : (c : After-default) → c.default.result ≡ empty
none c = same_position c.default.ensures.0 c.default.ensures.1

pub gather-requires : goal.gather-requires
gather-requires c =
    let weighted = c.weighted_bands-others in
    rw (none (goal.at.gather-requires c).After-default)
    (omega (arith, parts_fit _ _ _ c.requires weighted.result weighted.ensures, whole_fits _ _ _ c.requires))

pub invariant_of-result : goal.invariant_of-result
unfolding weight_in
invariant_of-result c =
    let weighted = c.weighted_bands-others in
    let gathered = rw (none (goal.at.invariant_of-result c).After-default) at c.gather.ensures in
    record { searchable = searchable_of _ _ _ c.requires weighted.result weighted.ensures _ gathered }

pub returns : goal.returns
unfolding weight_in
returns c =
    let weighted = c.weighted_bands-others in
    let gathered = rw (none (goal.at.returns c).After-default) at c.gather.ensures in
    opened_of _ _ _ c.requires weighted.result weighted.ensures _ gathered
