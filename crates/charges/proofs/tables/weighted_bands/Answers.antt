-- `charges::tables::weighted_bands` meets its contract: each entry is the position times its weight.
use borrow.Author.Rules.{rules}
use Rattle.ladder.specs.Position.{empty}
use Rattle.ladder.specs.Table.{weight_in}
use Rattle.ladder.specs.Inner.Steps.{band_count}
use Rattle.charges.proofs.Made.{made}
use Rattle.charges.proofs.tables.weighted_bands.Goals as goal

pub returns : goal.returns
unfolding weight_in
returns c = made _ _ _ empty (λ i y f' call. search rules) band_count c.from_fn.ensures.items
