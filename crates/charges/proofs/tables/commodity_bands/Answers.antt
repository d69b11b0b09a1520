-- `charges::tables::commodity_bands` meets its contract: each entry is read from its slot.
use borrow.Author.Rules.{rules}
use Rattle.ladder.specs.Position.{empty}
use Rattle.ladder.specs.Commodity.{commodity_band_count}
use Rattle.charges.proofs.Made.{made}
use Rattle.charges.proofs.tables.commodity_bands.Goals as goal

pub returns : goal.returns
returns c = made _ _ _ empty (λ i y f' call. search rules) commodity_band_count c.from_fn.ensures.items
