-- `charges::tables::commodity_sums` meets its contract: each entry is what a commodity's bands come to.
use borrow.Author.Rules.{rules}
use Rattle.ladder.specs.Position.{empty}
use Rattle.charges.specs.Inner.Slots.{group_count}
use Rattle.charges.proofs.Made.{made}
use Rattle.charges.proofs.tables.commodity_sums.Goals as goal

pub returns : goal.returns
returns c = made _ _ _ empty (λ i y f' call. search rules) group_count c.from_fn.ensures.items
