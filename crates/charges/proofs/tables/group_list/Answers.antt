-- `charges::tables::group_list` meets its contract: each entry is read from its slot.
use borrow.Author.Rules.{rules}
use Rattle.sums.proofs.Filling.{listed_array}
use Rattle.charges.specs.Inner.Slots.{group_count}
use Rattle.charges.proofs.Made.{made}
use Rattle.charges.proofs.tables.group_list.Goals as goal

pub returns : goal.returns
returns c =
    listed_array _ group_count _ (search rules)
    (record { below = made _ _ _ 0 (λ i y f' call. search rules) group_count c.from_fn.ensures.items })
