-- `charges::tables::used_groups` meets its contract: the loop keeps the groups with rows at the front of the list.
use Prim.Native.Nat.{◌+◌}
use lib.ListN.{get_or}
use Rattle.charges.specs.Inner.Slots.{group_count}
use Rattle.charges.proofs.Listing.{Listed}
use Rattle.charges.proofs.tables.used_groups.Given as goal

abbrev pub invariant-loop-group : goal.invariant-loop-group
invariant-loop-group l = Listed group_count (λ g. get_or l.rows (l.first + g) 0) l.list l.many l.group
