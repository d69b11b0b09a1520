-- `charges::tables::used_groups` meets its contract: the loop keeps the groups with rows at the front of the list.
use native.Mathlib.Omega.{arith}
use Rattle.charges.specs.Inner.Slots.{group_count}
use Rattle.charges.proofs.Columns.{counts_once}
use Rattle.charges.proofs.Listing.{listed_none, listed_next, listed_all}
use Rattle.charges.proofs.tables.used_groups.Goals as goal

pub loop-group-init : goal.loop-group-init
loop-group-init c = listed_none group_count _ _ (omega arith)

pub overflow_add-many : goal.overflow_add-many
overflow_add-many c = omega (arith, c.from-many.ensures, counts_once)

pub loop-group-preserved : goal.loop-group-preserved
loop-group-preserved c =
    rw c.from-many.ensures
    (listed_next group_count _ _ _ _ c.loop-group.invariant c.loop-group-test.true)

pub returns : goal.returns
returns c = listed_all _ _ _ _ c.loop-group.invariant c.loop-group-test.false
