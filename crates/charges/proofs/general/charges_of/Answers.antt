-- `charges::general::charges_of` meets its contract: the groups that have rows are those that are
-- given a charge.
use native.Mathlib.Omega.{arith}
use lib.ListN.{take}
use lib.Seq.{take_all}
use Rattle.std.proofs.lemmas.List.{take_more}
use Rattle.charges.proofs.Listing.{charged_none, charged_next, charged_used, charged_unused, listed_group}
use Rattle.charges.proofs.general.charges_of.Goals as goal

pub loop-group-init : goal.loop-group-init
loop-group-init g c = charged_none _

pub charge-requires : goal.charge-requires
charge-requires g c =
    c.requires.callable _ (listed_group _ _ c.used_groups-many.ensures.is _ c.loop-group-test.true)

pub bounds-charges-group : goal.bounds-charges-group
bounds-charges-group g c = listed_group _ _ c.used_groups-many.ensures.is _ c.loop-group-test.true

pub offset_bounds-charges-group : goal.offset_bounds-charges-group
offset_bounds-charges-group g c =
    omega (arith, listed_group _ _ c.used_groups-many.ensures.is _ c.loop-group-test.true)

pub loop-group-preserved : goal.loop-group-preserved
loop-group-preserved g c =
    let here = listed_group _ _ c.used_groups-many.ensures.is _ c.loop-group-test.true in
    let front =
    take_more
    (take c.used_groups-many.result.many c.used_groups-many.result.list)
    c.loop-group.group-index 0 c.loop-group-test.true in
    rw front (charged_next _ _ _ _ _ c.loop-group.invariant here c.charge.ensures)

pub returns-clause-used : goal.returns-clause-used
returns-clause-used g c k h some =
    let all =
    take_all _
    (take c.used_groups-many.result.many c.used_groups-many.result.list)
    c.loop-group-test.false in
    charged_used _ _ _ (rw (all, c.used_groups-many.ensures.is) at c.loop-group.invariant) k h some

pub returns-clause-unused : goal.returns-clause-unused
returns-clause-unused g c k h zeros =
    let all =
    take_all _
    (take c.used_groups-many.result.many c.used_groups-many.result.list)
    c.loop-group-test.false in
    charged_unused _ _ _
    (rw (all, c.used_groups-many.ensures.is) at c.loop-group.invariant) k h zeros
