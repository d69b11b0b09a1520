-- `netting::nets::net_each` meets its contract: the numbers before hold their nets, the others their sums.
use mathlib.Core.Path.{ap, ◌∙◌}
use native.Mathlib.Omega.{arith}
use lib.ListN.{set}
use Rattle.ladder.specs.declared.positions.Position.{Position}
use Rattle.ladder.specs.Position.{net}
use Rattle.ladder.specs.Inner.Steps.{PositionStep, net_step}
use Rattle.netting.proofs.Netting.{netted_next}
use Rattle.netting.proofs.nets.net_each.Goals as goal

pub loop-row-preserved : goal.loop-row-preserved
unfolding net_step
loop-row-preserved c =
    let netted = ap (λ (step : PositionStep). step.left) c.net.ensures.is ∙ ap net c.at.ensures in
    netted_next _ _ _ _ c.loop-row.invariant (omega arith)
    (c.put.ensures ∙ ap (λ (p : Position). set c.loop-row.amounts.rows c.loop-row.row p) netted)
