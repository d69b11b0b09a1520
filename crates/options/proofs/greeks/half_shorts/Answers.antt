-- `options::greeks::half_shorts` meets its contract: the loop keeps the sum of the groups so far.
use native.Mathlib.Omega.{arith}
use Rattle.ladder.specs.Inner.Steps.{bands}
use Rattle.sums.proofs.Spans.{summed_none, summed_next, summed_all, sum_room}
use Rattle.charges.specs.Inner.Slots.{group_count}
use Rattle.options.specs.Greeks.{half_short}
use Rattle.options.proofs.greeks.half_shorts.Goals as goal

pub loop-sides-init : goal.loop-sides-init
loop-sides-init c = summed_none _ group_count

pub overflow_add-charge : goal.overflow_add-charge
overflow_add-charge c =
    omega (
      arith,
      c.loop-sides.invariant.is_sum,
      c.half_short-charge.ensures,
      sum_room (λ k. half_short (bands c.args.positions.now k)) c.loop-sides.sides-index group_count (omega arith),
      c.requires,
    )

pub loop-sides-preserved : goal.loop-sides-preserved
loop-sides-preserved c =
    summed_next _ group_count _ _ _ c.loop-sides.invariant (omega arith) c.half_short-charge.ensures

pub returns : goal.returns
returns c = summed_all _ group_count _ _ c.loop-sides.invariant (omega arith)
