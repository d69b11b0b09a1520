-- `options::greeks::half_shorts` meets its contract: the loop keeps the sum of the groups so far.
use Rattle.ladder.specs.Inner.Steps.{bands}
use Rattle.sums.proofs.Spans.{Summed}
use Rattle.charges.specs.Inner.Slots.{group_count}
use Rattle.options.specs.Greeks.{half_short}
use Rattle.options.proofs.greeks.half_shorts.Given as goal

abbrev pub invariant-loop-sides : goal.invariant-loop-sides
invariant-loop-sides l = Summed (λ k. half_short (bands l.positions k)) group_count l.charge l.sides-index
