-- `netting::nets::net_each` meets its contract: the numbers before hold their nets, the others their sums.
use Rattle.netting.proofs.Netting.{NettedTo}
use Rattle.netting.proofs.nets.net_each.Given as goal

abbrev pub invariant-loop-row : goal.invariant-loop-row
invariant-loop-row l = NettedTo l.initial.amounts l.row l.amounts
