-- `netting::nets::first_over` meets its contract: no row before is over the limit.
use Rattle.amounts.specs.Inner.Standing.{positions_in}
use Rattle.netting.specs.Inner.Nets.{is_over}
use Rattle.netting.proofs.Numbers.{Unfound}
use Rattle.netting.proofs.nets.first_over.Given as goal

abbrev pub invariant-loop-row : goal.invariant-loop-row
invariant-loop-row l = Unfound 14 (λ k. is_over (positions_in l.amounts k)) l.rows l.row
