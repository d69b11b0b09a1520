-- `table::conditions::weights_hold` meets its contract: the loop keeps that the weights hold where those from a band on do.
use Rattle.std.proofs.Common.{◌≡◌, drop}
use Rattle.table.specs.Loaded.{weights_hold}
use Rattle.table.proofs.conditions.weights_hold.Given as goal

abbrev pub invariant-loop-weight : goal.invariant-loop-weight
invariant-loop-weight l = weights_hold 0 l.weight-items ≡ weights_hold l.least (drop l.weight-index l.weight-items)
