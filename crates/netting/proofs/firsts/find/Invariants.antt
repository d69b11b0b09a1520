-- `netting::firsts::find` meets its contract: no issue before the place is the one that is looked for.
use mathlib.Core.Path.{◌≡◌}
use lib.Dec.{eqb}
use Rattle.netting.proofs.Places.{Searched}
use Rattle.netting.proofs.firsts.find.Given as goal

abbrev pub invariant-loop-at : goal.invariant-loop-at
invariant-loop-at l = (l.compared ≡ l.at) × Searched (λ other. eqb other l.issue) l.issues l.at
