-- `charges::general::charges_of` meets its contract: the loop keeps what the groups before this
-- one were given.
use lib.ListN.{take}
use Rattle.charges.proofs.Listing.{Charged}
use Rattle.charges.proofs.general.charges_of.Given as goal

abbrev pub invariant-loop-group : goal.invariant-loop-group
invariant-loop-group g l =
    Charged (goal.F-post g l.charge) (take l.group-index l.group-items) l.charges
