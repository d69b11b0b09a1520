-- `trade::search::Open::up_to` meets its contract: one end stays over the limit and the other within it, and what lies between is halved.
use Prim.Native.Nat.{◌-◌, ◌≤◌, ◌<◌}
use Rattle.trade.specs.Inner.Searching.{open_charge}
use Rattle.trade.specs.Inner.Opened.{opening_of}
use Rattle.trade.proofs.search.Open.up_to.Given as goal

abbrev pub invariant-loop-within : goal.invariant-loop-within
invariant-loop-within l =
    (l.over < l.within) × (l.within ≤ l.turn) × (l.limit < open_charge (opening_of l.self) l.over) × (open_charge (opening_of l.self) l.within ≤ l.limit)

abbrev pub decreases-loop-within : goal.decreases-loop-within
decreases-loop-within l = l.within - l.over
