-- `trade::search::Open::up_to` meets its contract: one end stays over the limit and the other within it, and what lies between is halved.
use mathlib.Core.Path.{sym}
use native.Mathlib.Omega.{arith}
use Rattle.trade.proofs.Halving.{after_nothing, found_between}
use Rattle.trade.proofs.search.Open.up_to.Goals as goal

pub loop-within-init : goal.loop-within-init
loop-within-init c = (after_nothing _ c.args.self.searchable c.requires.turn _ c.requires.nothing_over c.requires.turn_within, omega arith, c.requires.nothing_over, c.requires.turn_within)

pub returns : goal.returns
returns c =
    let loop = c.loop-within in
    sym (found_between _ c.args.self.searchable c.requires.turn _ loop.over loop.within loop.invariant.0 (omega arith) loop.invariant.1 loop.invariant.2 loop.invariant.3)
