-- `charges::tables::band_sum` meets its contract: the loop keeps what the bands before come to.
use mathlib.Core.Path.{◌≡◌}
use Rattle.sums.specs.Sums.{span}
use Rattle.ladder.specs.Position.{total}
use Rattle.charges.specs.Inner.Tables.{bands_from}
use Rattle.charges.proofs.tables.band_sum.Given as goal

abbrev pub invariant-loop-position : goal.invariant-loop-position
invariant-loop-position l = l.sum ≡ total (bands_from l.positions l.first) (span 0 l.position-index)
