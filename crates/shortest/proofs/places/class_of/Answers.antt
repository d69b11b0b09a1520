-- `shortest::places::class_of` meets its contract: the row is before the first row of the next class, or else in the last one.
use mathlib.Core.Path.{◌≡◌, ap}
use native.Mathlib.Omega.{arith}
use Rattle.book.specs.Counts.{rows_before}
use Rattle.book.proofs.Placing.{before-none, before-all}
use Rattle.shortest.proofs.places.class_of.Goals as goal

pub loop-class-init : goal.loop-class-init
loop-class-init c = omega (arith, before-none c.args.counts 1 (omega arith))

pub returns : goal.returns
returns c =
    let last : c.loop-class.class ≡ 4 = omega arith in
    let all = before-all c.args.counts 5 (omega arith) in
    record { low = omega arith; high = omega arith; from = omega (arith, ap (rows_before c.args.counts) last); to = omega (arith, c.requires) }
