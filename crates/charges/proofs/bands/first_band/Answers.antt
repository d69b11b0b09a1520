-- `charges::bands::first_band` meets its contract: three tests give the quarter of the column, and three the place in the quarter.
use Rattle.charges.specs.Inner.Columns.{columns}
use Rattle.charges.proofs.Columns.{in_two_steps}
use Rattle.charges.proofs.bands.first_band.Goals as goal

pub returns : goal.returns
returns c =
    rw (
      c.from-4.ensures,
      c.from-5.ensures,
      c.from-6.ensures,
      c.from.ensures,
      c.from-2.ensures,
      c.from-3.ensures,
    )
    (in_two_steps columns c.args.first c.args.days c.requires.0 c.requires.1 c.requires.2)
