-- `charges::tables::group_total` meets its contract: the entries come to their sum.
use native.Mathlib.Omega.{arith}
use Rattle.charges.proofs.Made.{summed_entries}
use Rattle.charges.proofs.tables.group_total.Goals as goal

pub total-requires : goal.total-requires
total-requires c = omega (arith, summed_entries c.args.list, c.requires)

pub returns : goal.returns
returns c = omega (arith, c.total.ensures, summed_entries c.args.list)
