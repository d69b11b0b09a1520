-- `options::rows::OptionTable::option` meets its contract: the table is as long as its rows, all of which are in range.
use native.Mathlib.Omega.{arith}
use Rattle.options.proofs.Ranges.{accepted_options}
use Rattle.options.proofs.Walking.{each_taken}
use Rattle.options.proofs.rows.OptionTable.option.Goals as goal

pub option_at-requires : goal.option_at-requires
option_at-requires c = omega (arith, (accepted_options _ c.args.self.taken).sized)

pub returns-clause-allowed : goal.returns-clause-allowed
returns-clause-allowed c = rw c.option_at.ensures (each_taken _ c.args.self.taken _ c.requires)
