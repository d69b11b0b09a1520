-- `options::rows::OptionTable::len` meets its contract: a table that is taken has its count.
use Rattle.options.proofs.Ranges.{accepted_options}
use Rattle.options.proofs.rows.OptionTable.len.Goals as goal

pub option_count-requires : goal.option_count-requires
option_count-requires c = (accepted_options _ c.args.self.taken).counted
