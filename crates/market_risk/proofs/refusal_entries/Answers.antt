-- `market_risk::refusal_entries` meets its contract.
use Rattle.std.proofs.Common.{rules}
use Rattle.market_risk.specs.Entries.{refusal_entries}
use Rattle.market_risk.proofs.refusal_entries.Goals as goal

pub returns : goal.returns
unfolding refusal_entries
returns c = search rules
