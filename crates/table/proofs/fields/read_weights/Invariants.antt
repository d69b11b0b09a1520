-- `table::fields::read_weights` meets its contract: the array is filled band by band.
use Rattle.sums.proofs.Filling.{Filled}
use Rattle.table.specs.Loaded.{table_bands, weight_at}
use Rattle.table.proofs.fields.read_weights.Given as goal

abbrev pub invariant-loop-band : goal.invariant-loop-band
invariant-loop-band l = Filled table_bands (weight_at l.bytes) l.weights l.band
