-- `vectors::input::read_runs` ends, since each run leaves less to fill.
use Rattle.std.proofs.Common.{length}
use Rattle.vectors.proofs.input.read_runs.Given as goal

abbrev pub decreases-loop-rest : goal.decreases-loop-rest
decreases-loop-rest g l = length l.rest
