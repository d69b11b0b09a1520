-- `vectors::lines::checksum` is safe: the sum stays below its modulus.
use Rattle.std.proofs.Common.{◌<◌}
use Rattle.vectors.proofs.lines.checksum.Given as goal

abbrev pub invariant-loop-byte : goal.invariant-loop-byte
invariant-loop-byte l = l.sum < 1000000007
