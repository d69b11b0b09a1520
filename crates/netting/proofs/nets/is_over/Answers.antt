-- `netting::nets::is_over` meets its contract: the absolute net is how far the sides are apart.
use mathlib.Core.Path.{◌≡◌, ap, ◌∙◌}
use native.Mathlib.Omega.{arith}
use lib.Dec.{ltb}
use Rattle.std.specs.Int.{abs_diff}
use Rattle.book.specs.Refusals.{most_amount}
use Rattle.ladder.specs.declared.positions.Position.{Position}
use Rattle.ladder.specs.Position.{absolute_net}
use Rattle.ladder.proofs.Matching.{net-sides}
use Rattle.netting.proofs.nets.is_over.Goals as goal

apart : (sums : Position) → abs_diff sums.long sums.short ≡ absolute_net sums
apart sums = omega (arith, net-sides sums)

pub returns : goal.returns
returns c = ap (ltb most_amount) (c.abs_diff.ensures ∙ apart c.args.sums)
