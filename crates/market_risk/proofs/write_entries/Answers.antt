-- `market_risk::write_entries` meets its contract: the part that was lent comes back as the entries.
use mathlib.Core.Path.{ap, ◌∙◌}
use mathlib.Core.List.{List, ◌++◌}
use Prim.Native.Nat.{ℕ, ◌+◌, ◌-◌}
use native.Mathlib.Omega.{arith}
use lib.ListN.{length, take}
use borrow.Rule.Slice.PartMut.{post_of, Post-is}
use Rattle.layout.specs.Written.{written}
use Rattle.market_risk.proofs.write_entries.Goals as goal

pub returns : goal.returns
unfolding written
returns c =
    let out = c.args.out.now in
    let at = c.args.at in
    let end = at + length c.args.entries.now in
    ap (λ (l : List ℕ). take at out ++ (l ++ post_of at (end - at) out)) c.copy_from_slice.ensures.after
    ∙ ap (λ (l : List ℕ). take at out ++ (c.args.entries.now ++ l)) (Post-is at end out (omega arith))
