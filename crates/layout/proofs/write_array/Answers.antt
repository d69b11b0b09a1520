-- `layout::write_array` meets its contract: the part that was lent comes back as the array.
use mathlib.Core.Path.{◌≡◌, ap, ◌∙◌}
use mathlib.Core.List.{List, ◌++◌}
use Prim.Native.Nat.{ℕ, ◌+◌, ◌-◌}
use native.Mathlib.Omega.{arith}
use lib.ListN.{length, take, drop}
use borrow.Rule.Slice.PartMut.{post_of, Post-is}
use Rattle.layout.specs.Written.{written}
use Rattle.layout.proofs.write_array.Goals as goal

pub returns : goal.returns
unfolding written
returns g c =
    let out = c.args.out.now in
    let at = c.args.at in
    let src = c.args.src.now in
    let end = at + g.row.N in
    let same : end ≡ at + length src = omega (arith, c.told-src) in
    ap (λ (l : List ℕ). take at out ++ (l ++ post_of at (end - at) out)) c.copy_from_slice.ensures.after
    ∙ ap (λ (l : List ℕ). take at out ++ (src ++ l)) (Post-is at end out (omega arith) ∙ ap (λ (k : ℕ). drop k out) same)
