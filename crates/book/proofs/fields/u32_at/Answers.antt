-- `book::fields::u32_at` meets its contract: the low byte first.
use mathlib.Core.Path.{◌≡◌, ap}
use Prim.Native.Nat.{ℕ, ◌+◌}
use lib.ListN.{get_or}
use native.Mathlib.Omega.{arith}
use Rattle.book.specs.Fields.{u16_at, u32_at}
use Rattle.book.proofs.fields.u32_at.Goals as goal

pub returns : goal.returns
unfolding u16_at u32_at
returns c =
    let last : c.args.at + 2 + 1 ≡ c.args.at + 3 = omega arith in
    omega (arith, c.from_le_bytes.ensures, ap (λ (n : ℕ). get_or c.args.s.now n 0) last)
