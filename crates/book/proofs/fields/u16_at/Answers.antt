-- `book::fields::u16_at` meets its contract: the low byte first.
use native.Mathlib.Omega.{arith}
use Rattle.book.specs.Fields.{u16_at}
use Rattle.book.proofs.fields.u16_at.Goals as goal

pub returns : goal.returns
unfolding u16_at
returns c = omega (arith, c.from_le_bytes.ensures)
