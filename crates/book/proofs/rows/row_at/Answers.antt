-- `book::rows::row_at` meets its contract: a row of the part, or zeros past the last.
use mathlib.Core.Path.{◌≡◌, sym, ap, ◌∙◌}
use mathlib.Core.List.{[]}
use Prim.Native.Nat.{◌≤◌}
use native.Mathlib.Omega.{arith}
use lib.ListN.{length, get_or-eq_default}
use Rattle.book.specs.Fields.{u16_at, u32_at}
use Rattle.book.specs.Rows.{rows_in, decode}
use Rattle.book.specs.Inner.Reading.{row_of}
use Rattle.book.proofs.Chunks.{chunk_at, row_count}
use Rattle.book.proofs.rows.row_at.Goals as goal

pub returns-then-i-part : goal.returns-then-i-part
unfolding row_of rows_in
returns-then-i-part c =
    c.row_from.ensures ∙ ap decode (sym (chunk_at _ c.args.part.now c.args.i (omega arith)))

pub returns-else-i-part : goal.returns-else-i-part
unfolding row_of decode u16_at u32_at
returns-else-i-part c =
    let past : length (rows_in c.args.part.now) ≤ c.args.i = omega (arith, row_count c.args.part.now) in
    let fields = c.default.ensures in
    let none : c.default.result ≡ decode [] =
    λ i. record {
      group = fields.0 i;
      kind = fields.1.0 i;
      days = fields.1.1.0 i;
      coupon = fields.1.1.1.0 i;
      issue = fields.1.1.1.1.0 i;
      long = fields.1.1.1.1.1.0 i;
      short = fields.1.1.1.1.1.1 i;
    } in
    none ∙ sym (ap decode (get_or-eq_default (rows_in c.args.part.now) [] past))
