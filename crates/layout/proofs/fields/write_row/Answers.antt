-- `layout::fields::write_row` meets its contract: six pieces written one after the other are the row's bytes.
use Rattle.std.proofs.Common.{◌≡◌, ℕ, ◌+◌, ◌≤◌, List, [], ◌∷◌, ◌++◌, length, refl, arith, rules}
use Rattle.book.specs.declared.Row.{Row}
use Rattle.layout.specs.Written.{written}
use Rattle.layout.specs.Files.{two_bytes_of, four_bytes_of, row_bytes}
use Rattle.layout.proofs.Bytes.{low_two, low_four}
use Rattle.layout.proofs.Writing.{written-more}
use Rattle.layout.proofs.fields.write_row.Goals as goal

row_in_steps : (row : Row) (out : List ℕ) (at : ℕ) {out1 out2 out3 out4 out5 out6 : List ℕ} → at + 16 ≤ length out
    → out1 ≡ written out at (row.group ∷ row.kind ∷ []) → out2 ≡ written out1 (at + 2) (two_bytes_of row.days)
    → out3 ≡ written out2 (at + 4) (two_bytes_of row.coupon) → out4 ≡ written out3 (at + 6) (two_bytes_of row.issue)
    → out5 ≡ written out4 (at + 8) (four_bytes_of row.long) → out6 ≡ written out5 (at + 12) (four_bytes_of row.short)
    → out6 ≡ written out at (row_bytes row)
unfolding two_bytes_of four_bytes_of row_bytes
row_in_steps row out at room e1 e2 e3 e4 e5 e6 =
    let head = row.group ∷ row.kind ∷ [] in
    let days = head ++ two_bytes_of row.days in
    let coupon = days ++ two_bytes_of row.coupon in
    let issue = coupon ++ two_bytes_of row.issue in
    let to-days = written-more out head (two_bytes_of row.days) at (at + 2) e1 e2 refl (omega arith) in
    let to-coupon = written-more out days (two_bytes_of row.coupon) at (at + 4) to-days e3 refl (omega arith) in
    let to-issue = written-more out coupon (two_bytes_of row.issue) at (at + 6) to-coupon e4 refl (omega arith) in
    let to_long = written-more out issue (four_bytes_of row.long) at (at + 8) to-issue e5 refl (omega arith) in
    written-more out (issue ++ four_bytes_of row.long) (four_bytes_of row.short) at (at + 12) to_long e6 refl (omega arith)

pub returns : goal.returns
returns c =
    let row = c.args.row in
    let days = low_two row.days (search rules) c.to_le_bytes.ensures in
    let coupon = low_two row.coupon (search rules) c.to_le_bytes-2.ensures in
    let issue = low_two row.issue (search rules) c.to_le_bytes-3.ensures in
    let long = low_four row.long (search rules) c.to_le_bytes-4.ensures in
    let short = low_four row.short (search rules) c.to_le_bytes-5.ensures in
    row_in_steps row c.args.out.now c.args.at c.requires
    c.write_array.ensures
    (rw days at c.write_array-2.ensures)
    (rw coupon at c.write_array-3.ensures)
    (rw issue at c.write_array-4.ensures)
    (rw long at c.write_array-5.ensures)
    (rw short at c.write_array-6.ensures)
