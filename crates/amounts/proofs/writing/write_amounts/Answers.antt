-- `amounts::writing::write_amounts` meets its contract: nothing for amounts of zero, else the sixteen bytes of the row with them.
use mathlib.Core.Path.{◌≡◌, sym, ap, ◌∙◌}
use mathlib.Core.Bool.{Bool, true, false, not}
use Prim.Native.Nat.{ℕ}
use lib.Dec.{eqb}
use borrow.Author.Tests.{eqb-true, eq-eqb}
use native.Mathlib.Omega.{arith}
use lib.ListN.{length}
use Rattle.book.specs.declared.Row.{Row}
use Rattle.layout.specs.Written.{written}
use Rattle.layout.specs.Files.{row_bytes}
use Rattle.layout.proofs.Writing.{written-nothing}
use Rattle.layout.proofs.Rows.{row_length}
use Rattle.issues.specs.Issues.{holding}
use Rattle.amounts.proofs.Bytes.{bytes_none, bytes_some}
use Rattle.amounts.proofs.writing.write_amounts.Goals as goal

-- the test is the definition's
no_amounts : {test : Bool} (gross : ℕ) → test ≡ not (eqb gross 0) → test ≡ false → gross ≡ 0
no_amounts gross is none = grind (arith, eqb-true, eq-eqb)

some_amounts : {test : Bool} (gross : ℕ) → test ≡ not (eqb gross 0) → test ≡ true → gross ≡ 0 → ⊥
some_amounts gross is some e = grind (arith, eqb-true, eq-eqb)

pub returns-then-not-is_left : goal.returns-then-not-is_left
returns-then-not-is_left c =
    let none = bytes_none c.args.row c.args.amounts (no_amounts _ c.is_left.ensures c.if-not-is_left.true) in
    rw none (record { end = omega arith; bytes = sym (written-nothing _ c.args.at) })

pub write_row-requires : goal.write_row-requires
write_row-requires c =
    let some = bytes_some c.args.row c.args.amounts (some_amounts _ c.is_left.ensures c.if-not-is_left.false) in
    omega (arith, ap length some, row_length (holding c.args.row c.args.amounts))

pub returns : goal.returns
returns c =
    let some = bytes_some c.args.row c.args.amounts (some_amounts _ c.is_left.ensures c.if-not-is_left.false) in
    let row = row_length (holding c.args.row c.args.amounts) in
    let held = ap (λ (r : Row). written c.args.out.now c.args.at (row_bytes r)) c.holding.ensures in
    rw some (record { end = omega arith; bytes = c.write_row.ensures ∙ held })
