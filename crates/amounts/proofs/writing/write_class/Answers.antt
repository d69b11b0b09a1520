-- `amounts::writing::write_class` meets its contract: writing the rows that are left makes the whole.
use mathlib.Core.Path.{◌≡◌, ap, ap₂, ◌∙◌}
use mathlib.Core.List.{List}
use Prim.Native.Nat.{ℕ, ◌+◌, ◌≤◌, ◌<◌}
use native.Mathlib.Omega.{arith}
use lib.ListN.{length, get_or, length-map}
use Rattle.book.specs.Rows.{rows_in, decode}
use Rattle.book.specs.Refusals.{most_amount}
use Rattle.book.specs.Inner.Reading.{part_rows}
use Rattle.ladder.specs.Position.{gross}
use Rattle.layout.specs.Written.{written}
use Rattle.amounts.specs.Inner.Standing.{positions_in}
use Rattle.amounts.specs.Inner.Writing.{placed_bytes}
use Rattle.book.proofs.ClassRows.{no_row, row_is}
use Rattle.amounts.proofs.Bytes.{wrote_none, row_room, wrote_next, wrote_all}
use Rattle.amounts.proofs.writing.write_class.Goals.{After-at, After-row_at-leg}
use Rattle.amounts.proofs.writing.write_class.Goals as goal

pub loop-row-init : goal.loop-row-init
loop-row-init c = wrote_none _ _ _ _ _

-- the row of a turn is there
inside : (c : After-row_at-leg) → c.loop-row.row < length (part_rows c.args.part.now)
inside c =
    omega (arith, c.loop-row-test.true, c.row_count-row-end.ensures, length-map (rows_in c.args.part.now) decode)

pub overflow_add-first : goal.overflow_add-first
overflow_add-first c = omega (arith, inside (goal.at.overflow_add-first c).After-row_at-leg, c.requires.numbers)

pub at-requires : goal.at-requires
at-requires c = omega (arith, inside (goal.at.at-requires c).After-row_at-leg, c.requires.numbers)

-- its bytes with its amounts
module _ (c : After-at) where
  bytes_are : placed_bytes c.row_at-leg.result c.at.result
      ≡ placed_bytes (get_or (part_rows c.args.part.now) c.loop-row.row no_row)
      (positions_in c.args.amounts.now
      (c.args.first + c.loop-row.row))
  bytes_are = ap₂ placed_bytes (c.row_at-leg.ensures ∙ row_is _ _) c.at.ensures

pub write_amounts-end-requires : goal.write_amounts-end-requires
write_amounts-end-requires c =
    let small : gross c.at.result ≤ most_amount = rw c.at.ensures (c.requires.within c.loop-row.row (inside (goal.at.write_amounts-end-requires c).After-row_at-leg)) in
    let room = row_room _ _ _ _ _ _ _ _ c.loop-row.invariant (inside (goal.at.write_amounts-end-requires c).After-row_at-leg) c.requires.fits in
    record { within = small; fits = omega (arith, room, ap length (bytes_are (goal.at.write_amounts-end-requires c).After-at)) }

pub loop-row-preserved : goal.loop-row-preserved
loop-row-preserved c =
    let bytes = bytes_are (goal.at.loop-row-preserved c).After-at in
    wrote_next _ _ _ _ _ _ _ _ c.loop-row.invariant (inside (goal.at.loop-row-preserved c).After-row_at-leg) c.requires.fits _ _
    (c.write_amounts-end.ensures.end ∙ ap (λ (l : List ℕ). c.loop-row.end + length l) bytes)
    (c.write_amounts-end.ensures.bytes ∙ ap (written c.loop-row.out c.loop-row.end) bytes)

pub shape_of-out : goal.shape_of-out
shape_of-out c = c.loop-row.invariant.same

pub returns : goal.returns
returns c =
    let all = wrote_all _ _ _ _ _ _ _ _ c.loop-row.invariant
    (omega (arith, c.loop-row-test.false, c.row_count-row-end.ensures, length-map (rows_in c.args.part.now) decode)) in
    record { end = all.0; bytes = all.1 }
