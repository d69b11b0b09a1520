-- `charges::ladders::tally` meets its contract: the loop keeps that the array holds the group's positions of the rows passed.
use mathlib.Core.Path.{◌≡◌, sym, ◌∙◌}
use mathlib.Core.List.{[]}
use Prim.Native.Nat.{◌<◌}
use native.Mathlib.Omega.{arith}
use lib.ListN.{length, get_or, length-map}
use Rattle.book.specs.Rows.{decode}
use Rattle.book.specs.Inner.Reading.{part_rows}
use Rattle.ladder.specs.Inner.Steps.{longs_of, shorts_of}
use Rattle.ladder.proofs.Arrays.{long_at, short_at}
use Rattle.charges.specs.Bands.{band_in}
use Rattle.charges.proofs.Legs.{Bounded, bounded}
use Rattle.charges.proofs.Tallying.{row_at, side_room, group_next, group_kept}
use Rattle.charges.proofs.ladders.tally.Goals.{After-row_at-row, Start}
use Rattle.charges.proofs.ladders.tally.Goals.{then-from-group, else-from-group}
use Rattle.charges.proofs.ladders.tally.Goals as goal

-- the row of a turn: one of the part's
row_here : (c : After-row_at-row)
    → c.row_at-row.result ≡ get_or (part_rows c.args.part.now) c.loop-i.i (decode [])
row_here c = c.row_at-row.ensures ∙ sym (row_at _ _)

below : (c : After-row_at-row) → c.loop-i.i < length (part_rows c.args.part.now)
below c = rw length-map (omega (arith, c.row_count-i-end.ensures))

-- what the sums of all rows come to
most : (start : Start) → Bounded start.args.class (part_rows start.args.part.now)
most start = bounded _ _ start.requires.clean start.requires.few

-- the two sides of a band with the row's amounts
pub with_row-requires : goal.with_row-requires
with_row-requires c =
    let at = (goal.at.with_row-requires c).After-row_at-row in
    let bounds = most (goal.at.with_row-requires c).Start in
    let positions = c.loop-i.positions in
    rw c.band_in-band.ensures.0
    (omega (
      arith,
      bounds.longs,
      bounds.shorts,
      side_room c.args.class c.args.group _ _ _ (below at) (row_here at) (λ row. row.long)
          (longs_of positions) c.loop-i.invariant.is_longs (omega arith) (omega (arith, c.band_in-band.ensures)),
      side_room c.args.class c.args.group _ _ _ (below at) (row_here at) (λ row. row.short)
          (shorts_of positions) c.loop-i.invariant.is_shorts (omega arith) (omega (arith, c.band_in-band.ensures)),
      long_at positions (band_in c.args.class c.row_at-row.result),
      short_at positions (band_in c.args.class c.row_at-row.result),
    ))

pub loop-i-preserved : goal.loop-i-preserved
loop-i-preserved c =
    let at = (goal.at.loop-i-preserved c).After-row_at-row in
    elim c.if-from-group.branch [
      | then-from-group w ↦
          rw (
            w.positions-is,
            w.with_row.ensures,
            w.band_in-band.ensures.0,
          )
          (group_next c.args.class c.args.group _ _ _ (below at)
          (row_here at) _ c.loop-i.invariant (omega arith))
      | else-from-group w ↦ rw w.positions-is
          (group_kept c.args.class c.args.group _ _ _ (below at)
          (row_here at) _ c.loop-i.invariant
          (λ own. w.if-from-group.false (c.from.ensures ∙ own)))
    ]
