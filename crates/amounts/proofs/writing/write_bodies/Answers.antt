-- `amounts::writing::write_bodies` meets its contract: the loop writes the bodies one after the other.
use mathlib.Core.Path.{◌≡◌, ap, ◌∙◌}
use mathlib.Core.List.{List}
use Prim.Native.Nat.{ℕ, ◌+◌, ◌≤◌}
use native.Mathlib.Omega.{arith}
use lib.ListN.{length}
use Rattle.book.specs.Inner.Reading.{part_rows}
use Rattle.book.specs.Accepted.{Accepted}
use Rattle.book.specs.Counts.{counts_of}
use Rattle.book.proofs.Placing.{before-within}
use Rattle.book.proofs.Acceptance.{accepts_accepted}
use Rattle.book.proofs.ClassRows.{class_size}
use Rattle.ladder.specs.Position.{Bands}
use Rattle.layout.specs.Written.{written}
use Rattle.layout.proofs.Classwise.{begins, piece_room, writes-next, all_written}
use Rattle.amounts.specs.Inner.Standing.{CanStand}
use Rattle.amounts.specs.Inner.Writing.{standing_bytes, CanWriteRows, standing_body}
use Rattle.amounts.proofs.Parts.{PartIs, part_is}
use Rattle.amounts.proofs.writing.write_bodies.Goals.{After-rows_before}
use Rattle.amounts.proofs.writing.write_bodies.Goals as goal

-- the part of a class of an accepted book, and the number of its first row
module _ {s : List ℕ} (ok : Accepted s) (positions : Bands) {class first : ℕ} {part : List ℕ} (own : PartIs s class first part) where
  bytes_are : standing_bytes positions first (part_rows part) ≡ standing_body positions s class
  bytes_are = rw (own.first_is, own.rows_are)

  settles : CanStand s positions → 1 ≤ class → class ≤ 4 → (at room : ℕ) → at + length (standing_body positions s class) ≤ room
      → CanWriteRows positions first (part_rows part) at room
  settles can low high at room fits =
      let size = ap length own.rows_are ∙ class_size s ok class low high in
      let last = before-within (counts_of s) class in
      record {
        numbers = omega (arith, ok.few, own.first_is);
        within = λ k h. can.within (first + k) (omega (arith, own.first_is));
        fits = rw bytes_are fits;
      }

pub loop-class-init : goal.loop-class-init
loop-class-init c = begins _ _ 8 c.requires.fits

-- the part of a turn
own : (c : After-rows_before) → PartIs c.args.book.bytes.now c.loop-class.class c.rows_before.result c.body.result.now
own c = part_is (accepts_accepted _ c.args.book.accepted) c.args.book.own c.loop-class.invariant.low (omega arith) c.rows_before.ensures.0 c.body.ensures

pub write_class-at-requires : goal.write_class-at-requires
write_class-at-requires c =
    settles (accepts_accepted _ c.args.book.accepted) _ (own (goal.at.write_class-at-requires c).After-rows_before) c.requires.can c.loop-class.invariant.low (omega arith) _ _
    (omega (arith, piece_room _ _ _ _ _ _ c.loop-class.invariant (omega arith)))

pub loop-class-preserved : goal.loop-class-preserved
loop-class-preserved c =
    let bytes = bytes_are (accepts_accepted _ c.args.book.accepted) _ (own (goal.at.loop-class-preserved c).After-rows_before) in
    writes-next _ _ _ c.loop-class.out _ _ c.loop-class.invariant (omega arith) _ _
    (c.write_class-at.ensures.bytes ∙ ap (written c.loop-class.out c.loop-class.at) bytes)
    (c.write_class-at.ensures.end ∙ ap (λ (l : List ℕ). c.loop-class.at + length l) bytes)

pub returns : goal.returns
returns c = all_written _ _ _ _ _ _ c.loop-class.invariant (omega arith)
