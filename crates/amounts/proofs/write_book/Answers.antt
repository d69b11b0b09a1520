-- `amounts::write_book` meets its contract: the counts and the bodies make the book, if it fits.
use mathlib.Core.Path.{◌≡◌, sym, ap, ◌∙◌}
use mathlib.Core.List.{List, flat_map}
use Prim.Native.Nat.{ℕ, ◌+◌, ◌*◌, ◌≤◌, ◌<◌}
use native.Mathlib.Omega.{arith}
use lib.ListN.{length}
use Rattle.book.specs.declared.Counts.{Counts}
use Rattle.book.specs.Counts.{contents_size, classes, counts_of, count_of_rows}
use Rattle.book.specs.Refusals.{refused}
use Rattle.book.specs.Reasons.{number_of, numbers_of, at_start}
use Rattle.book.specs.declared.Reason.TheVariants.{Room}
use Rattle.book.specs.declared.Refused.{Refused}
use Rattle.book.specs.Accepted.{Accepted}
use Rattle.book.proofs.Acceptance.{accepts_accepted}
use Rattle.ladder.specs.Position.{Bands}
use Rattle.layout.specs.Written.{written}
use Rattle.layout.specs.Files.{contents_bytes}
use Rattle.layout.specs.Room.{room_refusal, output_of}
use Rattle.layout.proofs.Writing.{written-length}
use Rattle.layout.proofs.Whole.{contents_length}
use Rattle.layout.proofs.Room.{no_room, enough_room, output_kept, refused_answer, length_answer}
use Rattle.amounts.specs.Inner.Standing.{positions_in, standing_book}
use Rattle.amounts.specs.Inner.Counting.{left_counts}
use Rattle.amounts.specs.Inner.Writing.{standing_body}
use Rattle.amounts.proofs.Outcome.{size_is, bodies_size, writes-whole}
use Rattle.amounts.proofs.write_book.Goals.{After-rows}
use Rattle.amounts.proofs.write_book.Goals as goal

-- by counts that are the book's own
module _ {s : List ℕ} (ok : Accepted s) (positions : Bands) {counts : Counts} (own : counts ≡ counts_of s) where
  abbrev book : List ℕ
  book = standing_book positions s

  module _ {left : Counts} (is_left : left ≡ left_counts positions counts) where
    size : (rows : ℕ) → rows ≡ count_of_rows left → 8 + 16 * rows ≡ length book
    size rows is_rows = rw (is_rows, is_left, own) (size_is s ok positions)

    whole : (out : List ℕ) → length book ≤ length out → {out' after : List ℕ} → out' ≡ written out 0 (contents_bytes left)
        → after ≡ written out' contents_size (flat_map (standing_body positions s) classes) → after ≡ written out 0 book
    whole out room contents bodies = bodies ∙ rw (contents, is_left, own) (writes-whole s ok positions out room)

-- the contents leave the output as long as it was
contents_room : (out : List ℕ) (left : Counts) → contents_size ≤ length out → length (written out 0 (contents_bytes left)) ≡ length out
contents_room out left h = written-length out (contents_bytes left) 0 (omega (arith, contents_length left))

twelve : (refused 12 0).number ≡ 0 → ⊥
unfolding refused
twelve e = omega arith

-- 12 in numbers
room_number : {r : Refused} → r ≡ at_start Room → numbers_of r ≡ refused 12 0
unfolding numbers_of number_of refused
room_number is = ap numbers_of is

pub left_counts-left-requires : goal.left_counts-left-requires
left_counts-left-requires c = rw c.args.book.own (accepts_accepted _ c.args.book.accepted).few

-- the book that is to be written is as long as the counts say: it has room, or not
module _ (c : After-rows) where
  abbrev whole_book : List ℕ
  whole_book = standing_book (positions_in c.args.amounts.now) c.args.book.bytes.now

  ok : Accepted c.args.book.bytes.now
  ok = accepts_accepted _ c.args.book.accepted

  long : 8 + 16 * c.rows.result ≡ length whole_book
  long = size ok _ c.args.book.own c.left_counts-left.ensures _ c.rows.ensures.0

  short : length c.args.out.now < 8 + 16 * c.rows.result → room_refusal (length whole_book) (length c.args.out.now) ≡ refused 12 0
  short h = no_room (length whole_book) (length c.args.out.now) (omega (arith, long))

  room : 8 + 16 * c.rows.result ≤ length c.args.out.now → length whole_book ≤ length c.args.out.now
  room h = omega (arith, long)

  enough : 8 + 16 * c.rows.result ≤ length c.args.out.now → room_refusal (length whole_book) (length c.args.out.now) ≡ refused 0 0
  enough h = enough_room (length whole_book) (length c.args.out.now) (room h)

pub returns-then-out-length-clause-length : goal.returns-then-out-length-clause-length
returns-then-out-length-clause-length c =
    rw (short (goal.at.returns-then-out-length-clause-length c).After-rows c.if-out-length.true) (refused_answer _ _ (room_number c.into.ensures))

pub returns-then-out-length-clause-output : goal.returns-then-out-length-clause-output
returns-then-out-length-clause-output c =
    rw (short (goal.at.returns-then-out-length-clause-output c).After-rows c.if-out-length.true) (sym (output_kept (refused 12 0) twelve _ _))

pub write_bodies-requires : goal.write_bodies-requires
write_bodies-requires c =
    let turn = (goal.at.write_bodies-requires c).After-rows in
    let same = ap length c.write_contents.ensures ∙ contents_room c.args.out.now _ (omega arith) in
    record { can = c.requires; fits = omega (arith, room turn c.if-out-length.false, same, bodies_size _ (ok turn) (positions_in c.args.amounts.now)) }

pub returns-clause-length : goal.returns-clause-length
returns-clause-length c =
    let turn = (goal.at.returns-clause-length c).After-rows in
    rw (enough turn c.if-out-length.false) (length_answer _ (long turn))

pub returns-clause-output : goal.returns-clause-output
unfolding output_of refused
returns-clause-output c =
    let turn = (goal.at.returns-clause-output c).After-rows in
    rw (enough turn c.if-out-length.false)
    (whole (ok turn) _ c.args.book.own c.left_counts-left.ensures c.args.out.now (room turn c.if-out-length.false) c.write_contents.ensures c.write_bodies.ensures)
