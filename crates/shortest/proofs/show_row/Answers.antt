-- `shortest::show_row` meets its contract: the contents and then the row are the whole file.
use mathlib.Core.Path.{refl, sym, ap, ◌∙◌}
use mathlib.Core.List.{List}
use Prim.Native.Nat.{ℕ, ◌+◌, ◌*◌, ◌≤◌, ◌<◌}
use native.Mathlib.Omega.{arith}
use lib.ListN.{length}
use Rattle.book.specs.Counts.{contents_size, row_size, counts_of, count_of_rows}
use Rattle.book.specs.Rows.{decode}
use Rattle.book.specs.Refusals.{refusal_of}
use Rattle.book.proofs.Walking.{bytes_at}
use Rattle.book.proofs.Faults.{of_row}
use Rattle.shortest.specs.Shortest.{shortest_file, shortest_answer}
use Rattle.shortest.specs.Inner.Places.{RowIn}
use Rattle.shortest.proofs.Outcome.{file_row, row_within, row_size_lem, not_accepted, has-contents, both_written, kept, wrote}
use Rattle.shortest.proofs.show_row.Goals.{Start}
use Rattle.shortest.proofs.show_row.Goals as goal

pub returns-then-out : goal.returns-then-out
returns-then-out c =
    let s = c.args.book.now in
    let many = c.requires.0 in
    let both = kept s c.args.out.now (shortest_file s) refl (contents_size + row_size) (row_size_lem s many) (not_accepted s (omega arith)) (omega arith) c.from.ensures in
    record { answer = both.0; output = both.1 }

pub counts-counts-requires : goal.counts-counts-requires
counts-counts-requires c = has-contents c.args.book.now (omega (arith, c.requires.0))

pub class_of-class-requires : goal.class_of-class-requires
class_of-class-requires c =
    omega (arith, row_within c.args.book.now c.requires.0, ap count_of_rows c.counts-counts.ensures)

-- where the row lies
module _ (start : Start) where
  abbrev book : List ℕ
  book = start.args.book.now

  row_lies : (8 + 16 * start.args.row + 16 ≤ length book) × (start.args.row < 4000)
  row_lies =
      let sized = (of_row book start.requires.0).sized in
      let within = row_within book start.requires.0 in
      (omega (arith, sized.sized, start.requires.1), omega (arith, sized.few, start.requires.1))

pub overflow_mul-row : goal.overflow_mul-row
overflow_mul-row c = record { fits = omega (arith, (row_lies (goal.at.overflow_mul-row c).Start).1) }

pub overflow_add-row : goal.overflow_add-row
overflow_add-row c = record { fits = omega (arith, (row_lies (goal.at.overflow_add-row c).Start).1) }

pub row_from-leg-requires : goal.row_from-leg-requires
row_from-leg-requires c = (row_lies (goal.at.row_from-leg-requires c).Start).0

pub returns : goal.returns
unfolding shortest_answer
returns c =
    let s = c.args.book.now in
    let out = c.args.out.now in
    let many = c.requires.0 in
    let there : RowIn (counts_of s) (refusal_of s).row c.class_of-class.result =
    rw (← c.requires.1, ← c.counts-counts.ensures) c.class_of-class.ensures in
    let row = c.row_from-leg.ensures ∙ ap (λ (n : ℕ). decode (bytes_at s n)) c.requires.1 in
    let writes = both_written out (omega arith) c.one_in.ensures row c.write_contents.ensures c.write_row.ensures in
    let both = wrote s out _ (file_row s many _ there) (contents_size + row_size) (sym (ap length (file_row s many _ there)) ∙ row_size_lem s many) _ (not_accepted s (omega arith)) (omega arith) writes in
    record { answer = both.0; output = both.1 }
