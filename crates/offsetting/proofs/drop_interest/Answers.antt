-- `offsetting::drop_interest` meets its contract: the first body has the interest rows.
use mathlib.Core.Path.{◌≡◌, ap, ◌∙◌}
use mathlib.Core.List.{List}
use Prim.Native.Nat.{ℕ, ◌≤◌}
use native.Mathlib.Omega.{arith}
use lib.ListN.{length}
use Rattle.book.specs.Counts.{counts_of, body_of}
use Rattle.book.specs.Legs.{legs_of, of_class}
use Rattle.book.specs.Refusals.{most_rows}
use Rattle.book.specs.Accepted.{Accepted}
use Rattle.book.specs.Inner.Reading.{part_rows}
use Rattle.book.proofs.Placing.{before-within}
use Rattle.book.proofs.ClassRows.{part_rows_lem, class_size}
use Rattle.book.proofs.Acceptance.{accepts_accepted}
use Rattle.offsetting.proofs.drop_interest.Goals as goal

-- the body of the class
module _ {s : List ℕ} (ok : Accepted s) {part : List ℕ} (is : part ≡ body_of s 1) where
  interest : part_rows part ≡ of_class 1 (legs_of s)
  interest = ap part_rows is ∙ part_rows_lem s ok 1 (omega arith) (omega arith)

  few : length (part_rows part) ≤ most_rows
  few = rw interest (omega (arith, class_size s ok 1 (omega arith) (omega arith), before-within (counts_of s) 1, ok.few))

pub drop_pairs-requires : goal.drop_pairs-requires
drop_pairs-requires c = few (accepts_accepted _ c.args.book.accepted) c.body.ensures

pub returns : goal.returns
returns c = rw (interest (accepts_accepted _ c.args.book.accepted) c.body.ensures) at c.drop_pairs.ensures
