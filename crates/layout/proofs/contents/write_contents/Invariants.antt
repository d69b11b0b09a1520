-- `layout::contents::write_contents` meets its contract: the loop writes the counts one after the other.
use Rattle.std.proofs.Common.{ℕ, ◌-◌, ◌*◌, List}
use Rattle.book.specs.declared.Counts.{Counts}
use Rattle.book.specs.Counts.{count_in}
use Rattle.layout.specs.Files.{two_bytes_of}
use Rattle.layout.proofs.Classwise.{Writes}
use Rattle.layout.proofs.contents.write_contents.Given as goal

unfoldable pub count_piece : Counts → ℕ → List ℕ
count_piece counts class = two_bytes_of (count_in counts class)

abbrev pub invariant-loop-class : goal.invariant-loop-class
invariant-loop-class l = Writes (count_piece l.counts) l.initial.out 0 l.out (2 * (l.class - 1)) l.class
