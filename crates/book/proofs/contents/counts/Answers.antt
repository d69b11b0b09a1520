-- `book::contents::counts` meets its contract: four fields at the head of the file.
use Rattle.book.specs.Counts.{counts_of}
use Rattle.book.proofs.contents.counts.Goals as goal

pub returns : goal.returns
unfolding counts_of
returns c = cc
