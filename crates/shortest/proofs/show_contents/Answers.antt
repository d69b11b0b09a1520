-- `shortest::show_contents` meets its contract: the contents are the whole file.
use mathlib.Core.Path.{ap, ◌∙◌}
use native.Mathlib.Omega.{arith}
use Rattle.book.specs.declared.Counts.{Counts}
use Rattle.book.specs.Counts.{contents_size}
use Rattle.layout.specs.Files.{contents_bytes}
use Rattle.layout.specs.Written.{written}
use Rattle.layout.proofs.Whole.{contents_length}
use Rattle.shortest.specs.Shortest.{some_row, shortest_answer}
use Rattle.shortest.proofs.Outcome.{file_contents, not_accepted, has-contents, kept, wrote}
use Rattle.shortest.proofs.show_contents.Goals as goal

pub returns-then-out-lt-CONTENTS_SIZE : goal.returns-then-out-lt-CONTENTS_SIZE
returns-then-out-lt-CONTENTS_SIZE c =
    let s = c.args.book.now in
    let both = kept s c.args.out.now _ (file_contents s c.requires.0 c.requires.1) contents_size (contents_length _) (not_accepted s (omega arith)) (omega arith) c.from.ensures in
    record { answer = both.0; output = both.1 }

pub counts-counts-requires : goal.counts-counts-requires
counts-counts-requires c = has-contents c.args.book.now c.requires.0

pub returns : goal.returns
unfolding shortest_answer
returns c =
    let s = c.args.book.now in
    let out = c.args.out.now in
    let writes = c.write_contents.ensures ∙ ap (λ (counts : Counts). written out 0 (contents_bytes counts)) (c.some_row.ensures ∙ ap some_row c.counts-counts.ensures) in
    let both = wrote s out _ (file_contents s c.requires.0 c.requires.1) contents_size (contents_length _) _ (not_accepted s (omega arith)) (omega arith) writes in
    record { answer = both.0; output = both.1 }
