-- `book::hand` meets its contract: what lies where is handed of an accepted book alone.
use mathlib.Core.Path.{ap, ◌∙◌}
use Prim.Native.Nat.{ℕ, ◌*◌}
use mathlib.Core.List.{List}
use Rattle.book.specs.Counts.{Counts, row_size, counts_of, count_in}
use Rattle.book.specs.Parts.{start_by}
use Rattle.book.specs.Reasons.{told}
use Rattle.book.proofs.Handing.{handed_refused, handed_accepted}
use Rattle.book.proofs.hand.Goals as goal

pub returns-in_err-counts : goal.returns-in_err-counts
unfolding told
returns-in_err-counts c = handed_refused _ _ _ _ c.from_residual.ensures.1 c.in_err-counts.ensures.refusal

pub returns : goal.returns
unfolding told
returns c =
    let read = c.in_ok-counts in
    let own = read.field-0.own ∙ ap counts_of read.ensures.bytes in
    handed_accepted _ _ read.ensures.refusal _ _
    (c.start.ensures ∙ ap (λ (counts : Counts). start_by counts c.args.class) own)
    (ap (λ (n : ℕ). row_size * n) (c.from.ensures ∙ c.class_rows.ensures ∙ ap (λ (counts : Counts). count_in counts c.args.class) own))
