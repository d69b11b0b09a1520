-- `book::part` meets its contract: of an accepted book its body, of a refused one nothing.
use mathlib.Core.Path.{sym, ap, ◌∙◌}
use mathlib.Core.List.{List}
use Prim.Native.Nat.{ℕ}
use Rattle.book.specs.Counts.{body_of}
use Rattle.book.specs.Reasons.{told}
use Rattle.book.proofs.Handing.{passed_accepts, refused_accepts, part_accepted, part_refused}
use Rattle.book.proofs.part.Goals as goal

pub returns-in-Ok : goal.returns-in-Ok
unfolding told
returns-in-Ok c =
    c.body.ensures
    ∙ ap (λ (s : List ℕ). body_of s c.args.class) c.in-Ok.ensures.bytes
    ∙ sym (part_accepted _ _ (passed_accepts _ c.in-Ok.ensures.refusal))

pub returns-in-Err : goal.returns-in-Err
unfolding told
returns-in-Err c = sym (part_refused _ _ (refused_accepts _ _ c.in-Err.ensures.refusal))
