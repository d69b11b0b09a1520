-- The facts of offsetting: the definitions give them, by computation.
-- Assumes nothing.
use mathlib.Core.Path.{◌≡◌, refl}
use mathlib.Core.List.{List, map}
use Prim.Native.Nat.{ℕ}
use Rattle.layout.specs.Room.{or_next, room_refusal, figure_of, written_of, output_of}
use Rattle.swaps.specs.Fitting.{most_days_apart, opposite, government, near, fits}
use Rattle.swaps.specs.Offset.{some_fits, without_fit, offset_from}
use Rattle.offsetting.specs.Offset.{offset_by, offset_book, offsetting_refusal, offset_of, offsetting_output}
use Rattle.worked.specs.Worked.{Worked}
use Rattle.worked.specs.OffsettingFacts.{fit_facts, offset_facts, dearer_facts}
use Rattle.worked.proofs.WorkedBooks.{given}

-- which rows fit and which are left; and with them the call
unfoldable rows : List Worked → List Worked
unfolding most_days_apart opposite government near fits some_fits without_fit offset_from
rows facts = facts

unfoldable pub offset : List Worked → List (List ℕ)
unfolding given rows offset_by offset_book or_next room_refusal figure_of written_of output_of offsetting_refusal offset_of offsetting_output
offset facts = given (rows facts)

pub fit_facts_lem : offset fit_facts ≡ map (λ w. w.expected) fit_facts
unfolding offset fit_facts
fit_facts_lem = refl

pub offset_facts_lem : offset offset_facts ≡ map (λ w. w.expected) offset_facts
unfolding offset offset_facts
offset_facts_lem = refl

pub dearer_facts_lem : offset dearer_facts ≡ map (λ w. w.expected) dearer_facts
unfolding offset dearer_facts
dearer_facts_lem = refl
