-- The facts of the dearest book: the definitions give them, by computation.
-- Assumes nothing.
use mathlib.Core.Path.{◌≡◌, refl}
use mathlib.Core.List.{List, map}
use Prim.Native.Nat.{ℕ}
use Rattle.layout.specs.Room.{or_next, room_refusal, figure_of, output_of}
use Rattle.market_risk.specs.Entries.{costed_entries}
use Rattle.dearest.specs.Dearest.{dearest_row, dearest_book, limits_refusal, dearest_refusal, dearest_of, dearest_output}
use Rattle.worked.specs.Worked.{Worked}
use Rattle.worked.specs.DearestFacts.{dearest_facts, cheaper_facts}
use Rattle.worked.proofs.WorkedBooks.{given}

unfoldable pub dearest : List Worked → List (List ℕ)
unfolding given costed_entries or_next room_refusal figure_of output_of dearest_row dearest_book limits_refusal dearest_refusal dearest_of dearest_output
dearest facts = given facts

pub dearest_facts_lem : dearest dearest_facts ≡ map (λ w. w.expected) dearest_facts
unfolding dearest dearest_facts
dearest_facts_lem = refl

pub cheaper_facts_lem : given cheaper_facts ≡ map (λ w. w.expected) cheaper_facts
unfolding given cheaper_facts
cheaper_facts_lem = refl
