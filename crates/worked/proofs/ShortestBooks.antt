-- The facts of the shortest file: the definitions give them, by computation.
-- Assumes nothing.
use mathlib.Core.Path.{◌≡◌, refl}
use mathlib.Core.List.{List, map}
use Prim.Native.Nat.{ℕ}
use Rattle.shortest.specs.Shortest.{some_row, leg_alone, file_showing, shortest_file, shortest_refusal, shortest_of, shortest_output}
use Rattle.market_risk.specs.Entries.{shown_entries}
use Rattle.book.specs.Parts.{accepts}
use Rattle.worked.specs.Worked.{Worked}
use Rattle.worked.specs.ShortestFacts.{contents_facts, row_facts}
use Rattle.worked.proofs.WorkedBooks.{given}
use Rattle.worked.proofs.NettingBooks.{netted}

unfoldable pub shown : List Worked → List (List ℕ)
unfolding netted accepts some_row leg_alone file_showing shortest_file shortest_refusal shortest_of shortest_output shown_entries
shown facts = given facts

pub contents_facts_lem : shown contents_facts ≡ map (λ w. w.expected) contents_facts
unfolding shown contents_facts
contents_facts_lem = refl

pub row_facts_lem : shown row_facts ≡ map (λ w. w.expected) row_facts
unfolding shown row_facts
row_facts_lem = refl
