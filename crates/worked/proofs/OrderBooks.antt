-- The facts of netting and offsetting in either order, and of the one call: the definitions give them, by computation.
-- Assumes nothing.
use mathlib.Core.Path.{◌≡◌, refl}
use mathlib.Core.List.{List, map}
use Prim.Native.Nat.{ℕ}
use Rattle.offsetting.specs.NetOffset.{net_offset_book, net_offset_refusal, net_offset_of, net_offset_output}
use Rattle.market_risk.specs.Entries.{netted_entries}
use Rattle.worked.specs.Worked.{Worked}
use Rattle.worked.specs.OrderFacts.{either_order_facts, one_call_facts}
use Rattle.worked.proofs.WorkedBooks.{given}
use Rattle.worked.proofs.NettingBooks.{netted}
use Rattle.worked.proofs.OffsettingBooks.{offset}

unfoldable pub ordered : List Worked → List (List ℕ)
unfolding netted offset net_offset_book net_offset_refusal net_offset_of net_offset_output netted_entries
ordered facts = given facts

pub either_order_facts_lem : ordered either_order_facts ≡ map (λ w. w.expected) either_order_facts
unfolding ordered either_order_facts
either_order_facts_lem = refl

pub one_call_facts_lem : ordered one_call_facts ≡ map (λ w. w.expected) one_call_facts
unfolding ordered one_call_facts
one_call_facts_lem = refl
