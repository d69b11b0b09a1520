-- The facts of netting: the definitions give them, by computation.
-- Assumes nothing.
use mathlib.Core.Path.{◌≡◌, refl}
use mathlib.Core.List.{List, [], ◌∷◌, map}
use Prim.Native.Nat.{ℕ}
use Rattle.issues.specs.Issues.{has, placed, netted_from}
use Rattle.issues.specs.Agreeing.{same_terms, unlike_first, differs, over_limit}
use Rattle.issues.specs.Comparing.{compared_with, comparisons_from}
use Rattle.layout.specs.Files.{book_of}
use Rattle.layout.specs.Room.{or_next, room_refusal, figure_of, output_of}
use Rattle.netting.specs.Netted.{first_found, found_in_class, issues_refusal, netted_book, comparisons_of, netting_refusal, netted_answer, netted_of, netting_output}
use Rattle.worked.specs.Worked.{Worked, costs}
use Rattle.worked.specs.WrittenBooks.{bond}
use Rattle.worked.specs.NettingFacts.{written_facts, told_facts, near_issue, far_issue, joined_issue, able_facts, compared_facts, joined_facts}
use Rattle.worked.proofs.WorkedBooks.{given}

unfoldable pub netted : List Worked → List (List ℕ)
unfolding given has placed netted_from same_terms unlike_first differs over_limit compared_with comparisons_from comparisons_of first_found found_in_class or_next issues_refusal room_refusal figure_of output_of netted_book netting_refusal netted_answer netted_of netting_output
netted facts = given facts

pub written-facts : netted written_facts ≡ map (λ w. w.expected) written_facts
unfolding netted written_facts
written-facts = refl

pub told_facts_lem : netted told_facts ≡ map (λ w. w.expected) told_facts
unfolding netted told_facts
told_facts_lem = refl

pub able_facts_lem : netted able_facts ≡ map (λ w. w.expected) able_facts
unfolding netted able_facts
able_facts_lem = refl

pub compared_facts_lem : netted compared_facts ≡ map (λ w. w.expected) compared_facts
unfolding netted compared_facts
compared_facts_lem = refl

-- ---- E4: each netted book first, and then what it costs
abbrev far_near : List ℕ
far_near = book_of (bond 270 0 75 0 ∷ bond 6000 0 0 10 ∷ [])

near-netted : netted_book near_issue ≡ near_issue
unfolding netted
near-netted = refl

far_netted : netted_book far_issue ≡ far_issue
unfolding netted
far_netted = refl

join_netted : netted_book joined_issue ≡ far_near
unfolding netted
join_netted = refl

abbrev books_cost : (near far join : List ℕ) → List Worked
books_cost near far join =
    costs near 0 210000 0 0 0 0 210000 2 ∷ costs far 0 210000 0 0 0 0 210000 2 ∷ costs join 0 525000 0 0 0 0 525000 2 ∷ []

books_cost_lem : given (books_cost near_issue far_issue far_near) ≡ map (λ w. w.expected) (books_cost near_issue far_issue far_near)
unfolding given
books_cost_lem = refl

pub joined-facts : given joined_facts ≡ map (λ w. w.expected) joined_facts
unfolding joined_facts
joined-facts = rw (near-netted, far_netted, join_netted) books_cost_lem
