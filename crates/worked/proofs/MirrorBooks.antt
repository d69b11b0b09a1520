-- Order and mirror, used once: the premise is met, and the claim gives the report.
-- Assumes nothing.
use Prim.Native.Nat.{ℕ}
use mathlib.Core.Path.{◌≡◌, refl}
use mathlib.Core.Logic.{inr}
use mathlib.Core.List.Perm
use mathlib.Core.List.{List, [], Perm, perm_iff_count, List-discrete}
use native.Mathlib.Decide.{ℕ_discrete}
use Rattle.sums.specs.Every.{none, also}
use Rattle.book.specs.Refusals.{refusal_of}
use Rattle.claims.specs.Orders.{Reordered, mirrored_row, MirroredBook}
use Rattle.claims.proofs.Ordering.{ordering}
use Rattle.worked.specs.Worked.{Hold}
use Rattle.worked.specs.MirrorFacts.{mirror_facts, as_held, turned, TurnedHolds}
use Rattle.worked.proofs.WorkedBooks.{computed}

pub mirror_facts_lem : Hold mirror_facts
unfolding mirror_facts mirrored_row
mirror_facts_lem = refl

-- rows that are permuted are there as often
as_often : {rows rows' : List (List ℕ)} → Perm rows rows' → Reordered rows rows'
as_often {rows} {rows'} p = record { each = (perm_iff_count (List-discrete ℕ_discrete)).0 p }

mirrored : MirroredBook as_held turned
unfolding MirroredBook mirrored_row computed
mirrored =
    record {
      counts = refl;
      size = refl;
      bodies = also (as_often (Perm.swap _ _ _)) (also (as_often (Perm.refl _)) (also (as_often (Perm.refl _)) (also (as_often (Perm.refl _)) none)));
    }

accepted : (refusal_of as_held).number ≡ 0
unfolding computed
accepted = refl

pub turned-holds : TurnedHolds
turned-holds = ((ordering [] as_held turned accepted (inr mirrored)).accepted, λ table. (ordering table as_held turned accepted (inr mirrored)).report)
