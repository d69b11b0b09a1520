-- `netting::firsts::Kept::first_row` meets its contract: a row of issue 0, of an issue that is kept,
-- and of a new one.
use mathlib.Core.Path.{◌≡◌, refl, ◌∙◌}
use mathlib.Core.Bool.{cond}
use Prim.Native.Nat.{ℕ, ◌+◌, ◌≤◌, ◌<◌}
use native.Mathlib.Omega.{arith}
use borrow.Author.Tests.{eq-eqb, ne_eqb}
use lib.Dec.{eqb}
use lib.ListN.{length, get_or, set}
use lib.Seq.{length-take-le}
use Rattle.book.specs.Refusals.{most_rows}
use Rattle.issues.specs.Comparing.{compared_with}
use Rattle.netting.specs.declared.firsts.Kept.{Kept}
use Rattle.netting.specs.Inner.Places.{place_of}
use Rattle.netting.specs.Inner.Kept.{issues_in, FirstRowFound}
use Rattle.netting.proofs.Keeping.{first-row_none, first-row_old, first-row_new}
use Rattle.netting.proofs.firsts.Kept.first_row.Goals as goal

module _ {issue row : ℕ} (kept : Kept) (some : issue ≡ 0 → ⊥) (room : row < most_rows) (few : kept.many ≤ row) where
  size : length (issues_in kept) ≡ kept.many
  size = length-take-le kept.many kept.issues (omega (arith, kept.sized_issues))

  -- of a row with an issue what the search made
  by_search : {compared : ℕ} → compared ≡ compared_with (issues_in kept) issue → compared ≡ cond (eqb issue 0) 0 (compared_with (issues_in kept) issue)
  by_search is = is ∙ rw (ne_eqb issue 0 some)

  old : {compared : ℕ} → compared ≡ compared_with (issues_in kept) issue → {at : ℕ} → (at ≡ place_of issue (issues_in kept)) × (at < length (issues_in kept))
      → {place : ℕ} → place ≡ get_or kept.places at 0 → FirstRowFound issue row kept place compared kept
  old is {at} found at_place =
      record {
        is_compared = by_search is;
        after = λ before rows now.
            rw (at_place, found.0) (first-row_old before issue (omega arith) now some (omega (arith, found.0, found.1, size)));
      }

  new : {compared : ℕ} → compared ≡ compared_with (issues_in kept) issue → place_of issue (issues_in kept) ≡ length (issues_in kept)
      → (kept' : Kept) → kept'.issues ≡ set kept.issues kept.many issue → kept'.places ≡ set kept.places kept.many row → kept'.many ≡ kept.many + 1
      → FirstRowFound issue row kept row compared kept'
  new is past kept' issues places many =
      record {
        is_compared = by_search is;
        after = λ before rows now.
            rw (← rows) (first-row_new before issue (omega arith) now some (past ∙ size) kept' issues (rw rows places) many);
      }

pub returns-then-issue-eq0 : goal.returns-then-issue-eq0
returns-then-issue-eq0 c =
    record {
      is_compared = simp (eq-eqb _ _ c.if-issue-eq0.true);
      after = λ before size now. rw (← size) (first-row_none before _ (omega arith) now c.if-issue-eq0.true);
    }

pub returns-in-Some : goal.returns-in-Some
returns-in-Some c =
    old c.args.self.now c.if-issue-eq0.false c.requires.0 c.requires.1 c.find-found.ensures.compared (rw c.in-Some.is at c.find-found.ensures.at) c.from.ensures

pub returns-in-None : goal.returns-in-None
returns-in-None c =
    new c.args.self.now c.if-issue-eq0.false c.requires.0 c.requires.1 c.find-found.ensures.compared (rw c.in-None.is at c.find-found.ensures.at) _ refl refl refl
