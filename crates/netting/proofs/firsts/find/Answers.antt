-- `netting::firsts::find` meets its contract: no issue before the place is the one that is looked for.
use mathlib.Core.Path.{◌≡◌, sym, ◌∙◌}
use mathlib.Core.List.{List}
use Prim.Native.Nat.{ℕ, ◌+◌, ◌<◌}
use native.Mathlib.Omega.{arith}
use borrow.Author.Tests.{eq-eqb, ne_eqb}
use lib.Dec.{eqb}
use lib.ListN.{length, get_or}
use Rattle.netting.specs.Inner.Places.{place_of}
use Rattle.netting.proofs.Standing.{compared_found, compared_past}
use Rattle.netting.proofs.Places.{Searched, searched_next, searched_here, searched_all}
use Rattle.netting.proofs.firsts.find.Goals as goal

module _ (issue : ℕ) (issues : List ℕ) where
  module _ {at : ℕ} (passed : Searched (λ other. eqb other issue) issues at) (inside : at < length issues) (d : ℕ) where
    here : get_or issues at d ≡ issue → at ≡ place_of issue issues
    here same = sym (searched_here _ issues at d inside passed (eq-eqb _ _ same))

    next : (get_or issues at d ≡ issue → ⊥) → Searched (λ other. eqb other issue) issues (at + 1)
    next other = searched_next _ issues at d inside passed (ne_eqb _ _ other)

  past : {at : ℕ} → Searched (λ other. eqb other issue) issues at → at ≡ length issues → place_of issue issues ≡ length issues
  past passed all = searched_all _ issues _ (omega arith) passed ∙ all

pub returns-then-other-issue-clause-at : goal.returns-then-other-issue-clause-at
returns-then-other-issue-clause-at c = (here _ _ c.loop-at.invariant.1 (omega arith) _ c.if-other-issue.true, omega arith)

pub returns-then-other-issue-clause-compared : goal.returns-then-other-issue-clause-compared
returns-then-other-issue-clause-compared c =
    let at = here _ _ c.loop-at.invariant.1 (omega arith) _ c.if-other-issue.true in
    omega (arith, at, compared_found c.args.issue c.args.issues.now (omega (arith, at)))

pub loop-at-preserved : goal.loop-at-preserved
loop-at-preserved c = (omega arith, next _ _ c.loop-at.invariant.1 (omega arith) _ c.if-other-issue.false)

pub returns-clause-at : goal.returns-clause-at
returns-clause-at c = past _ _ c.loop-at.invariant.1 (omega arith)

pub returns-clause-compared : goal.returns-clause-compared
returns-clause-compared c =
    let place = past _ _ c.loop-at.invariant.1 (omega arith) in
    omega (arith, compared_past c.args.issue c.args.issues.now place)
