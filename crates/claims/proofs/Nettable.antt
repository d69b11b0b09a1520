-- The books to which no refusal before 12 applies are the accepted ones whose rows can be netted in each class.
-- Assumes nothing.
use Prim.Native.Nat.{ℕ, suc, ◌≤◌}
use mathlib.Core.Path.{◌≡◌, refl, ap, subst}
use mathlib.Core.Bool.{Bool, true, false, cond}
use mathlib.Core.List.{List, [], ◌∷◌}
use native.Mathlib.Omega.{arith}
use lib.Dec.{eqb}
use borrow.Author.Tests.{eqb-true}
use Rattle.sums.specs.Every.{Every, none, also}
use Rattle.sums.proofs.Every.{every_mapped}
use Rattle.book.specs.declared.Row.{Row}
use Rattle.book.specs.declared.Refusal.{Refusal}
use Rattle.book.specs.Rows.{rows_of, decode}
use Rattle.book.specs.Legs.{Leg, legs_of, of_class}
use Rattle.book.specs.Refusals.{refused, refusal_of}
use Rattle.book.proofs.Walking.{class_rows_lem}
use Rattle.book.proofs.Acceptance.{accepted, refused-with_none, legs_every}
use Rattle.issues.specs.Agreeing.{differs, over_limit, CanBeNetted}
use Rattle.issues.proofs.Agreeing.{agreeing, none_differs, none_over}
use Rattle.charges.specs.Report.{class_rows}
use Rattle.layout.proofs.Room.{or_next_lem}
use Rattle.netting.specs.Netted.{first_found, found_in_class, issues_refusal}
use Rattle.claims.specs.Netting.{Nettable, NettableHolds}
use Rattle.claims.proofs.Writing.{each_class_lem, neither_refused, classes-each}

-- ---- a leg that a test finds
found_none : (number : ℕ) (test : Leg → Bool) (row : ℕ) (legs : List Leg) → (first_found (suc number) test row legs).number ≡ 0 → Every (λ leg. test leg ≡ false) legs
unfolding first_found refused
found_none number test row [] e = none
found_none number test row (leg ∷ legs) e = go (test leg) refl e (found_none number test (suc row) legs)
  where
    go : (found : Bool) → test leg ≡ found → (cond found (refused (suc number) row) (first_found (suc number) test (suc row) legs)).number ≡ 0
        → ((first_found (suc number) test (suc row) legs).number ≡ 0 → Every (λ leg. test leg ≡ false) legs) → Every (λ leg. test leg ≡ false) (leg ∷ legs)
    go true t e later = let never : ⊥ = omega arith in absurd never
    go false t e later = also t (later e)

none_found : (number : ℕ) (test : Leg → Bool) (row : ℕ) {legs : List Leg} → Every (λ leg. test leg ≡ false) legs → first_found number test row legs ≡ refused 0 0
unfolding first_found
none_found number test row none = refl
none_found number test row (also e rest) = rw e (none_found number test (suc row) rest)

-- ---- from the legs to the rows of each class, and back
class_every : (P : ℕ → Row → Type 0) (class : ℕ) {legs : List Leg} → Every (λ leg. P leg.class leg.row) legs → Every (P class) (of_class class legs)
unfolding of_class
class_every P class none = none
class_every P class (also {a = leg} {rest = legs} p rest) = go (eqb leg.class class) refl (class_every P class rest)
  where
    go : (test : Bool) → eqb leg.class class ≡ test → Every (P class) (of_class class legs)
        → Every (P class) (cond test (leg.row ∷ of_class class legs) (of_class class legs))
    go true t later = also (subst (λ (k : ℕ). P k leg.row) (eqb-true leg.class class t) p) later
    go false t later = later

-- what a test of rows among those of their class finds in a book
module _ (s : List ℕ) (test : List Row → Row → Bool) where
  passes_class : (number : ℕ) → (found_in_class (suc number) test (legs_of s)).number ≡ 0 → (class : ℕ)
      → Every (λ row. test (class_rows s class) row ≡ false) (class_rows s class)
  unfolding found_in_class
  passes_class number e class = class_every (λ k row. test (of_class k (legs_of s)) row ≡ false) class (found_none number _ 0 (legs_of s) e)

  class_passes : (number : ℕ) → ((class : ℕ) → 1 ≤ class → class ≤ 4 → Every (λ row. test (class_rows s class) row ≡ false) (class_rows s class))
      → found_in_class number test (legs_of s) ≡ refused 0 0
  unfolding found_in_class
  class_passes number passes =
      none_found number _ 0
      (legs_every s (λ class low high.
      every_mapped decode (λ bytes e. e) (rows_of s class)
      (subst (Every (λ row. test (class_rows s class) row ≡ false)) (class_rows_lem s class low high) (passes class low high))))

-- ---- the books
pub can_class : {s : List ℕ} → Nettable s → (class : ℕ) → 1 ≤ class → class ≤ 4 → CanBeNetted (class_rows s class)
can_class able = each_class_lem able.rows

pub nettable : NettableHolds
unfolding issues_refusal refused
nettable s =
    record {
      described = λ e.
          let first = neither_refused (refusal_of s) _ e in
          let issues = neither_refused (found_in_class 13 differs (legs_of s)) _ first.1 in
          record {
            accepted = accepted s first.0;
            rows = classes-each (λ class low high. agreeing (class_rows s class) (passes_class s differs 12 issues.0 class) (passes_class s over_limit 13 issues.1 class));
          };
      taken = λ able.
          let can = can_class able in
          rw (
            or_next_lem (refusal_of s) _ (ap (λ (r : Refusal). r.number) (refused-with_none s able.accepted)),
            or_next_lem (found_in_class 13 differs (legs_of s)) _
                (ap (λ (r : Refusal). r.number) (class_passes s differs 13 (λ class low high. none_differs (class_rows s class) (can class low high)))),
          )
          (class_passes s over_limit 14 (λ class low high. none_over (class_rows s class) (can class low high)));
    }
