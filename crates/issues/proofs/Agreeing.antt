-- The rows of which neither 13 nor 14 finds one are the rows that can be netted.
-- Assumes nothing.
use mathlib.Core.Path.{◌≡◌, refl, sym, ap, ◌∙◌}
use mathlib.Core.Bool.{Bool, true, false, true≢false, not, ◌&&◌}
use mathlib.Core.List.{List, [], ◌∷◌, Memᴰ}
use native.Mathlib.Decide.{ℕ_discrete}
use lib.Dec.{ltb, eqb}
use borrow.Author.Tests.{ltb-false, le-ltb, eqb-true, eq-eqb, ne_eqb}
use Rattle.sums.specs.Every.{Every}
use Rattle.sums.proofs.Cases.{both}
use Rattle.book.specs.declared.Row.{Row}
use Rattle.book.specs.Refusals.{most_amount}
use Rattle.ladder.specs.Position.{absolute_net}
use Rattle.issues.specs.Issues.{issues_of}
use Rattle.issues.specs.Agreeing.{same_terms, unlike_first, differs, over_limit, SameTerms, CanBeNetted}
use Rattle.sums.proofs.Every.{every_member, member_every}

-- ---- the test of terms
terms_same : (a b : Row) → same_terms a b ≡ true → SameTerms a b
unfolding same_terms
terms_same a b e =
    let group = both _ _ e in
    let kind = both _ _ group.1 in
    let days = both _ _ kind.1 in
    record {
      group = eqb-true _ _ group.0;
      kind = eqb-true _ _ kind.0;
      days = eqb-true _ _ days.0;
      coupon = eqb-true _ _ days.1;
    }

same_terms_lem : (a b : Row) → SameTerms a b → same_terms a b ≡ true
unfolding same_terms
same_terms_lem a b same =
    rw (
      eq-eqb a.group b.group same.group,
      eq-eqb a.kind b.kind same.kind,
      eq-eqb a.days b.days same.days,
      eq-eqb a.coupon b.coupon same.coupon,
    )

-- ---- 13
not-false : (test : Bool) → not test ≡ false → test ≡ true
not-false true e = refl
not-false false e = absurd (true≢false e)

-- two rows that do not differ from the first of their issue do not differ from one another
like_first : (rows : List Row) (a b : Row) → Memᴰ a rows → a.issue ≡ b.issue → unlike_first rows a ≡ false → unlike_first rows b ≡ false → SameTerms a b
unfolding unlike_first
like_first (first ∷ rows) a b member e like-a like-b = go (ℕ_discrete first.issue a.issue) member (λ m. like_first rows a b m e)
  where
    go : Dec (first.issue ≡ a.issue) → Memᴰ a (first ∷ rows) → (Memᴰ a rows → unlike_first rows a ≡ false → unlike_first rows b ≡ false → SameTerms a b) → SameTerms a b
    go (yes own) m later =
        let of_a = terms_same first a (not-false _ (rw (eq-eqb first.issue a.issue own) at like-a)) in
        let of_b = terms_same first b (not-false _ (rw (eq-eqb first.issue b.issue (own ∙ e)) at like-b)) in
        record {
          group = sym of_a.group ∙ of_b.group;
          kind = sym of_a.kind ∙ of_b.kind;
          days = sym of_a.days ∙ of_b.days;
          coupon = sym of_a.coupon ∙ of_b.coupon;
        }
    go (no other) (Memᴰ.head own) later = absurd (other (ap (λ (row : Row). row.issue) (sym own)))
    go (no other) (Memᴰ.tail m) later =
        later m
        (rw (ne_eqb first.issue a.issue other) at like-a)
        (rw (ne_eqb first.issue b.issue (λ own. other (own ∙ sym e))) at like-b)
like_first [] a b member e like-a like-b = elim member [ ]

first-like : (rows : List Row) (row : Row) → ((first : Row) → Memᴰ first rows → first.issue ≡ row.issue → SameTerms first row) → unlike_first rows row ≡ false
unfolding unlike_first
first-like [] row like = refl
first-like (first ∷ rows) row like = go (ℕ_discrete first.issue row.issue) (first-like rows row (λ r m. like r (Memᴰ.tail m)))
  where
    go : Dec (first.issue ≡ row.issue) → unlike_first rows row ≡ false → unlike_first (first ∷ rows) row ≡ false
    go (yes own) later = rw (eq-eqb first.issue row.issue own, same_terms_lem first row (like first (Memᴰ.head refl) own))
    go (no other) later = rw (ne_eqb first.issue row.issue other) later

-- ---- a test of the rows that have an issue number
issue_passes : (row : Row) (test : Bool) → (row.issue ≡ 0 → ⊥) → (not (eqb row.issue 0) && test) ≡ false → test ≡ false
issue_passes row test some e = rw (ne_eqb row.issue 0 some) at e

passes_issue : (row : Row) (test : Bool) → ((row.issue ≡ 0 → ⊥) → test ≡ false) → (not (eqb row.issue 0) && test) ≡ false
passes_issue row test passes = go (ℕ_discrete row.issue 0)
  where
    go : Dec (row.issue ≡ 0) → (not (eqb row.issue 0) && test) ≡ false
    go (yes none) = rw (eq-eqb row.issue 0 none)
    go (no some) = rw (ne_eqb row.issue 0 some) (passes some)

module _ (rows : List Row) where
  pub agreeing : Every (λ row. differs rows row ≡ false) rows → Every (λ row. over_limit rows row ≡ false) rows → CanBeNetted rows
  unfolding differs over_limit
  agreeing same fits =
      record {
        terms = λ a b in-a in_b some e.
            like_first rows a b in-a e
            (issue_passes a (unlike_first rows a) some (every_member same a in-a))
            (issue_passes b (unlike_first rows b) (λ none. some (e ∙ none)) (every_member same b in_b));
        within = λ a in-a some. ltb-false _ _ (issue_passes a (ltb most_amount (absolute_net (issues_of rows a.issue))) some (every_member fits a in-a));
      }

  module _ (can : CanBeNetted rows) where
    pub none_differs : Every (λ row. differs rows row ≡ false) rows
    unfolding differs
    none_differs =
        member_every rows (λ row member.
        passes_issue row (unlike_first rows row) (λ some.
        first-like rows row (λ first in-first e. can.terms first row in-first member (λ none. some (sym e ∙ none)) e)))

    pub none_over : Every (λ row. over_limit rows row ≡ false) rows
    unfolding over_limit
    none_over = member_every rows (λ row member. passes_issue row _ (λ some. le-ltb _ _ (can.within row member some)))
