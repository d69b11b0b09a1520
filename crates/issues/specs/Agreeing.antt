-- Which rows of a class cannot be netted (P1): 13, rows of one issue that differ, and 14, a net over the limit; and the rows that can, described
-- directly. A law says that these are the rows of which neither 13 nor 14 finds one.
use Rattle.std.specs.Prelude.{◌≤◌, ◌≡◌, Bool, false, not, cond, ◌&&◌, ltb, eqb}
use mathlib.Core.List.{List, [], ◌∷◌, Memᴰ}
use Rattle.book.specs.declared.Row.{Row}
use Rattle.book.specs.Refusals.{most_amount}
use Rattle.ladder.specs.Position.{absolute_net}
use Rattle.issues.specs.Issues.{issues_of}

-- group, kind, days and coupon are equal; of a floating-rate note the final maturity is in the place of the coupon (P1; P5)
unfoldable pub same_terms : Row → Row → Bool
same_terms a b = eqb a.group b.group && (eqb a.kind b.kind && (eqb a.days b.days && eqb a.coupon b.coupon))

-- the first of some rows that has a row's issue number has other terms than the row (P1)
unfoldable pub unlike_first : List Row → Row → Bool
unlike_first [] row = false
unlike_first (first ∷ rows) row = cond (eqb first.issue row.issue) (not (same_terms first row)) (unlike_first rows row)

-- 13: a row that differs from the first row of its issue among the rows of its class (P1)
unfoldable pub differs : List Row → Row → Bool
differs rows row = not (eqb row.issue 0) && unlike_first rows row

-- 14: a row whose issue nets to more than the largest amount (P1)
unfoldable pub over_limit : List Row → Row → Bool
over_limit rows row = not (eqb row.issue 0) && ltb most_amount (absolute_net (issues_of rows row.issue))

-- ---- the rows that can be netted, described directly
-- what rows of one issue share (P1)
pub record SameTerms (a b : Row) : Type 0 where
  pub group : a.group ≡ b.group
  pub kind : a.kind ≡ b.kind
  pub days : a.days ≡ b.days
  pub coupon : a.coupon ≡ b.coupon

-- rows of one issue have the same terms, and no issue nets to more than the largest amount (P1)
pub record CanBeNetted (rows : List Row) : Type 0 where
  pub terms : (a b : Row) → Memᴰ a rows → Memᴰ b rows → (a.issue ≡ 0 → ⊥) → a.issue ≡ b.issue → SameTerms a b
  pub within : (a : Row) → Memᴰ a rows → (a.issue ≡ 0 → ⊥) → absolute_net (issues_of rows a.issue) ≤ most_amount
