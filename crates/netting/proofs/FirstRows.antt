-- The place at which a row's amounts are added: it is known when the row is taken, and the row differs just when it differs from the row there.
-- Assumes nothing.
use mathlib.Core.Path.{◌≡◌, refl, sym, ap, ◌∙◌}
use mathlib.Core.Bool.{Bool, true, false, true≢false, cond, not, ◌||◌, ◌&&◌, or-true}
use mathlib.Core.List.{List, [], ◌∷◌, ◌++◌}
use Prim.Native.Nat.{ℕ, zero, suc, ◌≤◌, ◌<◌}
use native.Mathlib.Omega.{arith}
use lib.Dec.{eqb}
use lib.ListN.{length, get_or, take, drop, take-append-drop, length-map, get_or-map}
use lib.Seq.{take-suc, get_or-take, length-take-le}
use borrow.Author.Tests.{eq-eqb}
use Rattle.book.specs.declared.Row.{Row}
use Rattle.book.specs.Fields.{u16_at}
use Rattle.book.specs.Rows.{decode}
use Rattle.book.proofs.ClassRows.{no_row}
use Rattle.issues.specs.Issues.{has}
use Rattle.issues.specs.Agreeing.{same_terms, unlike_first, differs}
use Rattle.netting.specs.Inner.Places.{first_place, place_of, first_row_of}
use Rattle.netting.specs.Inner.Gathering.{issue_numbers}
use Rattle.netting.proofs.Standing.{has_within, place_append}

-- ---- the place is known from the rows up to this one
has-at : (issues : List ℕ) (k : ℕ) → k < length issues → has issues (get_or issues k 0) ≡ true
unfolding has
has-at [] k h = let never : ⊥ = omega arith in absurd never
has-at (issue ∷ issues) zero h = rw (eq-eqb issue issue refl)
has-at (issue ∷ issues) (suc k) h = rw (has-at issues k (omega arith)) (or-true (eqb issue (get_or issues k 0)))

module _ (issues : List ℕ) (k : ℕ) (within : k < length issues) where
  among : has (take (suc k) issues) (get_or issues k 0) ≡ true
  among =
      rw (← get_or-take (suc k) issues k 0 (omega arith))
      (has-at (take (suc k) issues) k (omega (arith, length-take-le (suc k) issues (omega arith))))

  up_to : place_of (get_or issues k 0) issues ≡ place_of (get_or issues k 0) (take (suc k) issues)
  up_to =
      let issue = get_or issues k 0 in
      ap (place_of issue) (sym (take-append-drop (suc k) issues)) ∙ place_append issue (take (suc k) issues) (drop (suc k) issues) among

  pub first-row_known : first_row_of (take k issues ++ (get_or issues k 0 ∷ [])) (length (take k issues)) ≡ first_row_of issues k
  unfolding first_row_of
  first-row_known =
      rw (← take-suc issues k 0 within, length-take-le k issues (omega arith), get_or-take (suc k) issues k 0 (omega arith), up_to)

  pub first-row_within : first_row_of issues k ≤ k
  unfolding first_row_of
  first-row_within = go (eqb (get_or issues k 0) 0)
    where
      place : place_of (get_or issues k 0) issues ≤ k
      place = omega (arith, up_to, has_within (get_or issues k 0) (take (suc k) issues) among, length-take-le (suc k) issues (omega arith))

      go : (none : Bool) → cond none k (place_of (get_or issues k 0) issues) ≤ k
      go true = omega arith
      go false = place

-- ---- the row there
pub issue_at : (rows : List Row) (k : ℕ) → get_or (issue_numbers rows) k 0 ≡ (get_or rows k no_row).issue
unfolding decode u16_at
issue_at rows k = get_or-map (λ row. row.issue) rows k no_row

same_itself : (row : Row) → same_terms row row ≡ true
unfolding same_terms
same_itself row = rw (eq-eqb row.group _ refl, eq-eqb row.kind _ refl, eq-eqb row.days _ refl, eq-eqb row.coupon _ refl)

unlike_at : (rows : List Row) (row : Row) → has (issue_numbers rows) row.issue ≡ true
    → unlike_first rows row ≡ not (same_terms (get_or rows (place_of row.issue (issue_numbers rows)) no_row) row)
unfolding has unlike_first first_place
unlike_at [] row e = absurd (true≢false (sym e))
unlike_at (first ∷ rows) row e = go (eqb first.issue row.issue) e (unlike_at rows row)
  where
    place : ℕ
    place = place_of row.issue (issue_numbers rows)

    go : (own : Bool) → own || has (issue_numbers rows) row.issue ≡ true
        → (has (issue_numbers rows) row.issue ≡ true → unlike_first rows row ≡ not (same_terms (get_or rows place no_row) row))
        → cond own (not (same_terms first row)) (unlike_first rows row) ≡ not (same_terms (get_or (first ∷ rows) (cond own 0 (suc place)) no_row) row)
    go true e later = refl
    go false e later = later e

-- a row differs from the first of its issue
pub differs_at : (rows : List Row) (k : ℕ) → k < length rows
    → differs rows (get_or rows k no_row) ≡ not (same_terms (get_or rows (first_row_of (issue_numbers rows) k) no_row) (get_or rows k no_row))
unfolding differs first_row_of
differs_at rows k h = rw (issue_at rows k) (go (eqb (get_or rows k no_row).issue 0))
  where
    row : Row
    row = get_or rows k no_row

    go : (none : Bool) → not none && unlike_first rows row ≡ not (same_terms (get_or rows (cond none k (place_of row.issue (issue_numbers rows))) no_row) row)
    go true = sym (ap not (same_itself row))
    go false = unlike_at rows row (rw (issue_at rows k) at (has-at (issue_numbers rows) k (omega (arith, length-map rows (λ r. r.issue)))))
