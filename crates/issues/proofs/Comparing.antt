-- How many comparisons netting makes: one row more, and the bound for any number of rows.
-- Assumes nothing.
use Prim.Native.Nat.{ℕ, suc, ◌+◌, ◌*◌, ◌≤◌}
use mathlib.Core.Path.{◌≡◌, refl, ap, ◌∙◌}
use mathlib.Core.Bool.{Bool, true, false, true≢false, cond, ◌||◌}
use mathlib.Core.List.{List, [], ◌∷◌, ◌++◌, map, foldl}
use native.Mathlib.Nat.{add-zero, mul-le-mul_right}
use native.Mathlib.Omega.{arith}
use lib.Dec.{eqb}
use lib.ListN.{length, length-append}
use borrow.Author.Tests.{ne_eqb}
use Rattle.sums.specs.Every.{Every, none, also}
use Rattle.book.specs.declared.Row.{Row}
use Rattle.issues.specs.Issues.{has}
use Rattle.issues.specs.Comparing.{kept_with, compared_with, comparisons_from, Different, no_rows, one_more}

-- what a row adds, after some that are kept
abbrev pub row_comparisons : List ℕ → ℕ → ℕ
row_comparisons kept issue = cond (eqb issue 0) 0 (compared_with kept issue)

-- one row more at the end, as a loop over the rows meets it
pub comparisons-last : (kept : List ℕ) (rows : List Row) (row : Row)
    → comparisons_from kept (rows ++ (row ∷ [])) ≡ comparisons_from kept rows + row_comparisons (foldl kept_with kept (map (λ r. r.issue) rows)) row.issue
unfolding comparisons_from
comparisons-last kept [] row = add-zero _ ∙ omega arith
comparisons-last kept (r ∷ rows) row = omega (arith, comparisons-last (kept_with kept r.issue) rows row)

-- ---- the bound
pub compared_within : (kept : List ℕ) (issue : ℕ) → compared_with kept issue ≤ length kept
unfolding compared_with
compared_within [] issue = omega arith
compared_within (first ∷ kept) issue = go (eqb first issue) (compared_within kept issue)
  where
    go : (found : Bool) → compared_with kept issue ≤ length kept → suc (cond found 0 (compared_with kept issue)) ≤ suc (length kept)
    go true later = omega arith
    go false later = omega arith

pub row_within : (kept : List ℕ) (issue : ℕ) → row_comparisons kept issue ≤ length kept
row_within kept issue = go (eqb issue 0) (compared_within kept issue)
  where
    go : (none : Bool) → compared_with kept issue ≤ length kept → cond none 0 (compared_with kept issue) ≤ length kept
    go true most = omega arith
    go false most = most

kept_longer : (kept : List ℕ) (issue : ℕ) → length (kept_with kept issue) ≤ length kept + 1
kept_longer kept issue = go (eqb issue 0 || has kept issue)
  where
    go : (old : Bool) → length (cond old kept (kept ++ (issue ∷ []))) ≤ length kept + 1
    go true = omega arith
    go false = omega (arith, length-append kept (issue ∷ []))

-- with k kept before n rows: 2kn + n(n - 1), said without a difference
pub comparisons-from : (kept : List ℕ) (rows : List Row) → 2 * comparisons_from kept rows + length rows ≤ 2 * (length kept * length rows) + length rows * length rows
unfolding comparisons_from
comparisons-from kept [] = omega arith
comparisons-from kept (row ∷ rows) =
    let m = length rows in
    let k = length kept in
    let k' = length (kept_with kept row.issue) in
    omega (
      arith,
      row_within kept row.issue,
      comparisons-from (kept_with kept row.issue) rows,
      mul-le-mul_right m (kept_longer kept row.issue),
    )

-- ---- the bound is reached by different issues
-- an issue that is not kept is compared with all of them, and kept
pub compared_all : (kept : List ℕ) (issue : ℕ) → has kept issue ≡ false → compared_with kept issue ≡ length kept
unfolding has compared_with
compared_all [] issue e = refl
compared_all (first ∷ kept) issue e = go (eqb first issue) e (compared_all kept issue)
  where
    go : (own : Bool) → own || has kept issue ≡ false → (has kept issue ≡ false → compared_with kept issue ≡ length kept)
        → suc (cond own 0 (compared_with kept issue)) ≡ suc (length kept)
    go true e later = absurd (true≢false e)
    go false e later = ap suc (later e)

still_new : (kept : List ℕ) (issue other : ℕ) → has kept other ≡ false → (issue ≡ other → ⊥) → has (kept ++ (issue ∷ [])) other ≡ false
unfolding has
still_new [] issue other e apart = rw (ne_eqb issue other apart)
still_new (first ∷ kept) issue other e apart = go (eqb first other) e (still_new kept issue other)
  where
    go : (own : Bool) → own || has kept other ≡ false → (has kept other ≡ false → (issue ≡ other → ⊥) → has (kept ++ (issue ∷ [])) other ≡ false)
        → own || has (kept ++ (issue ∷ [])) other ≡ false
    go true e later = absurd (true≢false e)
    go false e later = later e apart

all_new : (kept : List ℕ) (issue : ℕ) {rows : List Row} → Every (λ row. has kept row.issue ≡ false) rows → Every (λ row. issue ≡ row.issue → ⊥) rows
    → Every (λ row. has (kept ++ (issue ∷ [])) row.issue ≡ false) rows
all_new kept issue none none = none
all_new kept issue (also {a} new news) (also apart aparts) = also (still_new kept issue a.issue new apart) (all_new kept issue news aparts)

pub comparisons-reached : (kept : List ℕ) {rows : List Row} → Every (λ row. has kept row.issue ≡ false) rows → Different rows
    → 2 * comparisons_from kept rows + length rows ≡ 2 * (length kept * length rows) + length rows * length rows
unfolding comparisons_from
comparisons-reached kept none no_rows = omega arith
comparisons-reached kept (also {a} {rest} new news) (one_more some apart later) =
    rw (ne_eqb a.issue 0 some, new)
    (omega (
      arith,
      compared_all kept a.issue new,
      comparisons-reached (kept ++ (a.issue ∷ [])) (all_new kept a.issue news apart) later,
      ap (λ (n : ℕ). n * length rest) (length-append kept (a.issue ∷ [])),
    ))
