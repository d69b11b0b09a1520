-- How many comparisons netting makes (P7), over the rows of one class: each row with an issue number is compared with the earlier kept rows that have
-- one, in order, to the first equal.
use Rattle.std.specs.Prelude.{ℕ, suc, ◌+◌, ◌≡◌, cond, ◌||◌, List, [], ◌∷◌, ◌++◌, eqb}
use Rattle.sums.specs.Every.{Every}
use Rattle.book.specs.declared.Row.{Row}
use Rattle.issues.specs.Issues.{has}

-- the issue numbers of the kept rows, with one row more: a row of issue 0 has none, and one of an issue that is kept is not kept (P7)
abbrev pub kept_with : List ℕ → ℕ → List ℕ
kept_with kept issue = cond (eqb issue 0 || has kept issue) kept (kept ++ (issue ∷ []))

-- an issue number against the kept ones, in order, to the first equal (P7)
unfoldable pub compared_with : List ℕ → ℕ → ℕ
compared_with [] issue = 0
compared_with (first ∷ kept) issue = suc (cond (eqb first issue) 0 (compared_with kept issue))

-- all rows, after some that are kept, also those that net to zero in the end (P7)
unfoldable pub comparisons_from : List ℕ → List Row → ℕ
comparisons_from kept [] = 0
comparisons_from kept (row ∷ rows) =
    cond (eqb row.issue 0) 0 (compared_with kept row.issue) + comparisons_from (kept_with kept row.issue) rows

-- the rows of a class (P7)
abbrev pub comparisons : List Row → ℕ
comparisons = comparisons_from []

-- rows of different issues, none of them 0 (P7)
pub data Different : List Row → Type 0 where
  no_rows : Different []
  one_more : {row : Row} {rows : List Row} → (row.issue ≡ 0 → ⊥) → Every (λ later. row.issue ≡ later.issue → ⊥) rows → Different rows
      → Different (row ∷ rows)
