-- The issues that the code keeps, with the places of their first rows.
use Rattle.std.specs.Prelude.{ℕ, ◌≤◌, ◌≡◌, cond, length, take, eqb}
use mathlib.Core.List.{List, [], ◌∷◌, ◌++◌, map}
use Rattle.issues.specs.Comparing.{compared_with}
use Rattle.netting.specs.declared.firsts.Kept.{Kept}
use Rattle.netting.specs.Inner.Places.{place_of, kept_issues, first_row_of}

-- the issue numbers that are kept
abbrev pub issues_in : Kept → List ℕ
issues_in kept = take kept.many kept.issues

-- the kept issues of the rows so far, and the places of their first rows
pub record Keeps (issues : List ℕ) (kept : Kept) : Type 0 where
  pub many : kept.many ≤ length issues
  pub is_issues : issues_in kept ≡ kept_issues issues
  pub is_places : take kept.many kept.places ≡ map (λ issue. place_of issue issues) (kept_issues issues)

-- what one row more, of an issue, makes of them: its amounts' place, and what is kept
pub record FirstRowIs (before : List ℕ) (issue at : ℕ) (kept : Kept) : Type 0 where
  pub is_at : at ≡ first_row_of (before ++ (issue ∷ [])) (length before)
  pub keeps : Keeps (before ++ (issue ∷ [])) kept

-- and that so it is, whatever rows came before; with the comparisons made
pub record FirstRowFound (issue row : ℕ) (kept : Kept) (at compared : ℕ) (kept' : Kept) : Type 0 where
  pub after : (before : List ℕ) → length before ≡ row → Keeps before kept → FirstRowIs before issue at kept'
  pub is_compared : compared ≡ cond (eqb issue 0) 0 (compared_with (issues_in kept) issue)
