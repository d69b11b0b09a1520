-- The place of the first row of each issue among the rows of a class.
use Rattle.std.specs.Prelude.{ℕ, suc, ◌<◌, ◌≡◌, Bool, cond, Option, Some, None, length, get_or, eqb}
use mathlib.Core.List.{List, [], ◌∷◌, foldl}
use Rattle.issues.specs.Comparing.{kept_with}

-- the place of the first element that a test finds; of none, the number of elements
unfoldable pub first_place : {A : Type 0} → (A → Bool) → List A → ℕ
first_place test [] = 0
first_place test (a ∷ list) = cond (test a) 0 (suc (first_place test list))

-- the place of an issue number in a list of them
abbrev pub place_of : ℕ → List ℕ → ℕ
place_of issue issues = first_place (λ other. eqb other issue) issues

-- found there, or nowhere
abbrev pub IsPlace : Option ℕ → ℕ → List ℕ → Type 0
IsPlace (Some at) issue issues = (at ≡ place_of issue issues) × (at < length issues)
IsPlace None issue issues = place_of issue issues ≡ length issues

-- ---- the first rows of the issues of a class
-- the issue numbers of some rows but 0, each once, in order
unfoldable pub kept_issues : List ℕ → List ℕ
kept_issues issues = foldl kept_with [] issues

-- the place at which a row's amounts are added: that of the first row of its issue, its own where the issue is 0
unfoldable pub first_row_of : List ℕ → ℕ → ℕ
first_row_of issues k = cond (eqb (get_or issues k 0) 0) k (place_of (get_or issues k 0) issues)
