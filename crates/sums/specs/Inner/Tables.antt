-- Tables of sums as the code keeps them: filled row by row, and read out entry by entry.
use Rattle.std.specs.Prelude.{ℕ, ◌+◌, ◌<◌, ◌≡◌, get_or, set}
use mathlib.Core.List.{List, foldl}

module _ {A : Type 0} (index amount : A → ℕ) where
  -- an element's amount added at its index
  abbrev pub placed : List ℕ → A → List ℕ
  placed table a = set table (index a) (get_or table (index a) 0 + amount a)

  -- the elements added one after the other
  abbrev pub tally : List ℕ → List A → List ℕ
  tally table list = foldl placed table list

-- an array whose entries below n are given
pub record Reads (n : ℕ) (f : ℕ → ℕ) (out : List ℕ) : Type 0 where
  pub below : (k : ℕ) → k < n → get_or out k 0 ≡ f k
