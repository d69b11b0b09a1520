-- Reordered and mirrored books (document 01, Joining).
use Rattle.std.specs.Prelude.{ℕ, ◌≡◌, length, take, drop}
use mathlib.Core.List.{List, ◌++◌, map, count, List-discrete}
use Rattle.std.proofs.Math.Decide.{ℕ_discrete}
use Rattle.sums.specs.Every.{Every}
use Rattle.book.specs.Counts.{classes, counts_of}
use Rattle.book.specs.Rows.{rows_of}

-- the same 16-byte rows, each as often, in any order (document 01, Joining)
pub record Reordered (rows rows' : List (List ℕ)) : Type 0 where
  pub each : (row : List ℕ) → count (List-discrete ℕ_discrete) row rows ≡ count (List-discrete ℕ_discrete) row rows'

-- d has the four counts of c and, in each body, the rows given, in any order; a file is nothing but its contents and bodies, so it is as long
pub record Rearranged (c d : List ℕ) (rows : ℕ → List (List ℕ)) : Type 0 where
  pub counts : counts_of d ≡ counts_of c
  pub size : length d ≡ length c
  pub bodies : Every (λ class. Reordered (rows class) (rows_of d class)) classes

-- bytes 8 to 11 and bytes 12 to 15 of a row change places (document 01, Joining)
unfoldable pub mirrored_row : List ℕ → List ℕ
mirrored_row bytes = take 8 bytes ++ (take 4 (drop 12 bytes) ++ take 4 (drop 8 bytes))

-- d is c with its rows in any order within their classes (document 01, Joining)
unfoldable pub ReorderedBook : List ℕ → List ℕ → Type 0
ReorderedBook c d = Rearranged c d (rows_of c)

-- and long and short exchanged in all of them (document 01, Joining)
unfoldable pub MirroredBook : List ℕ → List ℕ → Type 0
MirroredBook c d = Rearranged c d (λ class. map mirrored_row (rows_of c class))
