-- A list of bytes with others written over it from an offset on.
use Rattle.std.specs.Prelude.{ℕ, ◌+◌, List, ◌++◌, length, take, drop}

-- out with src written at an offset; every other byte keeps its value (document 01, Joining)
unfoldable pub written : List ℕ → ℕ → List ℕ → List ℕ
written out at src = take at out ++ (src ++ drop (at + length src) out)
