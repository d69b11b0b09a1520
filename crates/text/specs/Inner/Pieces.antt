-- A piece of a text that was written from a place on, and the place after it.
use Rattle.std.specs.Prelude.{ℕ, ◌+◌, ◌≡◌, List, length}
use Rattle.layout.specs.Written.{written}

pub record Wrote (out : List ℕ) (at : ℕ) (piece : List ℕ) (after : ℕ) (out' : List ℕ) : Type 0 where
  pub place : after ≡ at + length piece
  pub is : out' ≡ written out at piece
  pub same : length out' ≡ length out

-- seven names of 78 bytes together, and seven numbers of at most 20 digits, each with a space and a line end
abbrev pub most_text : ℕ
most_text = 232

-- the longest line of a name: a space, 20 digits, the line end
abbrev pub line_most : List ℕ → ℕ
line_most name = length name + 22
