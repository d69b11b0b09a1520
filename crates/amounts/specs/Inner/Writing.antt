-- The rows with their amounts as bytes, and what is asked of a book and an output.
use Rattle.std.specs.Prelude.{ℕ, ◌+◌, ◌≤◌, ◌<◌, length}
use mathlib.Core.List.{List, [], flat_map}
use Rattle.book.specs.Counts.{contents_size, classes}
use Rattle.book.specs.declared.Row.{Row}
use Rattle.book.specs.Refusals.{most_rows, most_amount}
use Rattle.ladder.specs.declared.positions.Position.{Position}
use Rattle.ladder.specs.Position.{Bands, gross}
use Rattle.layout.specs.Files.{row_bytes}
use Rattle.issues.specs.Issues.{placed}
use Rattle.amounts.specs.Inner.Standing.{standing_rows, standing, CanStand}

-- the bytes of a row with its amounts, none where these are zero
abbrev pub placed_bytes : Row → Position → List ℕ
placed_bytes row position = flat_map row_bytes (placed row position [])

-- and of the rows of a class
abbrev pub standing_bytes : Bands → ℕ → List Row → List ℕ
standing_bytes positions first rows = flat_map row_bytes (standing_rows positions first rows)

-- what is asked of them: room, and amounts within the limit
pub record CanWriteRows (positions : Bands) (first : ℕ) (rows : List Row) (at room : ℕ) : Type 0 where
  pub numbers : first + length rows ≤ most_rows
  pub within : (k : ℕ) → k < length rows → gross (positions (first + k)) ≤ most_amount
  pub fits : at + length (standing_bytes positions first rows) ≤ room

-- the body of a class
abbrev pub standing_body : Bands → List ℕ → ℕ → List ℕ
standing_body positions s class = flat_map row_bytes (standing positions s class)

-- what is asked of a book and an output of so many bytes
pub record CanWrite (s : List ℕ) (positions : Bands) (room : ℕ) : Type 0 where
  pub can : CanStand s positions
  pub fits : contents_size + length (flat_map (standing_body positions s) classes) ≤ room
