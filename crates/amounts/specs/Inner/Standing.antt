-- The rows of a book with the amounts that stand at their numbers; a row whose amounts are zero is dropped.
use Rattle.std.specs.Prelude.{ℕ, suc, ◌≤◌, ◌<◌, ◌≡◌, List, [], ◌∷◌, length, get_or}
use Rattle.book.specs.declared.Row.{Row}
use Rattle.book.specs.Counts.{counts_of, rows_before, count_of_rows}
use Rattle.book.specs.Legs.{legs_of, of_class}
use Rattle.book.specs.Refusals.{most_amount}
use Rattle.ladder.specs.Position.{Bands, empty, gross}
use Rattle.layout.specs.Files.{book_by}
use Rattle.layout.specs.Room.{Written, room_refusal, written_of, output_of}
use Rattle.issues.specs.Issues.{placed}
use Rattle.amounts.specs.declared.positions.Amounts.{Amounts}

-- the amounts at each number
abbrev pub positions_in : Amounts → Bands
positions_in amounts k = get_or amounts.rows k empty

-- rows with the amounts at their numbers, which run from `at` on
unfoldable pub standing_rows : Bands → ℕ → List Row → List Row
standing_rows positions at [] = []
standing_rows positions at (row ∷ rows) = placed row (positions at) (standing_rows positions (suc at) rows)

-- the rows of each class of a book, and the book of them
abbrev pub standing : Bands → List ℕ → ℕ → List Row
standing positions s class = standing_rows positions (rows_before (counts_of s) class) (of_class class (legs_of s))

unfoldable pub standing_book : Bands → List ℕ → List ℕ
standing_book positions s = book_by (standing positions s)

-- what writing it gives, into an output of so many bytes, and the output afterwards
abbrev pub standing_of : Bands → List ℕ → ℕ → Written
standing_of positions s room =
    written_of (room_refusal (length (standing_book positions s)) room) (standing_book positions s)

abbrev pub standing_output : Bands → List ℕ → List ℕ → List ℕ
standing_output positions s out =
    output_of (room_refusal (length (standing_book positions s)) (length out)) (standing_book positions s) out

-- amounts that a row may have
pub record CanStand (s : List ℕ) (positions : Bands) : Type 0 where
  pub within : (k : ℕ) → k < count_of_rows (counts_of s) → gross (positions k) ≤ most_amount

-- the amounts make of the rows of a book these
pub record Stands (s : List ℕ) (rows : ℕ → List Row) (amounts : Amounts) : Type 0 where
  pub can : CanStand s (positions_in amounts)
  pub each : (class : ℕ) → 1 ≤ class → class ≤ 4 → standing (positions_in amounts) s class ≡ rows class
