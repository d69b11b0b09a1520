-- The rows' own amounts at their numbers.
use Rattle.std.specs.Prelude.{ℕ, ◌+◌, ◌<◌, ◌≡◌, List, [], length, get_or}
use Rattle.book.specs.declared.Row.{Row}
use Rattle.book.specs.Rows.{decode}
use Rattle.ladder.specs.declared.positions.Position.{Position}
use Rattle.amounts.specs.declared.positions.Amounts.{Amounts}
use Rattle.amounts.specs.Inner.Standing.{positions_in}

-- the amounts of a row
abbrev pub amounts_of : Row → Position
amounts_of row = record { long = row.long; short = row.short }

-- those of rows numbered from `first` on stand at their numbers, and what stood before them still does
pub record OwnIn (first : ℕ) (rows : List Row) (amounts amounts' : Amounts) : Type 0 where
  pub here : (k : ℕ) → k < length rows → positions_in amounts' (first + k) ≡ amounts_of (get_or rows k (decode []))
  pub before : (k : ℕ) → k < first → positions_in amounts' k ≡ positions_in amounts k
