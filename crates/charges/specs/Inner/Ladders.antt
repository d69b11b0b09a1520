-- The sums of one group's rows for its ladder call, longs and shorts by band.
use Rattle.std.specs.Prelude.{ℕ, ◌≤◌, ◌≡◌, List, length, replicate}
use Rattle.sums.specs.Every.{Every}
use Rattle.sums.specs.Inner.Tables.{tally}
use Rattle.book.specs.declared.Row.{Row}
use Rattle.book.specs.Refusals.{most_rows}
use Rattle.book.specs.Accepted.{Clean}
use Rattle.book.specs.Inner.Reading.{part_rows}
use Rattle.ladder.specs.Rows.{in_group}
use Rattle.ladder.specs.declared.positions.Position.{Position}
use Rattle.ladder.specs.Inner.Steps.{band_count, longs_of, shorts_of}
use Rattle.charges.specs.Bands.{band_in}
use Rattle.charges.specs.Charges.{reading}

-- a part whose rows are clean and at most 4,000
pub record CleanPart (class : ℕ) (part : List ℕ) : Type 0 where
  pub clean : Every (Clean class) (part_rows part)
  pub few : length (part_rows part) ≤ most_rows

pub record GroupSums (class group : ℕ) (rows : List Row) (positions : List Position) : Type 0 where
  pub is_longs : longs_of positions ≡ tally (band_in class) (in_group (reading class) group (λ row. row.long)) (replicate band_count 0) rows
  pub is_shorts : shorts_of positions ≡ tally (band_in class) (in_group (reading class) group (λ row. row.short)) (replicate band_count 0) rows
