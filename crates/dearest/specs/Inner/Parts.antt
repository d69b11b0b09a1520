-- The contents and the rows of the dearest book.
use Rattle.std.specs.Prelude.{ℕ, replicate}
use mathlib.Core.List.{List, flat_map}
use Rattle.book.specs.declared.Counts.{Counts}
use Rattle.book.specs.declared.Row.{Row}
use Rattle.layout.specs.Files.{row_bytes}

-- so many rows of interest, and no others
unfoldable pub interest_alone : ℕ → Counts
interest_alone rows = record { interest = rows; equity = 0; exchange = 0; commodity = 0 }

-- the bytes of one row, so many times
unfoldable pub row_times : ℕ → Row → List ℕ
row_times rows row = flat_map row_bytes (replicate rows row)
