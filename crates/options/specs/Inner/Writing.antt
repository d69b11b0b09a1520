-- The rows of one class among the deltas, and their bytes.
use Rattle.std.specs.Prelude.{ℕ, Bool, not, ◌&&◌, eqb}
use mathlib.Core.List.{List, flat_map}
use Rattle.book.specs.declared.Counts.{Counts}
use Rattle.book.specs.declared.Row.{Row}
use Rattle.book.specs.Legs.{of_class}
use Rattle.layout.specs.Files.{row_bytes, counts_by}
use Rattle.options.specs.Table.{OptionRow}
use Rattle.options.specs.Delta.{delta_legs}

-- an option of the class whose delta is not 0
unfoldable pub gives_row : ℕ → OptionRow → Bool
gives_row class option = eqb option.class class && not (eqb option.delta 0)

-- the rows of a class among the deltas of some options, and their bytes
unfoldable pub delta_rows : ℕ → List OptionRow → List Row
delta_rows class options = of_class class (delta_legs options)

unfoldable pub delta_bytes : ℕ → List OptionRow → List ℕ
delta_bytes class options = flat_map row_bytes (delta_rows class options)

-- how many rows each class has
unfoldable pub delta_counts : List OptionRow → Counts
delta_counts options = counts_by (λ class. delta_rows class options)
