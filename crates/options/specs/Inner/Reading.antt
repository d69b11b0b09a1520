-- The first rows of a table.
use Rattle.std.specs.Prelude.{ℕ, List, map}
use Rattle.sums.specs.Sums.{span}
use Rattle.options.specs.Table.{OptionRow, option_at}

abbrev pub options_to : List ℕ → ℕ → List OptionRow
options_to s many = map (option_at s) (span 0 many)
