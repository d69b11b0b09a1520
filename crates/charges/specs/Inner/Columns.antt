-- The columns of last days as the code keeps them, one after the other.
use Rattle.std.specs.Prelude.{ℕ, ◌-◌, Bool, true, ◌&&◌, List, [], ◌∷◌, ◌++◌, leb, length, take, drop, replicate}
use Rattle.charges.specs.Bands.{high_column, low_column, commodity_column}

-- each entry of a column is at most the next
unfoldable pub ascending : List ℕ → Bool
ascending [] = true
ascending (last ∷ []) = true
ascending (last ∷ (next ∷ column)) = leb last next && ascending (next ∷ column)

-- a column has sixteen places
abbrev pub column_size : ℕ
column_size = 16

-- the largest number of two bytes, which no days are above, fills up a column
abbrev pub largest : ℕ
largest = 65535

abbrev pub filled_up : List ℕ → List ℕ
filled_up column = column ++ replicate (column_size - length column) largest

-- at coupons of 300 or more, below 300, and of commodities
abbrev pub columns : List ℕ
columns = filled_up high_column ++ (filled_up low_column ++ filled_up commodity_column)

-- the column from a place on
abbrev pub column_from : ℕ → List ℕ → List ℕ
column_from first all = take column_size (drop first all)
