-- Offsetting (P2), over the interest rows of a book: each row in order with the first later row that fits and is still there.
use Rattle.std.specs.Prelude.{ℕ, zero, suc, Bool, false, cond, ◌||◌, List, [], ◌∷◌, length}
use Rattle.book.specs.declared.Row.{Row}
use Rattle.swaps.specs.Fitting.{government, fits}

-- whether one of the later rows fits a row (P2)
unfoldable pub some_fits : Row → List Row → Bool
some_fits row [] = false
some_fits row (later ∷ rows) = fits row later || some_fits row rows

-- the later rows without the first that fits (P2)
unfoldable pub without_fit : Row → List Row → List Row
without_fit row [] = []
without_fit row (later ∷ rows) = cond (fits row later) rows (later ∷ without_fit row rows)

-- a row is dropped with the first later row that fits, or stays; then the rows that are still there; for so many rows at most (P2)
unfoldable pub offset_from : (most : ℕ) → List Row → List Row
offset_from zero rows = rows
offset_from (suc most) [] = []
offset_from (suc most) (row ∷ rows) = cond (some_fits row rows) (offset_from most (without_fit row rows)) (row ∷ offset_from most rows)

-- the interest rows of a book without the pairs that fit (P2)
abbrev pub offset_rows : List Row → List Row
offset_rows rows = offset_from (length rows) rows

-- the rows of other kinds, which all stay (P2)
unfoldable pub other_kinds : List Row → List Row
other_kinds [] = []
other_kinds (row ∷ rows) = cond (government row) (other_kinds rows) (row ∷ other_kinds rows)
