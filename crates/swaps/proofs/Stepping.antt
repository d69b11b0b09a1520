-- Offsetting row by row: the number that bounds its steps never decides, and what happens to a row is said once, for all laws of the rows that are left.
-- Assumes nothing.
use Prim.Native.Nat.{ℕ, zero, suc, ◌≤◌}
use mathlib.Core.Path.{◌≡◌, refl}
use mathlib.Core.Bool.{Bool, true, false, cond}
use mathlib.Core.List.{List, [], ◌∷◌}
use native.Mathlib.Omega.{arith}
use lib.ListN.{length}
use Rattle.book.specs.declared.Row.{Row}
use Rattle.swaps.specs.Fitting.{fits}
use Rattle.swaps.specs.Offset.{some_fits, without_fit, offset_from, offset_rows}

-- taking a row away adds none
pub without_fewer : (row : Row) (rows : List Row) → length (without_fit row rows) ≤ length rows
unfolding without_fit
without_fewer row [] = omega arith
without_fewer row (later ∷ rows) = go (fits row later) (without_fewer row rows)
  where
    go : (test : Bool) → length (without_fit row rows) ≤ length rows → length (cond test rows (later ∷ without_fit row rows)) ≤ length (later ∷ rows)
    go true fewer = omega arith
    go false fewer = omega arith

-- two numbers that are both at least the number of rows give the same
enough : (most most' : ℕ) (rows : List Row) → length rows ≤ most → length rows ≤ most' → offset_from most rows ≡ offset_from most' rows
unfolding offset_from
enough zero zero rows h h' = refl
enough zero (suc most') [] h h' = refl
enough zero (suc most') (row ∷ rows) h h' = let never : ⊥ = omega arith in absurd never
enough (suc most) zero [] h h' = refl
enough (suc most) zero (row ∷ rows) h h' = let never : ⊥ = omega arith in absurd never
enough (suc most) (suc most') [] h h' = refl
enough (suc most) (suc most') (row ∷ rows) h h' =
    let fewer = without_fewer row rows in
    rw (enough most most' (without_fit row rows) (omega arith) (omega arith), enough most most' rows (omega arith) (omega arith))

-- a row is dropped with the first later row that fits, and the rows that are still there are offset; or it stays, before the later rows offset
pub offset_next : (row : Row) (rows : List Row) → offset_rows (row ∷ rows) ≡ cond (some_fits row rows) (offset_rows (without_fit row rows)) (row ∷ offset_rows rows)
unfolding offset_from
offset_next row rows =
    let fewer = without_fewer row rows in
    rw (enough (length rows) (length (without_fit row rows)) (without_fit row rows) fewer (omega arith))

-- ---- some rows, and what is left of them
pub data Leaves : (rows left : List Row) → Type 0 where
  nothing : Leaves [] []
  dropped : {row : Row} {rows left : List Row} → some_fits row rows ≡ true → Leaves (without_fit row rows) left → Leaves (row ∷ rows) left
  stays : {row : Row} {rows left : List Row} → some_fits row rows ≡ false → Leaves rows left → Leaves (row ∷ rows) (row ∷ left)

leaves-from : (most : ℕ) (rows : List Row) → length rows ≤ most → Leaves rows (offset_from most rows)
unfolding offset_from
leaves-from zero [] h = nothing
leaves-from zero (row ∷ rows) h = let never : ⊥ = omega arith in absurd never
leaves-from (suc most) [] h = nothing
leaves-from (suc most) (row ∷ rows) h =
    let fewer = without_fewer row rows in
    go (some_fits row rows) refl (leaves-from most (without_fit row rows) (omega arith)) (leaves-from most rows (omega arith))
  where
    go : (test : Bool) → some_fits row rows ≡ test → {left left' : List Row} → Leaves (without_fit row rows) left → Leaves rows left'
        → Leaves (row ∷ rows) (cond test left (row ∷ left'))
    go true e less same = dropped e less
    go false e less same = stays e same

pub leaves : (rows : List Row) → Leaves rows (offset_rows rows)
leaves rows = leaves-from (length rows) rows (omega arith)
