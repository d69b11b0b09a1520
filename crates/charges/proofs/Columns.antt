-- Columns of last days: where the first band stands by the entries that are below the days, and that filling up a column changes no band.
-- Assumes nothing.
use mathlib.Core.Path.{◌≡◌, refl, ap}
use mathlib.Core.Bool.{Bool, true, false, cond}
use mathlib.Core.List.{List, [], ◌∷◌, ◌++◌}
use Prim.Native.Nat.{ℕ, zero, suc, ◌+◌, ◌*◌, ◌≤◌, ◌<◌}
use native.Mathlib.Omega.{arith}
use mir.Val.{bool_byte}
use lib.ListN.{length, get_or, replicate}
use lib.Dec.{ltb, leb}
use borrow.Author.Tests.{ltb-true, ltb-false, lt-ltb, le-ltb, leb-true}
use Rattle.sums.proofs.Cases.{both}
use Rattle.charges.specs.Bands.{first_band}
use Rattle.charges.specs.Inner.Columns.{ascending, column_size, largest, column_from}
use Rattle.charges.proofs.Arrays.{part_reads, part_sized}

-- ---- one entry
-- past all entries it is the band after them
pub first-within : (days : ℕ) (column : List ℕ) → first_band days column ≤ length column
unfolding first_band
first-within days [] = omega arith
first-within days (last ∷ column) = go (ltb last days) (first-within days column)
  where
    go : (test : Bool) → first_band days column ≤ length column → cond test (suc (first_band days column)) 0 ≤ suc (length column)
    go true later = omega arith
    go false later = omega arith

-- an entry that is not below the days
pub first_by : (days : ℕ) (column : List ℕ) (i : ℕ) → days ≤ get_or column i 0 → first_band days column ≤ i
unfolding first_band
first_by days [] i h = omega arith
first_by days (last ∷ column) zero h = rw (le-ltb last days h) (omega arith)
first_by days (last ∷ column) (suc i) h = go (ltb last days) (first_by days column i h)
  where
    go : (test : Bool) → first_band days column ≤ i → cond test (suc (first_band days column)) 0 ≤ suc i
    go true later = omega arith
    go false later = omega arith

-- an entry of an ascending column that is below the days: so are all before it
pub first_past : (days : ℕ) (column : List ℕ) → ascending column ≡ true → (i : ℕ) → i < length column → get_or column i 0 < days → i < first_band days column
unfolding first_band ascending
first_past days [] up i within h = let never : ⊥ = omega arith in absurd never
first_past days (last ∷ column) up zero within h = rw (lt-ltb last days h) (omega arith)
first_past days (last ∷ []) up (suc i) within h = let never : ⊥ = omega arith in absurd never
first_past days (last ∷ (next ∷ column)) up (suc i) within h =
    let parts = both (leb last next) _ up in
    let later = first_past days (next ∷ column) parts.1 i (omega arith) h in
    let low : last < days = omega (arith, leb-true last next parts.0, passed next days _ later) in
    rw (lt-ltb last days low) (omega (arith, later))
  where
    passed : {i : ℕ} (a b rest : ℕ) → i < cond (ltb a b) (suc rest) 0 → a < b
    passed a b rest h = go (ltb a b) (ltb-true a b) h
      where
        go : {i : ℕ} (test : Bool) → (test ≡ true → a < b) → i < cond test (suc rest) 0 → a < b
        go true holds h = holds refl
        go false holds h = let never : ⊥ = omega arith in absurd never

-- ---- three entries, equally far apart
-- a test counts once at most
pub counts_once : (test : Bool) → bool_byte test ≤ 1
counts_once true = omega arith
counts_once false = omega arith

-- what a test at a place tells of the first band
pub record Told (band place : ℕ) (test : Bool) : Type 0 where
  pub past : test ≡ true → place < band
  pub by : test ≡ false → band ≤ place

-- the tests that hold say between which two of the places the band is
pub three_told : (apart place band : ℕ) (a b c : Bool) → place < band + apart → band ≤ place + 3 * apart
    → Told band place a → Told band (place + apart) b → Told band (place + 2 * apart) c
    → (place + apart * (bool_byte a + bool_byte b + bool_byte c) < band + apart) × (band ≤ place + apart * (bool_byte a + bool_byte b + bool_byte c))
three_told apart place band true true true low high p q r = omega (arith, r.past refl)
three_told apart place band true true false low high p q r = omega (arith, q.past refl, r.by refl)
three_told apart place band true false true low high p q r = omega (arith, q.by refl, r.past refl)
three_told apart place band true false false low high p q r = omega (arith, p.past refl, q.by refl)
three_told apart place band false true true low high p q r = omega (arith, p.by refl, q.past refl)
three_told apart place band false true false low high p q r = omega (arith, p.by refl, q.past refl)
three_told apart place band false false true low high p q r = omega (arith, p.by refl, r.past refl)
three_told apart place band false false false low high p q r = omega (arith, p.by refl)

-- ---- the first band of a column that stands in a list from a place on: three tests give the
-- quarter, and three the place in it
module _ (all : List ℕ) (first days : ℕ) (within : first + column_size ≤ length all)
    (up : ascending (column_from first all) ≡ true) (most : days ≤ get_or all (first + 15) 0) where
  abbrev test : ℕ → Bool
  test j = ltb (get_or all j 0) days

  abbrev band : ℕ
  band = first_band days (column_from first all)

  abbrev quarter : ℕ
  quarter =
      bool_byte (test (first + 3)) + bool_byte (test (first + 7)) + bool_byte (test (first + 11))

  -- an entry of the column, by its place in the list
  entry : (i : ℕ) → i < column_size → get_or (column_from first all) i 0 ≡ get_or all (first + i) 0
  entry i h = (part_reads first column_size all).below i h

  sized : length (column_from first all) ≡ column_size
  sized = part_sized first column_size all within

  told : (j i : ℕ) → j ≡ first + i → i < column_size → Told band i (test j)
  told j i e h =
      rw e
      (record {
        past = λ t. first_past _ _ up i (rw sized h) (rw (entry i h) (ltb-true _ _ t));
        by = λ t. first_by _ _ i (rw (entry i h) (ltb-false _ _ t));
      })

  few : quarter ≤ 3
  few =
      omega (
        arith,
        counts_once (test (first + 3)),
        counts_once (test (first + 7)),
        counts_once (test (first + 11)),
      )

  -- the first place of the quarter
  abbrev at : ℕ
  at = first + 4 * quarter

  in_quarter : (4 * quarter ≤ band) × (band ≤ 4 * quarter + 3)
  in_quarter =
      let last = first_by days (column_from first all) 15 (rw (entry 15 (omega arith)) most) in
      omega (
        arith,
        few,
        three_told 4 3 band (test (first + 3)) (test (first + 7)) (test (first + 11)) (omega arith)
            (omega (arith, last))
            (told _ 3 refl (omega arith))
            (told _ 7 refl (omega arith))
            (told _ 11 refl (omega arith)),
      )

  pub in_two_steps :
      4 * quarter + bool_byte (test at) + bool_byte (test (at + 1)) + bool_byte (test (at + 2)) ≡ band
  in_two_steps =
      omega (
        arith,
        three_told 1 (4 * quarter) band (test at) (test (at + 1)) (test (at + 2))
            (omega (arith, in_quarter)) (omega (arith, in_quarter))
            (told _ (4 * quarter) refl (omega (arith, few)))
            (told _ (4 * quarter + 1) (omega arith) (omega (arith, few)))
            (told _ (4 * quarter + 2) (omega arith) (omega (arith, few))),
      )

-- ---- filled up with the largest number of two bytes
pub first-filled : (days : ℕ) → days ≤ largest → (column : List ℕ) (more : ℕ) → first_band days (column ++ replicate more largest) ≡ first_band days column
unfolding first_band
first-filled days h [] zero = refl
first-filled days h [] (suc more) = rw (le-ltb largest days h)
first-filled days h (last ∷ column) more = ap (λ (band : ℕ). cond (ltb last days) (suc band) 0) (first-filled days h column more)
