-- What the walk of netting does with a row: it stays, it is gone, or it stands for its issue. And so no row is added.
-- Assumes nothing.
use Prim.Native.Nat.{ℕ, ◌≤◌}
use mathlib.Core.Path.{◌≡◌, refl}
use mathlib.Core.Bool.{Bool, true, false, cond}
use mathlib.Core.List.{List, [], ◌∷◌}
use native.Mathlib.Omega.{arith}
use lib.Dec.{eqb}
use lib.ListN.{length}
use borrow.Author.Tests.{eqb-true, eqb-false, eq-eqb, ne_eqb}
use Rattle.sums.specs.Sums.{sum_of}
use Rattle.sums.proofs.Spans.{slot_own, slot_other}
use Rattle.book.specs.declared.Row.{Row}
use Rattle.ladder.specs.declared.positions.Position.{Position}
use Rattle.ladder.specs.Position.{gross, net, ◌⊕◌}
use Rattle.ladder.proofs.Matching.{same_position}
use Rattle.issues.specs.Issues.{issues_of, has, holding, placed, netted_from, netted_rows}

-- ---- issue numbers in a list
pub has-own : (i : ℕ) (seen : List ℕ) → has (i ∷ seen) i ≡ true
unfolding has
has-own i seen = rw (eq-eqb i i refl)

pub has_other : (j i : ℕ) (seen : List ℕ) → (j ≡ i → ⊥) → has (j ∷ seen) i ≡ has seen i
unfolding has
has_other j i seen other = rw (ne_eqb j i other)

-- ---- the sums of an issue, with one row more
-- the amounts of a row
abbrev pub amounts : Row → Position
amounts row = record { long = row.long; short = row.short }

pub issue_own : (row : Row) (rows : List Row) (i : ℕ) → row.issue ≡ i → issues_of (row ∷ rows) i ≡ amounts row ⊕ issues_of rows i
unfolding sum_of
issue_own row rows i own =
    same_position (omega (arith, slot_own row.issue row.long i own)) (omega (arith, slot_own row.issue row.short i own))

pub issue_other : (row : Row) (rows : List Row) (i : ℕ) → (row.issue ≡ i → ⊥) → issues_of (row ∷ rows) i ≡ issues_of rows i
unfolding sum_of
issue_other row rows i other =
    same_position (omega (arith, slot_other row.issue row.long i other)) (omega (arith, slot_other row.issue row.short i other))

-- ---- a row after others whose issues were seen
pub data Place (seen : List ℕ) (row : Row) : Type 0 where
  stays : row.issue ≡ 0 → Place seen row
  gone : (row.issue ≡ 0 → ⊥) → has seen row.issue ≡ true → Place seen row
  stands : (row.issue ≡ 0 → ⊥) → has seen row.issue ≡ false → Place seen row

pub place : (seen : List ℕ) (row : Row) → Place seen row
place seen row = go (eqb row.issue 0) refl (has seen row.issue) refl
  where
    go : (none : Bool) → eqb row.issue 0 ≡ none → (old : Bool) → has seen row.issue ≡ old → Place seen row
    go true e old e' = stays (eqb-true row.issue 0 e)
    go false e true e' = gone (eqb-false row.issue 0 e) e'
    go false e false e' = stands (eqb-false row.issue 0 e) e'

module _ (seen : List ℕ) (row : Row) (rows : List Row) where
  pub row_stays : row.issue ≡ 0 → netted_from seen (row ∷ rows) ≡ row ∷ netted_from seen rows
  unfolding netted_from
  row_stays e = rw (eq-eqb row.issue 0 e)

  pub row_gone : (row.issue ≡ 0 → ⊥) → has seen row.issue ≡ true → netted_from seen (row ∷ rows) ≡ netted_from seen rows
  unfolding netted_from
  row_gone some old = rw (ne_eqb row.issue 0 some, old)

  pub row_stands : (row.issue ≡ 0 → ⊥) → has seen row.issue ≡ false
      → netted_from seen (row ∷ rows) ≡ placed row (net (issues_of (row ∷ rows) row.issue)) (netted_from (row.issue ∷ seen) rows)
  unfolding netted_from
  row_stands some new = rw (ne_eqb row.issue 0 some, new)

-- ---- a net in the place of a row
pub placed-none : (row : Row) (position : Position) (more : List Row) → gross position ≡ 0 → placed row position more ≡ more
unfolding placed
placed-none row position more e = rw (eq-eqb (gross position) 0 e)

pub placed-some : (row : Row) (position : Position) (more : List Row) → (gross position ≡ 0 → ⊥) → placed row position more ≡ holding row position ∷ more
unfolding placed
placed-some row position more e = rw (ne_eqb (gross position) 0 e)

-- ---- netting adds no row
placed-length : (row : Row) (position : Position) (more : List Row) → length (placed row position more) ≤ length (row ∷ more)
unfolding placed
placed-length row position more = go (eqb (gross position) 0)
  where
    go : (test : Bool) → length (cond test more (holding row position ∷ more)) ≤ length (row ∷ more)
    go true = omega arith
    go false = omega arith

fewer_from : (seen : List ℕ) (rows : List Row) → length (netted_from seen rows) ≤ length rows
unfolding netted_from
fewer_from seen [] = omega arith
fewer_from seen (row ∷ rows) = go (place seen row) (fewer_from seen rows) (fewer_from (row.issue ∷ seen) rows)
  where
    go : Place seen row → length (netted_from seen rows) ≤ length rows → length (netted_from (row.issue ∷ seen) rows) ≤ length rows
        → length (netted_from seen (row ∷ rows)) ≤ length (row ∷ rows)
    go (stays e) same more = rw (row_stays seen row rows e) (omega arith)
    go (gone some old) same more = rw (row_gone seen row rows some old) (omega arith)
    go (stands some new) same more =
        rw (row_stands seen row rows some new)
        (omega (arith, placed-length row (net (issues_of (row ∷ rows) row.issue)) (netted_from (row.issue ∷ seen) rows)))

pub netted_fewer : (rows : List Row) → length (netted_rows rows) ≤ length rows
netted_fewer = fewer_from []
