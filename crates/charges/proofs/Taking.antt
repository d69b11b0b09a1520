-- A pass that ends well took each row, and its sums are those of all.
-- Assumes nothing.
use mathlib.Core.Path.{◌≡◌, subst}
use mathlib.Core.List.{List}
use Prim.Native.Nat.{ℕ}
use native.Mathlib.Omega.{arith}
use lib.ListN.{length}
use lib.Seq.{take_all}
use borrow.Author.Tests.{eq-eqb}
use Rattle.book.specs.declared.Refusal.{Refusal}
use Rattle.book.specs.Legs.{Leg}
use Rattle.ladder.specs.declared.positions.Position.{Position}
use Rattle.charges.specs.Inner.Slots.{LegSums}
use Rattle.charges.specs.Inner.Pass.{passed}

pub sums_all : (refusal : Refusal) (legs : List Leg) → refusal.number ≡ 0 → {positions : List Position} {specifics rows : List ℕ}
    → LegSums (passed refusal legs) positions specifics rows → LegSums legs positions specifics rows
unfolding passed
sums_all refusal legs good {positions} {specifics} {rows} sums =
    subst (λ (some : List Leg). LegSums some positions specifics rows) (take_all (length legs) legs (omega arith)) (simp (eq-eqb _ _ good) at sums)
