-- The dearest book (P14): of all accepted books of so many rows of at most an amount each none costs more. Which of equally dear books is written is left
-- free; the definition takes one of them.
use Rattle.std.specs.Prelude.{ℕ, ◌*◌, ◌≤◌, ◌≡◌, List, length}
use Rattle.sums.specs.Every.{Every}
use Rattle.book.specs.Legs.{legs_of}
use Rattle.book.specs.Refusals.{refusal_of}
use Rattle.table.specs.Loaded.{standard_bytes}
use Rattle.charges.specs.Report.{report_of}
use Rattle.dearest.specs.Dearest.{dearest_book, limits_refusal}

-- an accepted book of so many rows of at most an amount each (P14)
pub record BookWithin (rows most : ℕ) (s : List ℕ) : Type 0 where
  pub accepted : (refusal_of s).number ≡ 0
  pub many : length (legs_of s) ≡ rows
  pub amounts : Every (λ leg. (leg.row.long ≤ most) × (leg.row.short ≤ most)) (legs_of s)

-- the dearest book is one of them, costs 205,000 mils by document 01's table for each unit of its amounts, and none of them costs more (P14)
pub record DearestBook (rows most : ℕ) : Type 0 where
  pub within : BookWithin rows most (dearest_book rows most)
  pub costs : (report_of standard_bytes (dearest_book rows most)).total ≡ 205000 * (rows * most)
  pub dearest : (s : List ℕ) → BookWithin rows most s → (report_of standard_bytes s).total ≤ (report_of standard_bytes (dearest_book rows most)).total

-- for every number of rows and every amount that the call takes (P14)
abbrev pub DearestHolds : Type 0
DearestHolds = (rows most : ℕ) → (limits_refusal rows most).number ≡ 0 → DearestBook rows most
