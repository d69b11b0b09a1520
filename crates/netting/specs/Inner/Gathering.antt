-- The sums of each issue, at the number of its first row.
use Rattle.std.specs.Prelude.{ℕ, ◌+◌, ◌≤◌, ◌<◌, ◌*◌, ◌≡◌, List, map, length, get_or, Result, Ok, Err, IfOk, OnOk}
use Rattle.sums.specs.Sums.{sum_at, span}
use Rattle.sums.specs.Every.{Every}
use Rattle.sums.specs.Inner.Tables.{tally}
use Rattle.book.specs.Counts.{counts_of, rows_before}
use Rattle.book.specs.declared.Row.{Row}
use Rattle.book.specs.Legs.{legs_of, of_class}
use Rattle.book.specs.declared.Refused.{Refused}
use Rattle.book.specs.Reasons.{numbers_of, told}
use Rattle.book.specs.Refusals.{most_rows, most_amount, refused}
use Rattle.ladder.specs.Position.{empty}
use Rattle.issues.specs.Comparing.{comparisons}
use Rattle.issues.specs.Agreeing.{differs}
use Rattle.amounts.specs.declared.positions.Amounts.{Amounts}
use Rattle.amounts.specs.Inner.Standing.{positions_in}
use Rattle.netting.specs.Netted.{differing_refusal, comparisons_of}
use Rattle.netting.specs.Inner.Places.{first_place, first_row_of}

-- the issue numbers of the rows of a class
abbrev pub issue_numbers : List Row → List ℕ
issue_numbers rows = map (λ row. row.issue) rows

-- the amounts of the first n rows on one side added to those at the numbers
abbrev pub gathered_in : (Row → ℕ) → ℕ → List Row → ℕ → List ℕ → List ℕ
gathered_in amount first rows n table =
    tally (λ k. first + first_row_of (issue_numbers rows) k) (λ k. get_or (map amount rows) k 0) table (span 0 n)

-- the longs and the shorts that stand at the numbers
abbrev pub longs_of : Amounts → List ℕ
longs_of amounts = map (λ position. position.long) amounts.rows

abbrev pub shorts_of : Amounts → List ℕ
shorts_of amounts = map (λ position. position.short) amounts.rows

-- what is asked of the rows of a class: room, no sums from the first row on, and amounts within
-- the limit
pub record CanGather (first : ℕ) (rows : List Row) (amounts : Amounts) : Type 0 where
  pub room : first + length rows ≤ most_rows
  pub clear : (m : ℕ) → first ≤ m → positions_in amounts m ≡ empty
  pub within : Every (λ row. (row.long ≤ most_amount) × (row.short ≤ most_amount)) rows

-- no row differs: the comparisons made, and all rows added
pub record AllGathered (first : ℕ) (rows : List Row) (compared : ℕ) (amounts amounts' : Amounts) : Type 0 where
  pub agree : first_place (differs rows) rows ≡ length rows
  pub is_compared : compared ≡ comparisons rows
  pub few_compared : compared ≤ most_rows * length rows
  pub longs_are : longs_of amounts' ≡ gathered_in (λ row. row.long) first rows (length rows) (longs_of amounts)
  pub shorts_are : shorts_of amounts' ≡ gathered_in (λ row. row.short) first rows (length rows) (shorts_of amounts)

-- 13 at the first row that differs
pub record DiffersAt (first : ℕ) (rows : List Row) (r : Refused) : Type 0 where
  pub inside : first_place (differs rows) rows < length rows
  pub is : numbers_of r ≡ refused 13 (first + first_place (differs rows) rows)

-- the one or the other
abbrev pub Gathered : (first : ℕ) (rows : List Row) → Result ℕ Refused → (amounts amounts' : Amounts) → Type 0
Gathered first rows (Ok compared) amounts amounts' = AllGathered first rows compared amounts amounts'
Gathered first rows (Err r) amounts amounts' = DiffersAt first rows r

-- what stands at each place when all rows were added
abbrev pub first_row_sum : (Row → ℕ) → List Row → ℕ → ℕ
first_row_sum amount rows k = sum_at (first_row_of (issue_numbers rows)) (λ j. get_or (map amount rows) j 0) k (span 0 (length rows))

pub record Holds (first : ℕ) (rows : List Row) (amounts : Amounts) : Type 0 where
  pub longs_at : (k : ℕ) → k < length rows → (positions_in amounts (first + k)).long ≡ first_row_sum (λ row. row.long) rows k
  pub shorts_at : (k : ℕ) → k < length rows → (positions_in amounts (first + k)).short ≡ first_row_sum (λ row. row.short) rows k

-- 13, or the comparisons made and the sums of every class
pub record GatheredBook (s : List ℕ) (r : Result ℕ Refused) (amounts : Amounts) : Type 0 where
  pub is : told r ≡ differing_refusal (legs_of s)
  pub is_compared : IfOk r (λ compared. compared ≡ comparisons_of s)
  pub holds : OnOk r ((class : ℕ) → 1 ≤ class → class ≤ 4 → Holds (rows_before (counts_of s) class) (of_class class (legs_of s)) amounts)
