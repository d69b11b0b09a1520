-- Where a row of the file stands, the contents of a book of one row, and an answer of a book that is
-- not accepted.
use Rattle.std.specs.Prelude.{ℕ, ◌+◌, ◌≤◌, ◌<◌, cond, eqb, Some, Result, Ok, Err}
use Rattle.book.specs.declared.Counts.{Counts}
use Rattle.book.specs.Counts.{rows_before}
use Rattle.book.specs.declared.reasons.Refused.{Refused}
use Rattle.shortest.specs.Shortest.{Shown, shortest_answer}

-- a row of a number is one of a class
pub record RowIn (counts : Counts) (row class : ℕ) : Type 0 where
  pub low : 1 ≤ class
  pub high : class ≤ 4
  pub from : rows_before counts class ≤ row
  pub to : row < rows_before counts (class + 1)

-- one row in a class, and none in the others
unfoldable pub one_in : ℕ → Counts
one_in class =
    record {
      interest = cond (eqb class 1) 1 0;
      equity = cond (eqb class 2) 1 0;
      exchange = cond (eqb class 3) 1 0;
      commodity = cond (eqb class 4) 1 0;
    }

-- what the answer tells of a book that is not accepted
abbrev pub file_answer : Result ℕ Refused → Shown
file_answer (Ok length) = shortest_answer (Ok (Some length))
file_answer (Err r) = shortest_answer (Err r)
