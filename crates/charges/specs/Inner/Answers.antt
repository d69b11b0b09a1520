-- What the calls' own steps promise: the largest total, a report, and the sums for a ladder.
use Rattle.std.specs.Prelude.{ℕ, ◌≤◌, cond, List, Result, Ok, Err, length}
use Rattle.sums.specs.Every.{Every}
use Rattle.book.specs.Refusals.{most_rows, refusal_of}
use Rattle.book.specs.declared.reasons.Refused.{Refused}
use Rattle.book.specs.Reasons.{numbers_of}
use Rattle.book.specs.Accepted.{Clean}
use Rattle.book.specs.Parts.{accepts}
use Rattle.ladder.specs.declared.Table.{Table}
use Rattle.ladder.specs.declared.positions.Position.{Position}
use Rattle.charges.specs.Report.{Report, refused_report, charged_report, class_rows}
use Rattle.charges.specs.Inner.Ladders.{GroupSums}

-- no total is above this
abbrev pub most_total : ℕ
most_total = 1200000000000000000

-- the report by a table that was loaded
unfoldable pub report_by : Table → List ℕ → Report
report_by table s = cond (accepts s) (charged_report table s) (refused_report (refusal_of s))

-- an answer as a report
unfoldable pub reported : Result Report Refused → Report
reported (Ok report) = report
reported (Err r) = refused_report (numbers_of r)

-- the sums of a group's rows, which are clean and at most 4,000
pub record SumsGiven (s : List ℕ) (class group : ℕ) (positions : List Position) : Type 0 where
  pub clean : Every (Clean class) (class_rows s class)
  pub few : length (class_rows s class) ≤ most_rows
  pub sums : GroupSums class group (class_rows s class) positions
