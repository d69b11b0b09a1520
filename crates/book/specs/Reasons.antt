-- The reasons of refusals and their numbers, and what an answer tells of its refusal
-- (document 01, Who is told no, and why; 02).
use Rattle.std.specs.Prelude.{ℕ, Result, Ok, Err}
use Rattle.book.specs.Refusals.{Refusal, refused}
use Rattle.book.specs.declared.reasons.Reason.TheVariants.{Contents, Rows, Length, Group, Kind, Days, Coupon, Sides, Amount, LadderGroup, JoinedRows, Room, IssueTerms, NetAmount, Note, OptionTable, OptionRow, TableLength, TableValues, SmallBank, Place, Limits}
pub use Rattle.book.specs.declared.reasons.Reason.{Reason}
pub use Rattle.book.specs.declared.reasons.Refused.{Refused}

-- the number of a reason (document 01, Who is told no, and why;
-- P1 for 13 and 14, P5 for 15, P9 to P11, P13 and P14 for the others)
unfoldable pub number_of : Reason → ℕ
number_of Contents = 1
number_of Rows = 2
number_of Length = 3
number_of Group = 4
number_of Kind = 5
number_of Days = 6
number_of Coupon = 7
number_of Sides = 8
number_of Amount = 9
number_of LadderGroup = 10
number_of JoinedRows = 11
number_of Room = 12
number_of IssueTerms = 13
number_of NetAmount = 14
number_of Note = 15
number_of OptionTable = 16
number_of OptionRow = 17
number_of TableLength = 18
number_of TableValues = 19
number_of SmallBank = 20
number_of Place = 21
number_of Limits = 22

-- the number of a check: 0 where it passes (document 01, Who is told no, and why)
unfoldable pub number_in : {A : Type 0} → Result A Reason → ℕ
number_in (Ok _) = 0
number_in (Err reason) = number_of reason

-- a refusal in numbers (document 01, Who is told no, and why)
unfoldable pub numbers_of : Refused → Refusal
numbers_of r = record { number = number_of r.reason; row = r.row; book = r.book }

-- what an answer tells of its refusal: all zero where there is none
-- (document 01, Who is told no, and why)
unfoldable pub told : {A : Type 0} → Result A Refused → Refusal
told (Ok _) = refused 0 0
told (Err r) = numbers_of r

-- a figure of an answer: 0 where it is refused (document 01, Who is told no, and why)
unfoldable pub figure_in : {A : Type 0} → (A → ℕ) → Result A Refused → ℕ
figure_in figure (Ok value) = figure value
figure_in figure (Err _) = 0

-- a reason against no row (document 01, Who is told no, and why)
abbrev pub at_start : Reason → Refused
at_start reason = record { reason = reason; row = 0; book = 0 }
