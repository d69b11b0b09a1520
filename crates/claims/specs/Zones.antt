-- The premise of joining: at most two zones in each currency (document 01, Interest: bands and zones).
use Rattle.std.specs.Prelude.{ℕ, ◌≤◌, List}
use Rattle.book.specs.Refusals.{last_group}
use Rattle.ladder.specs.Rows.{AtMostTwoZones}
use Rattle.charges.specs.Charges.{reading}
use Rattle.charges.specs.Report.{class_rows}

-- in each of the 32 currencies
unfoldable pub TwoZonesEach : List ℕ → Type 0
TwoZonesEach s = (currency : ℕ) → currency ≤ last_group → AtMostTwoZones (reading 1) (class_rows s 1) currency
