-- The accepted books, described directly (document 01, The book file). A law says that these are the books refused with 0.
use Rattle.std.specs.Prelude.{ℕ, ◌+◌, ◌*◌, ◌≤◌, ◌<◌, ◌≡◌, true, false, ◌⊎◌, List, length}
use Rattle.sums.specs.Every.{Every}
use Rattle.book.specs.Counts.{contents_size, row_size, counts_of, count_of_rows}
use Rattle.book.specs.Rows.{Row}
use Rattle.book.specs.Legs.{legs_of}
use Rattle.book.specs.Refusals.{most_rows, last_group, most_amount, least_kind, most_kind, most_days, most_coupon, floating, most_fixing, most_final}

-- the days and the coupon that a class allows, or the days to fixing and to final maturity of a floating-rate note (document 01, The book file; P5)
pub data Terms (class kind days coupon : ℕ) : Type 0 where
  plain : floating class kind ≡ false → days ≤ most_days class → coupon ≤ most_coupon class → Terms class kind days coupon
  note : floating class kind ≡ true → days ≤ most_fixing → coupon ≤ most_final → days ≤ coupon → Terms class kind days coupon

-- a row that its class allows (document 01, The book file)
pub record Clean (class : ℕ) (row : Row) : Type 0 where
  pub group : row.group ≤ last_group
  pub kind_from : least_kind class ≤ row.kind
  pub kind_to : row.kind ≤ most_kind class
  pub terms : Terms class row.kind row.days row.coupon
  pub one_side : ((0 < row.long) × (row.short ≡ 0)) ⊎ ((row.long ≡ 0) × (0 < row.short))
  pub long : row.long ≤ most_amount
  pub short : row.short ≤ most_amount

-- a book that is accepted (document 01, The book file)
pub record Accepted (s : List ℕ) : Type 0 where
  pub contents : contents_size ≤ length s
  pub few : count_of_rows (counts_of s) ≤ most_rows
  pub sized : length s ≡ contents_size + row_size * count_of_rows (counts_of s)
  pub clean : Every (λ leg. Clean leg.class leg.row) (legs_of s)
