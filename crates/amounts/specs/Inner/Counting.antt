-- How many rows are left when those without amounts are dropped.
use Rattle.std.specs.Prelude.{ℕ, ◌+◌, Bool, not, cond, eqb}
use Rattle.sums.specs.Sums.{sum_of, span}
use Rattle.book.specs.declared.Counts.{Counts}
use Rattle.book.specs.Counts.{count_in, rows_before}
use Rattle.ladder.specs.declared.positions.Position.{Position}
use Rattle.ladder.specs.Position.{Bands, gross}

-- an amount on either side
abbrev pub is_left : Position → Bool
is_left position = not (eqb (gross position) 0)

-- of some rows, numbered from `first` on; of a class; and of each
abbrev pub left_rows : Bands → (first many : ℕ) → ℕ
left_rows positions first many = sum_of (λ k. cond (is_left (positions (first + k))) 1 0) (span 0 many)

abbrev pub class_left : Bands → Counts → ℕ → ℕ
class_left positions counts class = left_rows positions (rows_before counts class) (count_in counts class)

unfoldable pub left_counts : Bands → Counts → Counts
left_counts positions counts =
    record {
      interest = class_left positions counts 1;
      equity = class_left positions counts 2;
      exchange = class_left positions counts 3;
      commodity = class_left positions counts 4;
    }
