-- Pairs of rows that fit, found by their numbers, and dropped by clearing their amounts.
use Rattle.std.specs.Prelude.{ℕ, suc, ◌≤◌, ◌≡◌, cond, Option, None, Some, List, [], ◌∷◌, eqb, length, get_or, drop}
use Rattle.book.specs.declared.Row.{Row}
use Rattle.book.specs.Rows.{decode}
use Rattle.ladder.specs.Position.{Bands, gross}
use Rattle.issues.specs.Issues.{holding}
use Rattle.swaps.specs.Fitting.{fits}
use Rattle.swaps.specs.Offset.{offset_rows}
use Rattle.amounts.specs.declared.positions.Amounts.{Amounts}
use Rattle.amounts.specs.Inner.Standing.{positions_in, standing_rows}

-- the number of the first of some rows, numbered from `at` on, that fits with the amounts that stand there
unfoldable pub fit_from : Row → Bands → ℕ → List Row → Option ℕ
fit_from leg positions at [] = None
fit_from leg positions at (row ∷ rows) = cond (fits leg (holding row (positions at))) (Some at) (fit_from leg positions (suc at) rows)

-- row number `row` with the amounts that stand there
abbrev pub leg_at : List Row → Bands → ℕ → Row
leg_at rows positions row = holding (get_or rows row (decode [])) (positions row)

-- the number of the first later row that fits it; none fits one that was dropped
unfoldable pub fit_for : List Row → Bands → ℕ → Option ℕ
fit_for rows positions row =
    cond (eqb (gross (positions row)) 0) None (fit_from (leg_at rows positions row) positions (suc row) (drop (suc row) rows))

-- the interest rows, numbered from 0 on, without the pairs that fit; other numbers keep their amounts, and none has more
pub record Dropped (rows : List Row) (amounts amounts' : Amounts) : Type 0 where
  pub left : standing_rows (positions_in amounts') 0 rows ≡ offset_rows (standing_rows (positions_in amounts) 0 rows)
  pub beyond : (k : ℕ) → length rows ≤ k → positions_in amounts' k ≡ positions_in amounts k
  pub no_more : (k : ℕ) → gross (positions_in amounts' k) ≤ gross (positions_in amounts k)
