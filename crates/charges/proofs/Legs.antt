-- What the clean rows of a class sum to: each side, the amounts, and the specific charge.
-- Assumes nothing.
use mathlib.Core.Bool.{cond}
use mathlib.Core.Logic.{⊎_elim}
use mathlib.Core.List.{List}
use Prim.Native.Nat.{ℕ, ◌+◌, ◌*◌, ◌≤◌}
use native.Mathlib.Nat.{mul-le-mul_right}
use native.Mathlib.Omega.{arith}
use lib.ListN.{length}
use lib.Dec.{leb, eqb}
use Rattle.book.specs.declared.Row.{Row}
use Rattle.book.specs.Refusals.{most_rows, most_amount}
use Rattle.sums.specs.Every.{Every}
use Rattle.book.specs.Accepted.{Clean}
use Rattle.sums.specs.Sums.{sum_of}
use Rattle.sums.proofs.Sums.{sum_of≤, sum_of_rate}
use Rattle.sums.proofs.Every.{every_bound}
use Rattle.charges.specs.Weights.{qualifying_weight, interest_weight, equity_weight, specific_weight}
use Rattle.sums.proofs.Cases.{either}
use Rattle.charges.specs.Charges.{eight_per_cent, specific_of}

-- the amounts of some rows together
unfoldable pub amounts : List Row → ℕ
amounts rows = sum_of (λ row. row.long + row.short) rows

-- a clean row has its amount on one side
pub one_amount : (most class : ℕ) (row : Row) → Clean class row → row.long ≤ most → row.short ≤ most → row.long + row.short ≤ most
one_amount most class row clean long short = ⊎_elim (λ h. omega arith) (λ h. omega arith) clean.one_side

pub amount_within : (class : ℕ) (row : Row) → Clean class row → row.long + row.short ≤ most_amount
amount_within class row clean = one_amount most_amount class row clean clean.long clean.short

-- the amounts of a class's rows
pub amounts_within : (class : ℕ) {rows : List Row} → Every (Clean class) rows → amounts rows ≤ most_amount * length rows
unfolding amounts
amounts_within class = every_bound (λ row. row.long + row.short) most_amount (amount_within class)

-- no specific weight is over 800 basis points
by_kind : (kind a b c d : ℕ) → a ≤ 800 → b ≤ 800 → c ≤ 800 → d ≤ 800 → cond (eqb kind 1) a (cond (eqb kind 2) b (cond (eqb kind 3) c d)) ≤ 800
by_kind kind a b c d ha hb hc hd = either (eqb kind 1) a _ ha (either (eqb kind 2) b _ hb (either (eqb kind 3) c d hc hd))

qualifying_within : (days : ℕ) → qualifying_weight days ≤ 800
unfolding qualifying_weight
qualifying_within days = either (leb days 180) 25 _ (omega arith) (either (leb days 720) 100 160 (omega arith) (omega arith))

pub weight_within : (class : ℕ) (row : Row) → specific_weight class row ≤ 800
unfolding specific_weight interest_weight equity_weight
weight_within class row =
    either (eqb class 1) (interest_weight row) _
    (by_kind row.kind 0 (qualifying_weight row.days) 800 _ (omega arith) (qualifying_within row.days) (omega arith)
    (either (eqb row.kind 4) (qualifying_weight row.coupon) 0 (qualifying_within row.coupon) (omega arith)))
    (either (eqb class 2) (equity_weight row) 0 (by_kind row.kind 800 400 200 0 (omega arith) (omega arith) (omega arith) (omega arith)) (omega arith))

-- the specific charge is at most 8% of the amounts
pub specific_within : (class : ℕ) (rows : List Row) → sum_of (specific_of class) rows ≤ eight_per_cent * amounts rows
unfolding specific_of amounts
specific_within class rows =
    sum_of_rate eight_per_cent (specific_of class) (λ row. row.long + row.short) rows
    (λ row. omega (arith, mul-le-mul_right (row.long + row.short) (weight_within class row)))

-- what each sum of at most 4,000 clean rows may come to
pub record Bounded (class : ℕ) (rows : List Row) : Type 0 where
  pub longs : sum_of (λ row. row.long) rows ≤ most_amount * most_rows
  pub shorts : sum_of (λ row. row.short) rows ≤ most_amount * most_rows
  pub specific : sum_of (specific_of class) rows ≤ eight_per_cent * (most_amount * most_rows)

pub bounded : (class : ℕ) (rows : List Row) → Every (Clean class) rows → length rows ≤ most_rows → Bounded class rows
unfolding amounts
bounded class rows clean few =
    let amounts = amounts_within class clean in
    record {
      longs = omega (arith, sum_of≤ (λ row. row.long) (λ row. row.long + row.short) rows (λ row m. omega arith));
      shorts = omega (arith, sum_of≤ (λ row. row.short) (λ row. row.long + row.short) rows (λ row m. omega arith));
      specific = omega (arith, specific_within class rows);
    }
