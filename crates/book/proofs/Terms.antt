-- The refusal of a row's terms with the limits chosen first, as the code has it.
-- Assumes nothing.
use mathlib.Core.Path.{◌≡◌, refl}
use mathlib.Core.Bool.{Bool, true, false, cond, ◌||◌}
use Prim.Native.Nat.{ℕ, ◌≤◌, ◌<◌}
use native.Mathlib.Omega.{arith}
use lib.Dec.{ltb}
use borrow.Author.Tests.{lt-ltb, le-ltb}
use Rattle.book.specs.Rows.{Row}
use Rattle.book.specs.Refusals.{most_days, most_coupon, floating, most_fixing, most_final, plain_refusal, note_refusal, terms_refusal}

-- days over their limit, and bytes 4-5 over or under theirs: 15 of a note; else 6, 7, and no third limit
abbrev pub answer : (note : Bool) (days coupon most-days most-coupon least : ℕ) → ℕ
answer note days coupon most-days most-coupon least =
    cond (ltb most-days days) (cond note 15 6) (cond (ltb most-coupon coupon) (cond note 15 7) (cond (ltb coupon least) 15 0))

-- what the first test that holds gives
module _ (note : Bool) (days coupon most-days most-coupon least : ℕ) where
  pub days_over : most-days < days → answer note days coupon most-days most-coupon least ≡ cond note 15 6
  days_over over = rw (lt-ltb most-days days over)

  pub coupon_over : days ≤ most-days → most-coupon < coupon → answer note days coupon most-days most-coupon least ≡ cond note 15 7
  coupon_over within over = rw (le-ltb most-days days within, lt-ltb most-coupon coupon over)

  pub ends_early : days ≤ most-days → coupon ≤ most-coupon → coupon < least → answer note days coupon most-days most-coupon least ≡ 15
  ends_early within to early = rw (le-ltb most-days days within, le-ltb most-coupon coupon to, lt-ltb coupon least early)

  pub none_refused : days ≤ most-days → coupon ≤ most-coupon → least ≤ coupon → answer note days coupon most-days most-coupon least ≡ 0
  none_refused within to from = rw (le-ltb most-days days within, le-ltb most-coupon coupon to, le-ltb coupon least from)

-- three tests with one number are one test
one_number : (a b c : Bool) (number none : ℕ) → cond a number (cond b number (cond c number none)) ≡ cond (a || (b || c)) number none
one_number true b c number none = refl
one_number false true c number none = refl
one_number false false c number none = refl

-- with the limits of the row's class and kind it is the definition's refusal
pub terms_answer : (class : ℕ) (row : Row) (note : Bool) → note ≡ floating class row.kind
    → answer note row.days row.coupon (cond note most_fixing (most_days class)) (cond note most_final (most_coupon class)) (cond note row.days 0) ≡ terms_refusal class row
unfolding plain_refusal note_refusal terms_refusal
terms_answer class row note is = rw (← is) (go note)
  where
    go : (test : Bool)
        → answer test row.days row.coupon (cond test most_fixing (most_days class)) (cond test most_final (most_coupon class)) (cond test row.days 0)
        ≡ cond test (note_refusal row) (plain_refusal class row)
    go true = one_number (ltb most_fixing row.days) (ltb most_final row.coupon) (ltb row.coupon row.days) 15 0
    go false = simp (le-ltb row.coupon 0 (omega arith))
