-- `dearest::dearest` meets its contract: 22, then 12, or the book, whose total is what its rows cost.
use mathlib.Core.Path.{◌≡◌, sym}
use native.Mathlib.Omega.{arith}
use Rattle.book.specs.Reasons.{number_in}
use Rattle.dearest.specs.Dearest.{limits_refusal}
use Rattle.dearest.proofs.Whole.{Limits, limits}
use Rattle.dearest.proofs.Costs.{dearest_fits}
use Rattle.dearest.proofs.Outcome.{outside, too_short, wrote}
use Rattle.dearest.proofs.dearest.Goals.{In_ok-check_limits}
use Rattle.dearest.proofs.dearest.Goals as goal

pub returns-in_err-check_limits : goal.returns-in_err-check_limits
unfolding number_in
returns-in_err-check_limits c =
    let both = outside c.args.rows c.args.most c.args.out.now _ c.in_err-check_limits.ensures _ c.from_residual.ensures.1 in
    record { answer = both.0; output = both.1 }

-- the number of rows and the amount are within their limits
module _ (c : In_ok-check_limits) where
  none_told : (limits_refusal c.args.rows c.args.most).number ≡ 0
  unfolding number_in
  none_told = sym c.in_ok-check_limits.ensures

  within : Limits c.args.rows c.args.most
  within = limits c.args.rows c.args.most none_told

pub overflow_mul-length : goal.overflow_mul-length
overflow_mul-length c = record { fits = omega (arith, (within (goal.at.overflow_mul-length c).In_ok-check_limits).few) }

pub overflow_add-length : goal.overflow_add-length
overflow_add-length c = record { fits = omega (arith, (within (goal.at.overflow_add-length c).In_ok-check_limits).few) }

pub returns-then-out-length : goal.returns-then-out-length
returns-then-out-length c =
    let both = too_short c.args.rows c.args.most c.args.out.now (none_told (goal.at.returns-then-out-length c).In_ok-check_limits) (omega arith) c.from.ensures in
    record { answer = both.0; output = both.1 }

pub write_book-requires : goal.write_book-requires
write_book-requires c =
    let ok = within (goal.at.write_book-requires c).In_ok-check_limits in
    (ok.few, ok.within, omega arith)

pub overflow_mul-total : goal.overflow_mul-total
overflow_mul-total c =
    record { fits = omega (arith, dearest_fits _ _ (within (goal.at.overflow_mul-total c).In_ok-check_limits)) }

pub overflow_mul-total-2 : goal.overflow_mul-total-2
overflow_mul-total-2 c =
    record { fits = omega (arith, dearest_fits _ _ (within (goal.at.overflow_mul-total-2 c).In_ok-check_limits)) }

pub returns : goal.returns
returns c =
    let both = wrote c.args.rows c.args.most c.args.out.now (none_told (goal.at.returns c).In_ok-check_limits) (omega arith) c.write_book.ensures in
    record { answer = both.0; output = both.1 }
