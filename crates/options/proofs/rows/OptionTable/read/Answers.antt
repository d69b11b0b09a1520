-- `options::rows::OptionTable::read` meets its contract: 16, or the rows before are in range.
use mathlib.Core.Path.{◌≡◌, sym, ap, ◌∙◌}
use mathlib.Core.Bool.{false}
use native.Mathlib.Omega.{arith}
use Rattle.book.specs.Refusals.{refused}
use Rattle.book.specs.Reasons.{number_of, number_in, numbers_of, told}
use Rattle.book.proofs.Numbers.{told_at_start, some_of, none_told}
use Rattle.options.specs.Refusals.{allowed, length_refused, options_refusal}
use Rattle.options.proofs.Ranges.{TableSized, table_sized, wrong_length, right_length, past_length}
use Rattle.options.proofs.Walking.{none_passed, one_passed, one_outside, all_passed}
use Rattle.options.proofs.rows.OptionTable.read.Goals.{In_ok-many, After-loop-row}
use Rattle.options.proofs.rows.OptionTable.read.Goals as goal

-- past 16
module _ (c : In_ok-many) where
  sized : length_refused c.args.bytes.now ≡ false
  unfolding number_in
  sized = right_length _ (sym c.in_ok-many.ensures.number)

  table : TableSized c.args.bytes.now
  table = table_sized _ sized

pub returns-in_err-many-clause-refusal : goal.returns-in_err-many-clause-refusal
unfolding number_in
returns-in_err-many-clause-refusal c =
    let found = c.in_err-many.ensures.number in
    told_at_start _ _ c.from_residual.ensures.1 found ∙ sym (wrong_length _ (some_of _ found))

pub loop-row-init : goal.loop-row-init
loop-row-init c = none_passed _

pub option_at-requires : goal.option_at-requires
option_at-requires c = omega (arith, (table (goal.at.option_at-requires c).In_ok-many).sized, c.in_ok-many.ensures.many)

pub returns-then-not-is_allowed-clause-refusal : goal.returns-then-not-is_allowed-clause-refusal
unfolding told numbers_of number_of refused
returns-then-not-is_allowed-clause-refusal c =
    let fails = ap allowed (sym c.option_at.ensures) ∙ sym c.is_allowed.ensures ∙ c.if-not-is_allowed.true in
    ap numbers_of c.at_row.ensures
    ∙ sym (past_length _ (sized (goal.at.returns-then-not-is_allowed-clause-refusal c).In_ok-many) ∙ one_outside _ c.loop-row.invariant (omega (arith, c.in_ok-many.ensures.many)) fails)

pub loop-row-preserved : goal.loop-row-preserved
loop-row-preserved c =
    let passes = ap allowed (sym c.option_at.ensures) ∙ sym c.is_allowed.ensures ∙ c.if-not-is_allowed.false in
    one_passed _ c.loop-row.invariant (omega (arith, c.in_ok-many.ensures.many)) passes

-- no row is out of range
accepted : (c : After-loop-row) → length_refused c.args.bytes.now ≡ false → refused 0 0 ≡ options_refusal c.args.bytes.now
accepted c right = sym (past_length _ right ∙ all_passed _ c.loop-row.invariant (omega (arith, c.in_ok-many.ensures.many)))

pub invariant_of-result : goal.invariant_of-result
invariant_of-result c = record { taken = none_told (accepted c (sized (goal.at.invariant_of-result c).In_ok-many)) }

pub returns-clause-refusal : goal.returns-clause-refusal
unfolding told
returns-clause-refusal c =
    let at = goal.at.returns-clause-refusal c in
    accepted at.After-loop-row (sized at.In_ok-many)
