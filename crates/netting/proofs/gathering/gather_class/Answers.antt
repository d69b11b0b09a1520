-- `netting::gathering::gather_class` meets its contract: the rows taken do not differ and are added.
use mathlib.Core.Path.{◌≡◌, sym, ap, ◌∙◌}
use mathlib.Core.Bool.{Bool}
use Prim.Native.Nat.{ℕ, ◌+◌, ◌≤◌, ◌<◌}
use native.Mathlib.Omega.{arith}
use lib.ListN.{length, get_or, length-map, set}
use Rattle.sums.proofs.Every.{every_at}
use Rattle.book.specs.declared.Row.{Row}
use Rattle.book.specs.Rows.{rows_in, decode}
use Rattle.book.specs.declared.Refused.{Refused}
use Rattle.book.specs.declared.Reason.TheVariants.{IssueTerms}
use Rattle.book.specs.Reasons.{number_of, numbers_of}
use Rattle.book.specs.Refusals.{refused}
use Rattle.book.specs.Inner.Reading.{row_of, part_rows}
use Rattle.ladder.specs.declared.positions.Position.{Position}
use Rattle.ladder.specs.Position.{◌⊕◌, gross}
use Rattle.issues.specs.Agreeing.{same_terms}
use Rattle.amounts.specs.Inner.Standing.{positions_in}
use Rattle.amounts.specs.Inner.Own.{amounts_of}
use Rattle.book.proofs.ClassRows.{no_row, row_is}
use Rattle.netting.proofs.Adding.{adds_none, few_kept, few_more, first-row_low, small_sums, adds_next, adds_leaves, adds_all}
use Rattle.netting.proofs.gathering.gather_class.Goals.{After-first_row-place}
use Rattle.netting.proofs.gathering.gather_class.Goals as goal

-- 13 in numbers
differing : {r : Refused} {row : ℕ} → r ≡ record { reason = IssueTerms; row = row; book = 0 } → numbers_of r ≡ refused 13 row
unfolding numbers_of number_of refused
differing is = ap numbers_of is

pub loop-row-init : goal.loop-row-init
loop-row-init c = adds_none _ _ _ c.requires c.none-kept.ensures

-- the row of a turn is there
module _ (c : After-first_row-place) where
  there : c.loop-row.row < length (part_rows c.args.part.now)
  there = omega (arith, c.loop-row-test.true, c.row_count-row-end.ensures, length-map (rows_in c.args.part.now) decode)

  is_leg : c.row_at-leg.result ≡ get_or (part_rows c.args.part.now) c.loop-row.row no_row
  is_leg = c.row_at-leg.ensures ∙ row_is c.args.part.now c.loop-row.row

  low : c.first_row-place.result.at ≤ c.loop-row.row
  low = first-row_low _ _ _ c.requires c.loop-row.invariant there _ is_leg c.first_row-place.ensures

  -- and the test of its terms against the row at the place
  tested : {same : Bool} {other : Row} → same ≡ same_terms other c.row_at-leg.result → other ≡ row_of c.args.part.now c.first_row-place.result.at
      → same ≡ same_terms (get_or (part_rows c.args.part.now) c.first_row-place.result.at no_row) c.row_at-leg.result
  tested is_same is_other = is_same ∙ ap (λ (r : Row). same_terms r c.row_at-leg.result) (is_other ∙ row_is c.args.part.now c.first_row-place.result.at)

pub returns-then-not-same_terms : goal.returns-then-not-same_terms
returns-then-not-same_terms c =
    let turn = (goal.at.returns-then-not-same_terms c).After-first_row-place in
    let test = tested turn c.same_terms.ensures c.row_at.ensures in
    adds_leaves _ _ _ c.requires c.loop-row.invariant (there turn) _ (is_leg turn) c.first_row-place.ensures (sym test ∙ c.if-not-same_terms.true) (differing c.at_row.ensures)

pub overflow_add-first-in-loop-row : goal.overflow_add-first-in-loop-row
overflow_add-first-in-loop-row c =
    let turn = (goal.at.overflow_add-first-in-loop-row c).After-first_row-place in
    omega (arith, low turn, there turn, c.requires.room)

pub add-requires-clause-in_table : goal.add-requires-clause-in_table
add-requires-clause-in_table c =
    let turn = (goal.at.add-requires-clause-in_table c).After-first_row-place in
    omega (arith, low turn, there turn, c.requires.room)

pub add-requires-clause-within : goal.add-requires-clause-within
add-requires-clause-within c =
    let turn = (goal.at.add-requires-clause-within c).After-first_row-place in
    let sums = small_sums _ _ _ c.requires c.loop-row.invariant (there turn) _ (is_leg turn) c.first_row-place.ensures in
    let own = every_at c.requires.within c.loop-row.row no_row (there turn) in
    let leg = c.amounts_of.ensures ∙ ap amounts_of (is_leg turn) in
    omega (arith, sums, own.0, own.1, ap gross leg)

pub overflow_add-compared : goal.overflow_add-compared
overflow_add-compared c =
    let turn = (goal.at.overflow_add-compared c).After-first_row-place in
    let more = few_more _ _ _ c.requires c.loop-row.invariant (there turn) _ (is_leg turn) c.first_row-place.ensures in
    omega (arith, c.loop-row.invariant.few_compared, more, few_kept _ _ _ c.requires c.loop-row.invariant (there turn), there turn, c.requires.room)

pub loop-row-preserved : goal.loop-row-preserved
loop-row-preserved c =
    let turn = (goal.at.loop-row-preserved c).After-first_row-place in
    let test = tested turn c.same_terms.ensures c.row_at.ensures in
    let at = c.args.first + c.first_row-place.result.at in
    adds_next _ _ _ c.requires c.loop-row.invariant (there turn) _ (is_leg turn) c.first_row-place.ensures (sym test ∙ c.if-not-same_terms.false) _
    (c.add.ensures ∙ ap (λ (p : Position). set c.loop-row.amounts.rows at (positions_in c.loop-row.amounts at ⊕ p)) c.amounts_of.ensures)

pub returns : goal.returns
returns c =
    adds_all _ _ _ c.requires c.loop-row.invariant
    (omega (arith, c.loop-row-test.false, c.row_count-row-end.ensures, length-map (rows_in c.args.part.now) decode))
