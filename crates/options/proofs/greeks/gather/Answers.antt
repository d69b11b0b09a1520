-- `options::greeks::gather` meets its contract: the options before are added, and each slot has room for one more.
use mathlib.Core.Path.{sym, ap, ◌∙◌}
use Prim.Native.Nat.{◌+◌, ◌*◌, ◌^◌, ◌≤◌, ◌<◌}
use native.Mathlib.Nat.{mul-le-mul}
use native.Mathlib.Omega.{arith}
use lib.ListN.{replicate}
use Rattle.ladder.proofs.Matching.{same_position}
use Rattle.options.specs.Refusals.{most_options}
use Rattle.options.specs.Inner.Sums.{Fields, Measure, Measures}
use Rattle.charges.specs.Inner.Slots.{group_count}
use Rattle.options.proofs.Ranges.{accepted_options}
use Rattle.options.proofs.Gathering.{gathered_none, gathered_other, bought_room, gathered_bought, sold_room, gathered_sold, gathered_all}
use Rattle.options.proofs.greeks.gather.Goals.{After-option-option, then-option-class+then-is_bought, then-option-class+else-is_bought, else-option-class}
use Rattle.options.proofs.greeks.gather.Goals as goal

-- the option of a turn
module _ (g : _) (c : After-option-option g) where
  fields : Fields c.option-option.result
  fields = record { allowed = c.option-option.ensures.allowed; gamma = omega arith; vega = omega arith; volatility = omega arith }

  grouped : c.option-option.result.group < group_count
  grouped = omega (arith, c.option-option.ensures.allowed.group)

  -- what it counts for
  module _ (measure : Measure) (measures : Measures (λ o. goal.F-pre g c.args.amount o) (λ o r. goal.F-post g c.args.amount o r) measure) where
    within : measure.amount c.option-option.result ≤ measure.most
    within = measures.within c.option-option.result fields

    fits : measure.most * c.loop-row.row + measure.most < 2 ^ 64
    fits =
        let few : c.loop-row.row + 1 ≤ most_options = omega (arith, (accepted_options _ c.args.table.taken).few, c.len-row-end.ensures, c.loop-row-test.true) in
        omega (arith, mul-le-mul few measures.fits)

pub loop-row-init : goal.loop-row-init
loop-row-init g c = λ measure measures.
    gathered_none _ _ _ (ap (replicate group_count) (same_position c.default-sides.ensures.0 c.default-sides.ensures.1))

pub overflow_add-sides : goal.overflow_add-sides
overflow_add-sides g c =
    let at = (goal.at.overflow_add-sides g c).After-option-option in
    let measure = c.requires.0 in
    let measures = c.requires.1 in
    let own = measures.own _ _ (fields g at) c.amount.ensures in
    let is = sym c.is_bought.ensures ∙ c.if-is_bought.true in
    rw (c.from-group.ensures, own)
    (omega (
      arith,
      bought_room _ _ _ (c.loop-row.invariant measure measures) c.option-option.ensures.value (within g at measure measures) c.if-option-class.true is (grouped g at),
      fits g at measure measures,
    ))

pub overflow_add-sides-else-is_bought : goal.overflow_add-sides-else-is_bought
overflow_add-sides-else-is_bought g c =
    let at = (goal.at.overflow_add-sides-else-is_bought g c).After-option-option in
    let measure = c.requires.0 in
    let measures = c.requires.1 in
    let own = measures.own _ _ (fields g at) c.amount-else-is_bought.ensures in
    let is = sym c.is_bought.ensures ∙ c.if-is_bought.false in
    rw (c.from-group.ensures, own)
    (omega (
      arith,
      sold_room _ _ _ (c.loop-row.invariant measure measures) c.option-option.ensures.value (within g at measure measures) c.if-option-class.true is (grouped g at),
      fits g at measure measures,
    ))

pub loop-row-preserved : goal.loop-row-preserved
loop-row-preserved g c = λ measure measures.
    let at = (goal.at.loop-row-preserved g c).After-option-option in
    let before = c.loop-row.invariant measure measures in
    let option = c.option-option.ensures.value in
    let within_lem = within g at measure measures in
    elim c.if-option-class.branch [
      | then-option-class+then-is_bought w ↦ let own = measures.own _ _ (fields g at) w.amount.ensures in
          rw (w.sides-is, w.from-group.ensures, own)
          (gathered_bought _ _ _ before option within_lem w.if-option-class.true (sym w.is_bought.ensures ∙ w.if-is_bought.true))
      | then-option-class+else-is_bought w ↦ let own = measures.own _ _ (fields g at) w.amount-else-is_bought.ensures in
          rw (w.sides-is, w.from-group.ensures, own)
          (gathered_sold _ _ _ before option within_lem w.if-option-class.true (sym w.is_bought.ensures ∙ w.if-is_bought.false))
      | else-option-class w ↦ rw w.sides-is (gathered_other _ _ _ before option within_lem w.if-option-class.false)
    ]

pub returns : goal.returns
returns g c = λ measure measures. gathered_all _ _ _ (omega (arith, c.len-row-end.ensures)) (c.loop-row.invariant measure measures)
