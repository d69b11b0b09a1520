-- `charges::reports::charge_by` meets its contract: refused, or the six charges of the sums that one pass took, those of interest by currency too.
use Rattle.std.proofs.Common.{◌≡◌, sym, ap, ◌∙◌, arith}
use Rattle.sums.specs.Sums.{sum_of}
use Rattle.book.specs.Accepted.{Accepted}
use Rattle.book.specs.Refusals.{refused, first_refusal, refusal_of}
use Rattle.book.specs.Legs.{legs_of}
use Rattle.book.specs.Reasons.{number_in, told}
use Rattle.book.proofs.Numbers.{some_of, none_told, told_on, told_at_start}
use Rattle.book.proofs.Acceptance.{contents_sized, accepted}
use Rattle.book.proofs.Handing.{refused_contents, passed_contents}
use Rattle.charges.specs.Report.{report_with}
use Rattle.charges.specs.Inner.Answers.{reported}
use Rattle.charges.specs.Inner.Slots.{LegSums}
use Rattle.charges.proofs.Costs.{Costs, costs}
use Rattle.charges.proofs.Taking.{sums_all}
use Rattle.charges.proofs.Reading.{start_told}
use Rattle.charges.proofs.Reporting.{Six, lists, six, specifics_total, generals_total, total-fits, report_refused, report_passed, six_fit, report_charged}
use Rattle.charges.proofs.reports.charge_by.Goals.{In_ok-taken, After-commodity_general-commodity}
use Rattle.charges.proofs.reports.charge_by.Goals as goal

pub returns-in_err-counts-clause-report : goal.returns-in_err-counts-clause-report
unfolding number_in
returns-in_err-counts-clause-report c =
    let found = c.in_err-counts.ensures.number in
    report_refused _ _ _ _ c.from_residual.ensures.1 (start_told _ found ∙ sym (refused_contents _ (some_of _ found)))

pub take_rows-requires-clause-counts_value : goal.take_rows-requires-clause-counts_value
unfolding number_in
take_rows-requires-clause-counts_value c = (c.in_ok-counts.ensures.counts, contents_sized _ (sym c.in_ok-counts.ensures.number))

pub returns-in_err-counts-clause-refusal : goal.returns-in_err-counts-clause-refusal
unfolding number_in
returns-in_err-counts-clause-refusal c =
    let found = c.in_err-counts.ensures.number in
    told_at_start _ _ c.from_residual.ensures.1 found ∙ sym (refused_contents _ (some_of _ found))

pub returns-in_err-taken-clause-refusal : goal.returns-in_err-taken-clause-refusal
unfolding number_in told
returns-in_err-taken-clause-refusal c =
    told_on _ _ c.from_residual-in_err-taken.ensures.1
    (c.in_err-taken.ensures.is_refusal ∙ sym (passed_contents _ (sym c.in_ok-counts.ensures.number)))

pub returns-in_err-taken-clause-report : goal.returns-in_err-taken-clause-report
unfolding number_in told
returns-in_err-taken-clause-report c =
    report_refused _ _ _ _ c.from_residual-in_err-taken.ensures.1
    (c.in_err-taken.ensures.is_refusal ∙ sym (passed_contents _ (sym c.in_ok-counts.ensures.number)))

-- the book passed, and what its tables cost
module _ (c : In_ok-taken) where
  good : (refusal_of c.args.book.now).number ≡ 0
  unfolding number_in told
  good = none_told (c.in_ok-taken.ensures.is_refusal ∙ sym (passed_contents _ (sym c.in_ok-counts.ensures.number)))

  of : Accepted c.args.book.now
  of = accepted c.args.book.now good

  sums : LegSums (legs_of c.args.book.now) c.take_rows.new.sums.positions c.take_rows.new.sums.specifics c.take_rows.new.sums.rows
  unfolding told
  sums =
      let legs = legs_of c.args.book.now in
      let took = c.in_ok-taken.ensures in sums_all (first_refusal 0 legs) legs (none_told took.is_refusal) took.sums_are

  cost : Costs c.args.book.now c.take_rows.new.sums.positions c.take_rows.new.sums.specifics c.take_rows.new.sums.rows
  cost = costs c.args.book.now _ _ _ of sums

pub interest_generals-generals-requires : goal.interest_generals-generals-requires
interest_generals-generals-requires c =
    let p = cost (goal.at.interest_generals-generals-requires c).In_ok-taken in
    record { table_bounds = c.requires; positions_len = p.sized; groups_bound = p.interest_fits; by_index = p.currency-unused }

pub group_total-requires : goal.group_total-requires
group_total-requires c =
    let at = (goal.at.group_total-requires c).In_ok-taken in
    let two = lists c.args.table _ (of at) _ (sums at) c.group_list-specifics.ensures c.interest_generals-generals.ensures in
    omega (arith, specifics_total c.args.table _ _ _ (of at) two, total-fits c.args.table c.requires _ (of at))

pub group_total-requires-2 : goal.group_total-requires-2
group_total-requires-2 c =
    let at = (goal.at.group_total-requires-2 c).In_ok-taken in
    let two = lists c.args.table _ (of at) _ (sums at) c.group_list-specifics.ensures c.interest_generals-generals.ensures in
    omega (arith, generals_total c.args.table _ _ _ (of at) two, total-fits c.args.table c.requires _ (of at))

pub group_total-requires-3 : goal.group_total-requires-3
group_total-requires-3 c =
    let at = (goal.at.group_total-requires-3 c).In_ok-taken in
    omega (arith, ap (sum_of (λ entry. entry)) c.group_list-equity_specifics.ensures, (cost at).equity-specific_is, total-fits c.args.table c.requires _ (of at))

pub equity_general-requires : goal.equity_general-requires
equity_general-requires c = let p = cost (goal.at.equity_general-requires c).In_ok-taken in (p.sized, p.equity-fits)

pub exchange_general-exchange-requires : goal.exchange_general-exchange-requires
exchange_general-exchange-requires c =
    let p = cost (goal.at.exchange_general-exchange-requires c).In_ok-taken in (p.sized, p.exchange_fits)

pub commodity_general-commodity-requires : goal.commodity_general-commodity-requires
commodity_general-commodity-requires c =
    let p = cost (goal.at.commodity_general-commodity-requires c).In_ok-taken in
    record { positions_len = p.sized; groups_bound = p.commodity-fits; by_index = p.commodity-unused }

-- the six charges, as they were read out of the sums
six_charges : (c : After-commodity_general-commodity)
    → Six c.args.table c.args.book.now c.group_total.result c.group_total-2.result c.group_total-3.result c.equity_general.result c.exchange_general-exchange.result c.commodity_general-commodity.result
six_charges c =
    let at = (goal.at.total-total-requires c).In_ok-taken in
    six c.args.table _ (of at) _ (sums at) c.group_list-specifics.ensures c.interest_generals-generals.ensures c.group_list-equity_specifics.ensures c.group_total.ensures c.group_total-2.ensures
    c.group_total-3.ensures c.equity_general.ensures c.exchange_general-exchange.ensures c.commodity_general-commodity.ensures

pub total-total-requires : goal.total-total-requires
total-total-requires c =
    six_fit c.args.table _ (six_charges c) c.requires (of (goal.at.total-total-requires c).In_ok-taken)

pub returns-clause-refusal : goal.returns-clause-refusal
unfolding number_in told
returns-clause-refusal c = c.in_ok-taken.ensures.is_refusal ∙ sym (passed_contents _ (sym c.in_ok-counts.ensures.number))

pub returns-clause-report : goal.returns-clause-report
unfolding reported report_with refused
returns-clause-report c =
    let at = (goal.at.returns-clause-report c).In_ok-taken in
    let two = lists c.args.table _ (of at) _ (sums at) c.group_list-specifics.ensures c.interest_generals-generals.ensures in
    let charged = report_charged c.args.table _ (six_charges (goal.at.returns-clause-report c).After-commodity_general-commodity) two c.in_ok-taken.ensures.all in
    let zero = c.default.ensures in
    let none : c.default.result ≡ refused 0 0 = λ i. record { number = zero.0 i; row = zero.1.0 i; book = zero.1.1 i } in
    rw (c.total-total.ensures, none) (charged ∙ report_passed c.args.table _ (good at))
