-- `charges::small_bank` meets its contract: refused, or the two charges of the sums that one pass took.
use Rattle.std.proofs.Common.{◌≡◌, sym, ◌∙◌, ℕ, List, arith}
use Rattle.book.specs.Accepted.{Accepted}
use Rattle.book.specs.Refusals.{refused, first_refusal}
use Rattle.book.specs.Legs.{legs_of}
use Rattle.book.specs.Reasons.{number_in, told}
use Rattle.book.proofs.Numbers.{some_of, none_told}
use Rattle.book.proofs.Acceptance.{contents_sized}
use Rattle.charges.specs.SmallBank.{small_number, small_refusal}
use Rattle.charges.proofs.Taking.{sums_all}
use Rattle.charges.proofs.Costs.{Costs, costs}
use Rattle.charges.proofs.Reading.{start_told}
use Rattle.charges.proofs.Small.{small_contents, small_before, small_rows, small_accepted, small_refused, small_fits, small_charged}
use Rattle.charges.proofs.small_bank.Goals.{In_ok-take_rows, In_ok-counts}
use Rattle.charges.proofs.small_bank.Goals as goal

pub returns-in_err-counts : goal.returns-in_err-counts
unfolding number_in
returns-in_err-counts c =
    let found = c.in_err-counts.ensures.number in
    small_refused _ _ _ c.from_residual.ensures.1 (start_told _ found ∙ small_before _ (some_of _ found))

-- nothing is refused before the rows
passed : (c : In_ok-counts) → small_number c.args.book.now ≡ 0
unfolding number_in
passed c = sym c.in_ok-counts.ensures.number

pub take_rows-requires-clause-counts_value : goal.take_rows-requires-clause-counts_value
take_rows-requires-clause-counts_value c =
    (c.in_ok-counts.ensures.counts, contents_sized _ (small_contents _ (passed (goal.at.take_rows-requires-clause-counts_value c).In_ok-counts)))

pub returns-in_err-take_rows : goal.returns-in_err-take_rows
unfolding told
returns-in_err-take_rows c =
    small_refused _ _ _ c.from_residual-in_err-take_rows.ensures.1
    (c.in_err-take_rows.ensures.is_refusal ∙ small_rows _ (passed (goal.at.returns-in_err-take_rows c).In_ok-counts))

-- the book passed, and what its tables cost
module _ (c : In_ok-take_rows) where
  abbrev s : List ℕ
  s = c.args.book.now

  good : refused 0 0 ≡ small_refusal s
  unfolding told number_in
  good = c.in_ok-take_rows.ensures.is_refusal ∙ small_rows s (sym c.in_ok-counts.ensures.number)

  of : Accepted s
  of = (small_accepted s (none_told good)).0

  cost : Costs s c.take_rows.new.sums.positions c.take_rows.new.sums.specifics c.take_rows.new.sums.rows
  unfolding told
  cost =
      let took = c.in_ok-take_rows.ensures in
      costs s _ _ _ of (sums_all (first_refusal 0 (legs_of s)) (legs_of s) (none_told took.is_refusal) took.sums_are)

pub exchange_general-exchange-requires : goal.exchange_general-exchange-requires
exchange_general-exchange-requires c = let p = cost (goal.at.exchange_general-exchange-requires c).In_ok-take_rows in (p.sized, p.exchange_fits)

pub commodity_simplified-commodity-requires : goal.commodity_simplified-commodity-requires
commodity_simplified-commodity-requires c =
    let p = cost (goal.at.commodity_simplified-commodity-requires c).In_ok-take_rows in record { positions_len = p.sized; groups_bound = p.groups-fit }

pub overflow_add-result : goal.overflow_add-result
overflow_add-result c =
    let at = (goal.at.overflow_add-result c).In_ok-take_rows in
    let p = cost at in
    omega (arith, small_fits _ (of at) (c.exchange_general-exchange.ensures ∙ p.exchange_is) (c.commodity_simplified-commodity.ensures ∙ p.simplified-is))

pub returns : goal.returns
returns c =
    let at = (goal.at.returns c).In_ok-take_rows in
    let p = cost at in
    small_charged _ (of at) (c.exchange_general-exchange.ensures ∙ p.exchange_is) (c.commodity_simplified-commodity.ensures ∙ p.simplified-is) (good at)
