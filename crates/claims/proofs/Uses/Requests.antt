-- Uses of the claims on the shortest file, the dearest book, options and the least trade.
-- Assumes nothing.
use Prim.Native.Nat.{ℕ, ◌+◌, ◌*◌, ◌≤◌, ◌<◌}
use mathlib.Core.Path.{◌≡◌}
use mathlib.Core.Bool.{true, false}
use mathlib.Core.List.{List, ◌++◌}
use lib.ListN.{length, take}
use Rattle.sums.specs.Every.{Every}
use Rattle.sums.proofs.Every.{every_implied}
use Rattle.book.specs.declared.Row.{Row}
use Rattle.book.specs.Counts.{counts_of, count_of_rows}
use Rattle.book.specs.Legs.{Leg, legs_of, of_class}
use Rattle.book.specs.Refusals.{row_refusal, refused, refusal_of}
use Rattle.table.specs.Loaded.{table_refusal, table_of, standard_bytes}
use Rattle.charges.specs.Bands.{interest_band}
use Rattle.charges.specs.Report.{class_rows, report_of, interest_ladder_of}
use Rattle.shortest.specs.Shortest.{shortest_file, shortest_refusal, shortest_of, shortest_output}
use Rattle.dearest.specs.Dearest.{limits_refusal, dearest_book}
use Rattle.options.specs.declared.OptionRow.{OptionRow}
use Rattle.options.specs.Table.{option_count, options_of}
use Rattle.options.specs.Refusals.{options_refusal}
use Rattle.options.specs.Accepted.{Allowed}
use Rattle.options.specs.Delta.{delta_amount, delta_legs}
use Rattle.options.specs.Greeks.{gamma_charge, vega_charge}
use Rattle.options.specs.Options.{options_book, pricing_refusal, priced_of, pricing_output}
use Rattle.trade.specs.Trade.{charge_with, trade_refusal, least_trade_of}
use Rattle.claims.specs.Trade.{with_row, trade_bond}
use Rattle.claims.proofs.Writing.{each_class_lem}
use Rattle.claims.proofs.Shortest.{shortest, shortest_call}
use Rattle.claims.proofs.Dearest.{dearest}
use Rattle.claims.proofs.Options.{accepting_options, options_book_lem, options_bytes, greeks_together}
use Rattle.claims.proofs.Trade.{least_trade_lem, nothing-added}
use Rattle.claims.proofs.RowAdded.{amount_added, trade_bonds}

-- ---- the shortest file
pub shortest_says : (s : List ℕ) → ((refusal_of s).number ≡ 0 → ⊥)
    → ((table : List ℕ) → table_refusal table ≡ 0
    → (report_of table (shortest_file s)).refusal ≡ refused (refusal_of s).number 0)
    × (length (shortest_file s) ≤ length s)
    × ((table t : List ℕ) → length t < length (shortest_file s)
    → (report_of table t).refusal.number ≡ (refusal_of s).number → ⊥)
shortest_says s some = let file = shortest s some in (file.same, file.no_longer, file.least)

pub shortest_call_says : (s out : List ℕ)
    → ((shortest_refusal s (length out)).number ≡ 0
    → take (shortest_of s (length out)).length (shortest_output s out) ≡ shortest_file s)
    × (24 ≤ length out → shortest_refusal s (length out) ≡ refused 0 0)
    × (((shortest_refusal s (length out)).number ≡ 0 → ⊥)
    → (shortest_of s (length out)).accepted ≡ false)
shortest_call_says s out = let call = shortest_call s out in (call.bytes, call.enough, call.unmarked)

-- ---- the dearest book
module _ (rows most : ℕ) (e : (limits_refusal rows most).number ≡ 0) where
  pub dearest_says : ((refusal_of (dearest_book rows most)).number ≡ 0)
      × (length (legs_of (dearest_book rows most)) ≡ rows)
      × Every (λ (leg : Leg). (leg.row.long ≤ most)
      × (leg.row.short ≤ most)) (legs_of (dearest_book rows most))
      × ((report_of standard_bytes (dearest_book rows most)).total ≡ 205000 * (rows * most))
  dearest_says = let book = dearest rows most e in (book.within.accepted, book.within.many, book.within.amounts, book.costs)

  pub none_dearer_says : (s : List ℕ) → (refusal_of s).number ≡ 0 → length (legs_of s) ≡ rows
      → Every (λ (leg : Leg). (leg.row.long ≤ most) × (leg.row.short ≤ most)) (legs_of s)
      → (report_of standard_bytes s).total ≤ (report_of standard_bytes (dearest_book rows most)).total
  none_dearer_says s none many amounts = (dearest rows most e).dearest s record { accepted = none; many = many; amounts = amounts }

-- ---- options
pub options_described_says : (s : List ℕ) → (options_refusal s).number ≡ 0
    → (2 ≤ length s) × (option_count s ≤ 1000) × (length s ≡ 2 + 18 * option_count s)
    × Every Allowed (options_of s)
options_described_says s e = let table = (accepting_options s).described e in (table.counted, table.few, table.sized, table.every)

pub options_taken_says : (s : List ℕ) → 2 ≤ length s → option_count s ≤ 1000
    → length s ≡ 2 + 18 * option_count s → Every Allowed (options_of s)
    → options_refusal s ≡ refused 0 0
options_taken_says s counted few sized every = (accepting_options s).taken record { counted = counted; few = few; sized = sized; every = every }

pub options_book_says : (s : List ℕ) → (options_refusal s).number ≡ 0
    → (refusal_of (options_book s) ≡ refused 0 0)
    × ((class : ℕ) → 1 ≤ class → class ≤ 4
    → class_rows (options_book s) class ≡ of_class class (delta_legs (options_of s)))
    × Every (λ option. (option.amount * option.delta ≤ 10000 * delta_amount option)
    × (10000 * delta_amount option < option.amount * option.delta + 10000)) (options_of s)
options_book_says s e =
    let book = options_book_lem s e in
    (book.accepted, each_class_lem book.rows, every_implied (λ option up. (up.least, up.most)) book.amounts)

pub options_bytes_says : (s out : List ℕ) → (pricing_refusal s (length out)).number ≡ 0
    → take (priced_of s (length out)).length (pricing_output s out) ≡ options_book s
options_bytes_says = options_bytes

pub greeks_says : (class : ℕ) (options more : List OptionRow)
    → (gamma_charge class (options ++ more) ≤ gamma_charge class options + gamma_charge class more)
    × (vega_charge class (options ++ more) ≤ vega_charge class options + vega_charge class more)
greeks_says class options more = let both = greeks_together class options more in (both.gamma, both.vega)

-- ---- the least trade
abbrev charge : (table s : List ℕ) → (group band side : ℕ) → ℕ → ℕ
charge table s group band side = charge_with (table_of table) group band side (class_rows s 1)

module _ (table s : List ℕ) (group band side : ℕ) (passes : (trade_refusal table s group band side).number ≡ 0) where
  pub least_says : (limit : ℕ) → let least = (least_trade_of table s group band side limit).least in
      least.found ≡ true → (least.amount ≤ 1000000) × (charge table s group band side least.amount ≤ limit) × ((amount : ℕ) → amount < least.amount → limit < charge table s group band side amount)
  least_says limit found =
      let least = least_trade_lem table s group band side limit passes in
      (least.in_range found, least.within found, least.smaller found)

  pub none_says : (limit : ℕ) → (least_trade_of table s group band side limit).least.found ≡ false
      → (amount : ℕ) → amount ≤ 1000000 → limit < charge table s group band side amount
  none_says limit = (least_trade_lem table s group band side limit passes).none

  pub nothing-says : charge table s group band side 0 ≡ (interest_ladder_of table s group).figures.charge
  nothing-says = nothing-added table s group band side passes

module _ (table s : List ℕ) (group band amount : ℕ) (row : Row) (room : count_of_rows (counts_of s) < 4000)
    (accepted : row_refusal 1 row ≡ 0) (of_currency : row.group ≡ group) (in_band : interest_band row ≡ band) where
  pub long_row_says : (trade_refusal table s group band 0).number ≡ 0 → row.long ≡ amount
      → row.short ≡ 0
      → ((refusal_of (with_row s row)).number ≡ 0)
      × (charge table s group band 0 amount ≡ (interest_ladder_of table (with_row s row) group).figures.charge)
  long_row_says passes long short =
      amount_added table s group band 0 amount row passes room
      record { accepted = accepted; of_currency = of_currency; in_band = in_band; long = long; short = short }

  pub short_row_says : (trade_refusal table s group band 1).number ≡ 0 → row.long ≡ 0
      → row.short ≡ amount
      → ((refusal_of (with_row s row)).number ≡ 0)
      × (charge table s group band 1 amount ≡ (interest_ladder_of table (with_row s row) group).figures.charge)
  short_row_says passes long short =
      amount_added table s group band 1 amount row passes room
      record { accepted = accepted; of_currency = of_currency; in_band = in_band; long = long; short = short }

module _ (group band amount : ℕ) (known : group ≤ 31) (place : band ≤ 14) (some : 1 ≤ amount) (few : amount ≤ 1000000) where
  pub long_bond_says : let row = trade_bond group band 0 amount in
      (row_refusal 1 row ≡ 0) × (row.group ≡ group) × (interest_band row ≡ band)
      × (row.long ≡ amount) × (row.short ≡ 0)
  long_bond_says =
      let bond = trade_bonds group band 0 amount known place some few in
      (bond.accepted, bond.of_currency, bond.in_band, bond.long, bond.short)

  pub short_bond_says : let row = trade_bond group band 1 amount in
      (row_refusal 1 row ≡ 0) × (row.group ≡ group) × (interest_band row ≡ band) × (row.long ≡ 0)
      × (row.short ≡ amount)
  short_bond_says =
      let bond = trade_bonds group band 1 amount known place some few in
      (bond.accepted, bond.of_currency, bond.in_band, bond.long, bond.short)
