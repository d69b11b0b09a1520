-- E1 to E10, and the facts that they leave open: the definitions give document 01's figures, by computation.
-- Assumes nothing.
use mathlib.Core.Path.{◌≡◌, refl}
use mathlib.Core.List.{List, map, flat_map}
use Prim.Native.Nat.{ℕ}
use native.Mathlib.Decide.{ℕ_discrete}
use Rattle.sums.specs.Sums.{sum_of, span}
use Rattle.book.specs.Fields.{u16_at, u32_at}
use Rattle.book.specs.Counts.{counts_of, count_in, rows_before, count_of_rows, body_by, body_of}
use Rattle.book.specs.Rows.{chunks, rows_in, rows_of, decode}
use Rattle.book.specs.Legs.{legs_of, of_class}
use Rattle.book.specs.Refusals.{least_kind, most_kind, most_days, most_coupon, floating, group_refusal, plain_refusal, note_refusal, terms_refusal, amounts_refusal, or_else, row_refusal, contents_refusal, refused, first_refusal, refusal_of}
use Rattle.book.specs.Parts.{accepts, start_by, part_start, part_length, handed_of}
use Rattle.ladder.specs.Position.{matched, net, total, vertical}
use Rattle.ladder.specs.Table.{weight_in}
use Rattle.ladder.specs.Interest.{against, left, zones12, zones23, zones13, crossing, matches}
use Rattle.ladder.specs.Commodity.{to_band, carry}
use Rattle.table.specs.Loaded.{weight_at, percents_of, table_of, weights_hold, percents_hold, table_refusal}
use Rattle.layout.specs.Written.{written}
use Rattle.layout.specs.Files.{two_bytes_of, four_bytes_of, row_bytes, contents_bytes, file_of, counts_by, book_by, book_of}
use Rattle.charges.specs.Bands.{first_band, low_coupon, interest_band, commodity_band, band_in}
use Rattle.charges.specs.Weights.{qualifying_weight, interest_weight, equity_weight, specific_weight}
use Rattle.charges.specs.Charges.{specific_of, specific_charge, interest_figures_of, commodity_figures_of, interest_general, equity_general, exchange_general, commodity_general, simplified_commodity, interest_risk, equity_risk, of_group, by_currency}
use Rattle.charges.specs.Report.{report_with, refused_report, charged_report, before, report_of, ladder_refusal, interest_ladder_of, commodity_ladder_of}
use Rattle.charges.specs.SmallBank.{small_number, small_refusal, small_with, small_bank_of}
use Rattle.join.specs.Joined.{added_counts, joined_counts, joined_body, joined, in_book, settled, join_refusal, joined_of, join_output}
use Rattle.market_risk.specs.Entries.{handed_entries, refusal_entries, report_figures, report_entries, interest_entries, commodity_entries, small_figures, small_entries, joined_entries}
use Rattle.claims.specs.Demands.{joined_book}
use Rattle.worked.specs.PartFacts.{part_facts}
use Rattle.worked.specs.Worked.{Worked, Hold, worked, WorkedHolds}
use Rattle.worked.specs.Tables.{refused_tables, loaded_facts, order_facts}
use Rattle.worked.specs.SmallFacts.{small_facts}
use Rattle.worked.specs.Facts.{table_facts, cost_facts, currency_facts, ladder_facts, refusal_facts, join_facts}

-- what the definitions give: an unfolding is inherited, so each layer names its own and `computed` unfolds with all of them
unfoldable file : List Worked → List Worked
unfolding sum_of span flat_map u16_at u32_at counts_of count_in rows_before count_of_rows body_by body_of chunks rows_in rows_of decode legs_of of_class
file facts = facts

unfoldable refusals : List Worked → List Worked
unfolding least_kind most_kind most_days most_coupon floating group_refusal plain_refusal note_refusal terms_refusal amounts_refusal or_else row_refusal contents_refusal refused first_refusal refusal_of accepts
refusals facts = facts

unfoldable ladders : List Worked → List Worked
unfolding matched net total vertical weight_in against left zones12 zones23 zones13 crossing matches to_band carry
ladders facts = facts

unfoldable tables : List Worked → List Worked
unfolding weight_at percents_of table_of weights_hold percents_hold table_refusal
tables facts = facts

unfoldable writing : List Worked → List Worked
unfolding written two_bytes_of four_bytes_of row_bytes contents_bytes file_of counts_by book_by book_of added_counts joined_counts joined_body joined in_book settled join_refusal joined_of join_output joined_book
writing facts = facts

unfoldable weights : List Worked → List Worked
unfolding first_band low_coupon interest_band commodity_band band_in qualifying_weight interest_weight equity_weight specific_weight
weights facts = facts

unfoldable charges : List Worked → List Worked
unfolding specific_of specific_charge interest_figures_of commodity_figures_of interest_general equity_general exchange_general commodity_general simplified_commodity interest_risk equity_risk of_group by_currency ℕ_discrete
charges facts = facts

unfoldable answers : List Worked → List Worked
unfolding refusal_entries report_figures report_entries interest_entries commodity_entries small_figures small_entries joined_entries
answers facts = facts

unfoldable pub computed : List Worked → List Worked
unfolding file refusals ladders tables writing weights charges answers report_with refused_report charged_report before report_of ladder_refusal interest_ladder_of commodity_ladder_of small_number small_refusal small_with small_bank_of
computed facts = facts

-- given and expected, of facts
unfoldable pub given : List Worked → List (List ℕ)
unfolding computed
given facts = map (λ w. w.given) facts

pub expected : List Worked → List (List ℕ)
unfolding span
expected facts = map (λ w. w.expected) facts

pub worked-books : given worked ≡ expected worked
unfolding given expected worked
worked-books = refl

-- so each of the table's books gives what is expected
pub worked_hold : WorkedHolds
unfolding given expected
worked_hold = worked-books

pub table_facts_lem : given table_facts ≡ expected table_facts
unfolding given expected table_facts
table_facts_lem = refl

pub cost_facts_lem : given cost_facts ≡ expected cost_facts
unfolding given expected cost_facts
cost_facts_lem = refl

pub currency-facts : given currency_facts ≡ expected currency_facts
unfolding given expected currency_facts
currency-facts = refl

pub ladder_facts_lem : given ladder_facts ≡ expected ladder_facts
unfolding given expected ladder_facts
ladder_facts_lem = refl

pub refusal_facts_lem : given refusal_facts ≡ expected refusal_facts
unfolding given expected refusal_facts
refusal_facts_lem = refl

pub refused-tables : given refused_tables ≡ expected refused_tables
unfolding given expected refused_tables
refused-tables = refl

pub loaded_facts_lem : given loaded_facts ≡ expected loaded_facts
unfolding given expected loaded_facts
loaded_facts_lem = refl

pub order_facts_lem : given order_facts ≡ expected order_facts
unfolding given expected order_facts
order_facts_lem = refl

pub small_facts_lem : given small_facts ≡ expected small_facts
unfolding given expected small_facts
small_facts_lem = refl

pub join_facts_lem : given join_facts ≡ expected join_facts
unfolding given expected join_facts
join_facts_lem = refl

pub part_facts_lem : Hold part_facts
unfolding computed start_by part_start part_length handed_of handed_entries part_facts
part_facts_lem = refl
