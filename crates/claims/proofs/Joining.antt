-- Demand 3, joining: the joined book is accepted, has A's rows and then B's, and costs no more than the two.
-- Assumes nothing.
use Prim.Native.Nat.{ℕ, ◌+◌, ◌≤◌}
use mathlib.Core.Path.{◌≡◌, ap, ◌∙◌}
use mathlib.Core.List.{List, [], ◌∷◌, ◌++◌, map, map-append, Memᴰ}
use native.Mathlib.Omega.{arith}
use lib.ListN.{length}
use Rattle.sums.specs.Every.{none, also}
use Rattle.sums.proofs.Spans.{in_span}
use Rattle.book.specs.Rows.{rows_of, decode}
use Rattle.book.specs.Refusals.{last_group}
use Rattle.book.specs.Accepted.{Accepted}
use Rattle.book.proofs.Walking.{class_rows_lem}
use Rattle.book.proofs.Acceptance.{refused-with_none}
use Rattle.ladder.specs.Rows.{AtMostTwoZones}
use Rattle.table.specs.Loaded.{table_refusal, table_of}
use Rattle.table.proofs.Accepting.{described, accepted_table}
use Rattle.charges.specs.Charges.{groups, reading, specific_charge, interest_general, equity_general, interest_risk, equity_risk, exchange_general, commodity_general}
use Rattle.charges.specs.Report.{class_rows, report_with, charged_report, report_of}
use Rattle.charges.proofs.Reporting.{accepted_report}
use Rattle.join.specs.Joined.{joined}
use Rattle.join.proofs.Settling.{Joins, joins}
use Rattle.join.proofs.JoinedBook.{joined-rows, joined-accepted}
use Rattle.join.proofs.Outcome.{written-book}
use Rattle.market_risk.specs.Entries.{report_figures}
use Rattle.claims.specs.Zones.{TwoZonesEach}
use Rattle.claims.specs.Demands.{AtMost, no_figures, figure, joined_book, JoiningHolds, NoDearerHolds}
use Rattle.claims.proofs.Charging.{specific_joined, interest_joined, equity-joined, exchange_joined, commodities_joined}

-- the bytes that join writes are the joined book
pub book_written : (a b out : List ℕ) → Joins a b (length out) → joined_book a b out ≡ joined a b
unfolding joined_book
book_written a b out ok = written-book a b out ok

-- the rows of the joined book, by their fields
pub joined-legs : (a b : List ℕ) → Accepted a → Accepted b → (class : ℕ) → 1 ≤ class → class ≤ 4
    → class_rows (joined a b) class ≡ class_rows a class ++ class_rows b class
joined-legs a b of_a of_b class low high =
    let fields : map decode (rows_of (joined a b) class) ≡ map decode (rows_of a class) ++ map decode (rows_of b class) =
    rw (joined-rows a b of_a of_b class) (map-append decode (rows_of a class) (rows_of b class)) in
    rw (class_rows_lem (joined a b) class low high, class_rows_lem a class low high, class_rows_lem b class low high) fields

-- six charges that are each at most two together, and so their totals
six_at_most : {w1 w2 w3 w4 w5 w6 a1 a2 a3 a4 a5 a6 b1 b2 b3 b4 b5 b6 : ℕ}
    → w1 ≤ a1 + b1 → w2 ≤ a2 + b2 → w3 ≤ a3 + b3 → w4 ≤ a4 + b4 → w5 ≤ a5 + b5 → w6 ≤ a6 + b6
    → AtMost (w1 ∷ w2 ∷ w3 ∷ w4 ∷ w5 ∷ w6 ∷ (w1 + w2 + w3 + w4 + w5 + w6) ∷ [])
    (a1 ∷ a2 ∷ a3 ∷ a4 ∷ a5 ∷ a6 ∷ (a1 + a2 + a3 + a4 + a5 + a6) ∷ []) (b1 ∷ b2 ∷ b3 ∷ b4 ∷ b5 ∷ b6 ∷ (b1 + b2 + b3 + b4 + b5 + b6) ∷ [])
six_at_most {w1} {w2} {w3} {w4} {w5} {w6} {a1} {a2} {a3} {a4} {a5} {a6} {b1} {b2} {b3} {b4} {b5} {b6} h1 h2 h3 h4 h5 h6 =
    let total : w1 + w2 + w3 + w4 + w5 + w6 ≤ (a1 + a2 + a3 + a4 + a5 + a6) + (b1 + b2 + b3 + b4 + b5 + b6) = omega arith in
    figure h1 (figure h2 (figure h3 (figure h4 (figure h5 (figure h6 (figure total no_figures))))))

-- two zones in each currency, as the law of joining asks it
two_in_each : (s : List ℕ) → TwoZonesEach s → (g : ℕ) → Memᴰ g groups → AtMostTwoZones (reading 1) (class_rows s 1) g
unfolding TwoZonesEach
two_in_each s two g member = two g (omega (arith, in_span g 0 (last_group + 1) member))

-- the charges of a book whose rows are those of two
of_two : (table : List ℕ) → table_refusal table ≡ 0 → (j a b : List ℕ) → Accepted j → Accepted a → Accepted b
    → ((class : ℕ) → 1 ≤ class → class ≤ 4 → class_rows j class ≡ class_rows a class ++ class_rows b class)
    → TwoZonesEach j → AtMost (report_figures (report_of table j)) (report_figures (report_of table a)) (report_figures (report_of table b))
unfolding report_figures report_with charged_report interest_risk equity_risk
of_two table fine j a b of-j of_a of_b legs two =
    let ok = accepted_table table (described table fine) in
    let rows1 = legs 1 (omega arith) (omega arith) in
    let rows2 = legs 2 (omega arith) (omega arith) in
    let rows3 = legs 3 (omega arith) (omega arith) in
    let rows4 = legs 4 (omega arith) (omega arith) in
    let specific1 : specific_charge 1 (class_rows j 1) ≤ specific_charge 1 (class_rows a 1) + specific_charge 1 (class_rows b 1) =
    omega (arith, ap (specific_charge 1) rows1 ∙ specific_joined (class_rows a 1) (class_rows b 1) 1) in
    let specific2 : specific_charge 2 (class_rows j 2) ≤ specific_charge 2 (class_rows a 2) + specific_charge 2 (class_rows b 2) =
    omega (arith, ap (specific_charge 2) rows2 ∙ specific_joined (class_rows a 2) (class_rows b 2) 2) in
    let interest : interest_general (table_of table) (class_rows j 1) ≤ interest_general (table_of table) (class_rows a 1) + interest_general (table_of table) (class_rows b 1) =
    rw rows1 (interest_joined _ _ (table_of table) ok (λ g m. rw rows1 at (two_in_each j two g m))) in
    let equity : equity_general (class_rows j 2) ≤ equity_general (class_rows a 2) + equity_general (class_rows b 2) = rw rows2 (equity-joined _ _) in
    let exchange : exchange_general (class_rows j 3) ≤ exchange_general (class_rows a 3) + exchange_general (class_rows b 3) = rw rows3 (exchange_joined _ _) in
    let commodity : commodity_general (class_rows j 4) ≤ commodity_general (class_rows a 4) + commodity_general (class_rows b 4) = rw rows4 (commodities_joined _ _) in
    rw (accepted_report table j fine of-j, accepted_report table a fine of_a, accepted_report table b fine of_b)
    (six_at_most specific1 interest specific2 equity exchange commodity)

pub joining : JoiningHolds
joining a b out e =
    let settled = joins a b (length out) e in
    let whole = book_written a b out settled in
    let accepted = joined-accepted a b settled.first settled.second settled.few in
    let rows = joined-rows a b settled.first settled.second in
    record {
      accepted = rw whole (refused-with_none (joined a b) accepted);
      rows = rw whole (also (rows 1) (also (rows 2) (also (rows 3) (also (rows 4) none))));
    }

pub no_dearer : NoDearerHolds
no_dearer table fine a b out e =
    let settled = joins a b (length out) e in
    let accepted = joined-accepted a b settled.first settled.second settled.few in
    let legs = joined-legs a b settled.first settled.second in
    rw (book_written a b out settled) (of_two table fine (joined a b) a b accepted settled.first settled.second legs)
