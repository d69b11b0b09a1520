-- Netting one issue (P1): the netted book, what it costs, and two books joined and then netted.
-- Assumes nothing.
use Prim.Native.Nat.{ℕ, ◌+◌, ◌≤◌}
use mathlib.Core.Path.{◌≡◌, refl, ap, ◌∙◌}
use mathlib.Core.List.{List, [], ◌∷◌, ◌++◌}
use native.Mathlib.Nat.{le_refl, le_trans}
use native.Mathlib.Omega.{arith}
use lib.ListN.{length, take}
use borrow.Author.Tests.{eq-eqb}
use Rattle.book.specs.declared.Row.{Row}
use Rattle.book.specs.declared.Refusal.{Refusal}
use Rattle.book.specs.Counts.{count_of_rows}
use Rattle.book.specs.Refusals.{most_rows, refused}
use Rattle.book.specs.Accepted.{Accepted}
use Rattle.book.proofs.Acceptance.{refused-with_none}
use Rattle.issues.specs.Issues.{netted_rows}
use Rattle.issues.proofs.Walking.{netted_fewer}
use Rattle.issues.proofs.Counted.{bare}
use Rattle.issues.proofs.Thinning.{Thins, netting_thins, joining_thins}
use Rattle.issues.proofs.Kept.{netted_clean, netted_two_zones}
use Rattle.issues.proofs.Again.{netted_can, netted_again}
use Rattle.layout.specs.Room.{figure_of, output_of}
use Rattle.layout.proofs.Rows.{book_legs, book_same}
use Rattle.table.specs.Loaded.{table_refusal, table_of}
use Rattle.charges.specs.Bands.{low_coupon, interest_band, band_in}
use Rattle.charges.specs.Charges.{reading, interest_risk, equity_risk}
use Rattle.charges.specs.Report.{class_rows, report_with, charged_report, report_of}
use Rattle.charges.proofs.Reporting.{accepted_report}
use Rattle.book.proofs.ClassRows.{rows_clean}
use Rattle.join.specs.Joined.{added_counts, joined_counts, joined}
use Rattle.join.proofs.Settling.{Joins, joins, not_refused}
use Rattle.join.proofs.JoinedBook.{joined-accepted}
use Rattle.netting.specs.Netted.{netted_class, netted_book, issues_refusal, netting_refusal, netted_answer, netted_of, netting_output}
use Rattle.market_risk.specs.Entries.{report_figures}
use Rattle.claims.specs.Zones.{TwoZonesEach}
use Rattle.claims.specs.Demands.{Within, all_within, one_within, AtMost, no_figures, figure}
use Rattle.claims.specs.Netting.{Nettable, NettingHolds, NettedJoiningHolds}
use Rattle.claims.proofs.Writing.{neither_refused, classes-each, book_bytes, book_counts, fewer_rows, fewer_accepted}
use Rattle.claims.proofs.Thinner.{specific_thins, interest_thins, equity-thins, exchange_thins, commodities_thin}
use Rattle.claims.proofs.Joining.{book_written, joined-legs, no_dearer}
use Rattle.claims.proofs.Nettable.{can_class, nettable}

-- ---- the netted book
pub netted_rows_lem : (s : List ℕ) (class : ℕ) → 1 ≤ class → class ≤ 4 → class_rows (netted_book s) class ≡ netted_rows (class_rows s class)
unfolding netted_book
netted_rows_lem s = book_legs (netted_class s)

netted_class_fewer : (s : List ℕ) (class : ℕ) → length (netted_class s class) ≤ length (class_rows s class)
netted_class_fewer s class = netted_fewer (class_rows s class)

module _ {s : List ℕ} (able : Nettable s) where
  pub netted_accepted : Accepted (netted_book s)
  unfolding netted_book
  netted_accepted =
      fewer_accepted able.accepted (netted_class s) (netted_class_fewer s)
      (λ class low high. netted_clean class (class_rows s class) (rows_clean s able.accepted class low high) (can_class able class low high))

  netted_nettable : Nettable (netted_book s)
  netted_nettable =
      record {
        accepted = netted_accepted;
        rows = classes-each (λ class low high. rw (netted_rows_lem s class low high) (netted_can (class_rows s class) (can_class able class low high)));
      }

  -- the same rows make the same book
  unchanged : netted_book (netted_book s) ≡ netted_book s
  unfolding netted_book
  unchanged =
      book_same (netted_class (netted_book s)) (netted_class s)
      (λ class low high. ap netted_rows (netted_rows_lem s class low high) ∙ netted_again (class_rows s class))

-- six charges that are each at most another, and so their totals
six_within : {w1 w2 w3 w4 w5 w6 a1 a2 a3 a4 a5 a6 : ℕ} → w1 ≤ a1 → w2 ≤ a2 → w3 ≤ a3 → w4 ≤ a4 → w5 ≤ a5 → w6 ≤ a6
    → Within (w1 ∷ w2 ∷ w3 ∷ w4 ∷ w5 ∷ w6 ∷ (w1 + w2 + w3 + w4 + w5 + w6) ∷ []) (a1 ∷ a2 ∷ a3 ∷ a4 ∷ a5 ∷ a6 ∷ (a1 + a2 + a3 + a4 + a5 + a6) ∷ [])
six_within {w1} {w2} {w3} {w4} {w5} {w6} {a1} {a2} {a3} {a4} {a5} {a6} h1 h2 h3 h4 h5 h6 =
    let total : w1 + w2 + w3 + w4 + w5 + w6 ≤ a1 + a2 + a3 + a4 + a5 + a6 = omega arith in
    one_within h1 (one_within h2 (one_within h3 (one_within h4 (one_within h5 (one_within h6 (one_within total all_within))))))

-- a book, each of whose classes is left when the same is taken off both sides of another's, costs no more
thinner_book : (table : List ℕ) → table_refusal table ≡ 0 → (s t : List ℕ) → Accepted s → Accepted t
    → ((class : ℕ) → 1 ≤ class → class ≤ 4 → Thins (class_rows s class) (class_rows t class))
    → Within (report_figures (report_of table t)) (report_figures (report_of table s))
unfolding report_figures report_with charged_report interest_risk equity_risk
thinner_book table fine s t of-s of-t thins =
    let thins1 = thins 1 (omega arith) (omega arith) in
    let thins2 = thins 2 (omega arith) (omega arith) in
    rw (accepted_report table t fine of-t, accepted_report table s fine of-s)
    (six_within (specific_thins thins1 1) (interest_thins thins1 (table_of table)) (specific_thins thins2 2) (equity-thins thins2)
    (exchange_thins (thins 3 (omega arith) (omega arith))) (commodities_thin (thins 4 (omega arith) (omega arith))))

-- the bytes that netting writes are the netted book
pub netted_bytes : (s out : List ℕ) → (netting_refusal s (length out)).number ≡ 0 → take (netted_of s (length out)).length (netting_output s out) ≡ netted_book s
unfolding netted_of netted_answer netting_output figure_of output_of
netted_bytes s out e = rw (eq-eqb _ _ e) (book_bytes (netted_book s) out)

pub netting : NettingHolds
unfolding netting_refusal
netting table fine s out e =
    let able = (nettable s).described (neither_refused (issues_refusal s) _ e).0 in
    record {
      bytes = netted_bytes s out e;
      accepted = refused-with_none (netted_book s) (netted_accepted able);
      rows = classes-each (netted_rows_lem s);
      again = (nettable (netted_book s)).taken (netted_nettable able);
      unchanged = unchanged able;
      no_dearer =
          thinner_book table fine s (netted_book s) able.accepted (netted_accepted able)
          (λ class low high. rw (netted_rows_lem s class low high) (netting_thins (class_rows s class) (can_class able class low high).terms));
    }

-- ---- two books joined and then netted: they cost no more than the netted books joined
band_blind : (row : Row) → band_in 1 row ≡ band_in 1 (bare row)
unfolding band_in interest_band low_coupon
band_blind row = refl

within_at_most : {w x a b : List ℕ} → Within w x → AtMost x a b → AtMost w a b
within_at_most all_within no_figures = no_figures
within_at_most (one_within h rest) (figure k more) = figure (le_trans h k) (within_at_most rest more)

module _ (a b : List ℕ) (able : Nettable (joined a b)) (able-a : Nettable a) (able-b : Nettable b) (few : count_of_rows (joined_counts a b) ≤ most_rows) where
  -- the netted books joined
  abbrev both : List ℕ
  both = joined (netted_book a) (netted_book b)

  few_joined : count_of_rows (joined_counts (netted_book a) (netted_book b)) ≤ most_rows
  unfolding joined_counts added_counts count_of_rows netted_book
  few_joined =
      rw (book_counts (netted_class a), book_counts (netted_class b))
      (omega (arith, few, fewer_rows able-a.accepted (netted_class a) (netted_class_fewer a), fewer_rows able-b.accepted (netted_class b) (netted_class_fewer b)))

  netted_joins : Joins (netted_book a) (netted_book b) (length both)
  netted_joins = record { first = netted_accepted able-a; second = netted_accepted able-b; few = few_joined; fits = le_refl _ }

  both_rows : (class : ℕ) → 1 ≤ class → class ≤ 4 → class_rows both class ≡ netted_rows (class_rows a class) ++ netted_rows (class_rows b class)
  both_rows class low high =
      joined-legs (netted_book a) (netted_book b) (netted_accepted able-a) (netted_accepted able-b) class low high
      ∙ rw (netted_rows_lem a class low high, netted_rows_lem b class low high)

  both_thins : (class : ℕ) → 1 ≤ class → class ≤ 4 → Thins (class_rows both class) (class_rows (netted_book (joined a b)) class)
  both_thins class low high =
      let legs = joined-legs a b able-a.accepted able-b.accepted class low high in
      rw (both_rows class low high, netted_rows_lem (joined a b) class low high, legs)
      (joining_thins (class_rows a class) (class_rows b class) (rw legs at (can_class able class low high).terms))

  both_zones : TwoZonesEach (joined a b) → TwoZonesEach both
  unfolding TwoZonesEach
  both_zones two currency h =
      rw (both_rows 1 (omega arith) (omega arith))
      (netted_two_zones (reading 1) (λ row. refl) band_blind (class_rows a 1) (class_rows b 1) currency
      (rw (joined-legs a b able-a.accepted able-b.accepted 1 (omega arith) (omega arith)) at (two currency h)))

pub netted_joining : NettedJoiningHolds
unfolding refused
netted_joining table fine a b out e of-j of_a of_b two =
    let settled = joins a b (length out) e in
    let whole = book_written a b out settled in
    let able = (nettable (joined a b)).described (rw whole at of-j) in
    let able-a = (nettable a).described of_a in
    let able-b = (nettable b).described of_b in
    let ok = netted_joins a b able able-a able-b settled.few in
    let again = both a b able able-a able-b settled.few in
    let same = book_written (netted_book a) (netted_book b) again ok in
    let accepted = ap (λ (refusal : Refusal). refusal.number) (not_refused (netted_book a) (netted_book b) (length again) ok) in
    let zones = both_zones a b able able-a able-b settled.few (rw whole at two) in
    let most = no_dearer table fine (netted_book a) (netted_book b) again accepted (rw same zones) in
    rw whole
    (within_at_most
    (thinner_book table fine again (netted_book (joined a b)) (joined-accepted (netted_book a) (netted_book b) ok.first ok.second ok.few) (netted_accepted able)
    (both_thins a b able able-a able-b settled.few))
    (rw same at most))
