-- The charge of each currency (P6): the lists sum to the figures that they split, and in a joined book no currency of at most two zones is dearer.
-- Assumes nothing.
use Prim.Native.Nat.{ℕ, zero, suc, ◌+◌, ◌≤◌}
use mathlib.Core.Path.{◌≡◌, refl, ap, ◌∙◌}
use mathlib.Core.Bool.{Bool, true, false}
use mathlib.Core.List.{List, ◌++◌}
use native.Mathlib.Omega.{arith}
use lib.ListN.{length, get_or-replicate}
use lib.Dec.{eqb}
use borrow.Author.Tests.{eqb-true, eqb-false, ne_eqb, le-ltb}
use Rattle.sums.specs.Sums.{sum_of}
use Rattle.book.specs.declared.Refusal.{Refusal}
use Rattle.book.specs.Refusals.{last_group, refused, refusal_of}
use Rattle.book.specs.Accepted.{Accepted}
use Rattle.book.proofs.Acceptance.{accepted}
use Rattle.ladder.specs.Rows.{AtMostTwoZones}
use Rattle.table.specs.Loaded.{table_refusal, table_of}
use Rattle.table.proofs.Accepting.{described, accepted_table}
use Rattle.charges.specs.Charges.{reading, specific_charge, interest_general, interest_risk, of_group}
use Rattle.charges.specs.Report.{class_rows, report_with, refused_report, charged_report, before, report_of, ladder_refusal, interest_ladder_of}
use Rattle.charges.proofs.Currencies.{alone_general, specifics_sum, generals_sum, currency-entry, currency-sum}
use Rattle.charges.proofs.Costs.{rows_grouped}
use Rattle.charges.proofs.Reporting.{lists_sized, accepted_report}
use Rattle.join.proofs.Settling.{joins}
use Rattle.join.proofs.JoinedBook.{joined-accepted}
use Rattle.join.specs.Joined.{joined}
use Rattle.claims.specs.Currencies.{Splitting, SplittingHolds, specific_in, general_in, CurrencyNoDearer, CurrencyJoiningHolds}
use Rattle.claims.proofs.Charging.{specific_alone_joined, general_alone_joined}
use Rattle.claims.proofs.Joining.{book_written, joined-legs}

-- ---- of an accepted table and book, and where either is refused
-- nothing is refused where neither is
neither : (first : ℕ) (refusal : Refusal) → (before first refusal).number ≡ 0 → (first ≡ 0) × (refusal.number ≡ 0)
unfolding before refused
neither zero refusal e = (refl, e)
neither (suc first) refusal e = absurd (omega (arith, simp (ne_eqb (suc first) 0 (λ none. omega (arith, none))) at e))

module _ (table s : List ℕ) where
  charged : table_refusal table ≡ 0 → (refusal_of s).number ≡ 0 → Splitting table s
  unfolding charged_report report_with interest_risk interest_ladder_of ladder_refusal before
  charged fine none =
      let ok = accepted s none in
      let by = table_of table in
      record {
        specifics_many = (lists_sized table s).specifics_many;
        generals_many = (lists_sized table s).generals_many;
        specific = rw (accepted_report table s fine ok) (currency-sum (specific_charge 1) (class_rows s 1) ∙ specifics_sum (rows_grouped s ok 1 (omega arith) (omega arith)));
        general = rw (accepted_report table s fine ok) (currency-sum (interest_general by) (class_rows s 1) ∙ generals_sum by (class_rows s 1));
        ladder = λ currency h.
            rw (accepted_report table s fine ok)
            (currency-entry (interest_general by) (class_rows s 1) currency (omega arith)
            ∙ alone_general by currency (class_rows s 1) (omega arith)
            ∙ simp (le-ltb last_group currency h, fine, none));
      }

  refused-lists : ((before (table_refusal table) (refusal_of s)).number ≡ 0 → ⊥) → Splitting table s
  unfolding sum_of report_of refused_report interest_ladder_of ladder_refusal
  refused-lists some =
      record {
        specifics_many = (lists_sized table s).specifics_many;
        generals_many = (lists_sized table s).generals_many;
        specific = simp (ne_eqb _ _ some);
        general = simp (ne_eqb _ _ some);
        ladder = λ currency h. simp (ne_eqb _ _ some, le-ltb last_group currency h) (get_or-replicate {A = ℕ} (last_group + 1) currency 0 0 (omega arith));
      }

pub splitting : SplittingHolds
splitting table s = go (eqb (before (table_refusal table) (refusal_of s)).number 0) refl
  where
    go : (test : Bool) → eqb (before (table_refusal table) (refusal_of s)).number 0 ≡ test → Splitting table s
    go true t = let none = neither _ _ (eqb-true _ _ t) in charged table s none.0 none.1
    go false t = refused-lists table s (eqb-false _ _ t)

-- ---- joined
-- the entries of a currency, of an accepted book
module _ (table s : List ℕ) (fine : table_refusal table ≡ 0) (ok : Accepted s) (currency : ℕ) (h : currency ≤ last_group) where
  specific_entry : specific_in (report_of table s) currency ≡ specific_charge 1 (of_group currency (class_rows s 1))
  unfolding charged_report report_with
  specific_entry = rw (accepted_report table s fine ok) (currency-entry (specific_charge 1) (class_rows s 1) currency (omega arith))

  general_entry : general_in (report_of table s) currency ≡ interest_general (table_of table) (of_group currency (class_rows s 1))
  unfolding charged_report report_with
  general_entry = rw (accepted_report table s fine ok) (currency-entry (interest_general (table_of table)) (class_rows s 1) currency (omega arith))

-- a book whose interest rows are those of two
no_dearer : (table : List ℕ) → table_refusal table ≡ 0 → (j a b : List ℕ) → Accepted j → Accepted a → Accepted b → class_rows j 1 ≡ class_rows a 1 ++ class_rows b 1
    → (currency : ℕ) → currency ≤ last_group → AtMostTwoZones (reading 1) (class_rows j 1) currency
    → CurrencyNoDearer (report_of table j) (report_of table a) (report_of table b) currency
no_dearer table fine j a b of-j of_a of_b rows currency h two =
    record {
      specific =
          omega (
            arith,
            specific_entry table j fine of-j currency h,
            specific_entry table a fine of_a currency h,
            specific_entry table b fine of_b currency h,
            ap (λ list. specific_charge 1 (of_group currency list)) rows ∙ specific_alone_joined (class_rows a 1) (class_rows b 1) 1 currency,
          );
      general =
          omega (
            arith,
            general_entry table j fine of-j currency h,
            general_entry table a fine of_a currency h,
            general_entry table b fine of_b currency h,
            ap (λ list. interest_general (table_of table) (of_group currency list)) rows,
            general_alone_joined (class_rows a 1) (class_rows b 1) (table_of table) (accepted_table table (described table fine)) currency (omega arith) (rw rows at two),
          );
    }

pub currency-joining : CurrencyJoiningHolds
currency-joining table fine a b out e currency h two =
    let settled = joins a b (length out) e in
    let whole = book_written a b out settled in
    rw whole
    (no_dearer table fine (joined a b) a b (joined-accepted a b settled.first settled.second settled.few) settled.first settled.second
    (joined-legs a b settled.first settled.second 1 (omega arith) (omega arith)) currency h (rw whole at two))
