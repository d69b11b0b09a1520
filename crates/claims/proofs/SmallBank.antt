-- A bank with foreign exchange and commodities alone (P11): joining, order and mirror.
-- Assumes nothing.
use Prim.Native.Nat.{ℕ, ◌+◌, ◌≤◌}
use mathlib.Core.Path.{◌≡◌, sym, ap, ◌∙◌}
use mathlib.Core.List.{List, [], ◌∷◌, ◌++◌}
use native.Mathlib.Omega.{arith}
use lib.ListN.{length, length-append}
use Rattle.book.specs.declared.Counts.{Counts}
use Rattle.book.specs.Counts.{counts_of, count_in}
use Rattle.book.specs.Refusals.{refused}
use Rattle.book.specs.Accepted.{Accepted}
use Rattle.charges.specs.Charges.{exchange_general, simplified_commodity}
use Rattle.charges.specs.Report.{class_rows}
use Rattle.charges.specs.SmallBank.{small_with, small_bank_of}
use Rattle.book.proofs.ClassRows.{class_size}
use Rattle.charges.proofs.Small.{Neither, small_none, small_accepted}
use Rattle.join.specs.Joined.{joined}
use Rattle.join.proofs.Settling.{joins}
use Rattle.join.proofs.JoinedBook.{joined-accepted}
use Rattle.market_risk.specs.Entries.{small_figures}
use Rattle.claims.specs.Demands.{AtMost, no_figures, figure}
use Rattle.claims.specs.SmallBank.{SmallJoiningHolds, SmallOrderHolds}
use Rattle.claims.proofs.Charging.{exchange_joined, simplified-joined, exchange_invariant, simplified-invariant}
use Rattle.claims.proofs.Joining.{book_written, joined-legs}
use Rattle.claims.proofs.Ordering.{still_accepted, same_cost, rearranged}

-- the figures of such a book
small_charged : (s : List ℕ) → Accepted s → Neither s → small_bank_of s ≡ small_with (refused 0 0) (exchange_general (class_rows s 3)) (simplified_commodity (class_rows s 4))
unfolding small_bank_of refused
small_charged s ok none = simp (small_none s ok none)

-- ---- joined
three_at_most : {x c xa ca xb cb : ℕ} → x ≤ xa + xb → c ≤ ca + cb → AtMost (x ∷ c ∷ (x + c) ∷ []) (xa ∷ ca ∷ (xa + ca) ∷ []) (xb ∷ cb ∷ (xb + cb) ∷ [])
three_at_most {x} {c} {xa} {ca} {xb} {cb} exchange commodity =
    let total : x + c ≤ xa + ca + (xb + cb) = omega (arith, exchange, commodity) in
    figure exchange (figure commodity (figure total no_figures))

module _ (j a b : List ℕ) (of-j : Accepted j) (of_a : Accepted a × Neither a) (of_b : Accepted b × Neither b)
    (legs : (class : ℕ) → 1 ≤ class → class ≤ 4 → class_rows j class ≡ class_rows a class ++ class_rows b class) where
  -- neither has interest or equity rows, so the joined one has none
  many : (class : ℕ) → 1 ≤ class → class ≤ 4 → count_in (counts_of j) class ≡ count_in (counts_of a) class + count_in (counts_of b) class
  many class low high =
      omega (
        arith,
        class_size j of-j class low high,
        class_size a of_a.0 class low high,
        class_size b of_b.0 class low high,
        ap length (legs class low high) ∙ length-append (class_rows a class) (class_rows b class),
      )

  neither_joined : Neither j
  unfolding count_in
  neither_joined = omega (arith, many 1 (omega arith) (omega arith), many 2 (omega arith) (omega arith), of_a.1, of_b.1)

  small_no_dearer : AtMost (small_figures (small_bank_of j)) (small_figures (small_bank_of a)) (small_figures (small_bank_of b))
  unfolding small_figures small_with
  small_no_dearer =
      let rows3 = legs 3 (omega arith) (omega arith) in
      let rows4 = legs 4 (omega arith) (omega arith) in
      let exchange : exchange_general (class_rows j 3) ≤ exchange_general (class_rows a 3) + exchange_general (class_rows b 3) = rw rows3 (exchange_joined _ _) in
      let commodity : simplified_commodity (class_rows j 4) ≤ simplified_commodity (class_rows a 4) + simplified_commodity (class_rows b 4) = rw rows4 (simplified-joined _ _) in
      rw (small_charged j of-j neither_joined, small_charged a of_a.0 of_a.1, small_charged b of_b.0 of_b.1)
      (three_at_most exchange commodity)

pub small_joining : SmallJoiningHolds
small_joining a b out e of_a of_b =
    let settled = joins a b (length out) e in
    let whole = book_written a b out settled in
    let accepted = joined-accepted a b settled.first settled.second settled.few in
    let legs = joined-legs a b settled.first settled.second in
    let small-a = small_accepted a of_a in
    let small_b = small_accepted b of_b in
    record {
      accepted = rw whole (small_none (joined a b) accepted (neither_joined (joined a b) a b accepted small-a small_b legs));
      no_dearer = rw whole (small_no_dearer (joined a b) a b accepted small-a small_b legs);
    }

-- ---- in any order, and mirrored
pub small_ordering : SmallOrderHolds
small_ordering c d e how =
    let small = small_accepted c e in
    let ordered = rearranged c d small.0 how in
    let ok = still_accepted c d small.0 _ ordered.1 in
    let none : Neither d = ap (λ (counts : Counts). counts.interest + counts.equity) ordered.1.counts ∙ small.1 in
    small_charged d ok none
    ∙ (rw (
      same_cost c d small.0 _ ordered.1 exchange_general exchange_invariant 3 (omega arith) (omega arith),
      same_cost c d small.0 _ ordered.1 simplified_commodity simplified-invariant 4 (omega arith) (omega arith),
    ))
    ∙ sym (small_charged c small.0 small.1)
