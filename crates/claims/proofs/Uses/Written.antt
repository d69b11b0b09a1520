-- Uses of the claims on netting, offsetting, and the one call that does both.
-- Assumes nothing.
use Prim.Native.Nat.{ℕ, ◌-◌, ◌*◌, ◌/◌, ◌≤◌}
use mathlib.Core.Path.{◌≡◌, sym, ap, ◌∙◌}
use mathlib.Core.Bool.{Bool, true, false, cond}
use mathlib.Core.List.{List, [], ◌∷◌, Memᴰ, Sublistᴰ}
use native.Mathlib.Omega.{arith}
use lib.Dec.{eqb}
use lib.ListN.{length, take}
use borrow.Author.Tests.{ne_eqb}
use Rattle.sums.specs.Every.{none, also}
use Rattle.book.specs.declared.Row.{Row}
use Rattle.book.specs.Legs.{legs_of}
use Rattle.book.specs.Refusals.{refused, refusal_of}
use Rattle.book.specs.Accepted.{Accepted}
use Rattle.ladder.specs.Position.{absolute_net}
use Rattle.issues.specs.Issues.{issues_of, netted_rows}
use Rattle.issues.specs.Comparing.{one_more, no_rows as none-different}
use Rattle.swaps.specs.Fitting.{government, fits}
use Rattle.swaps.specs.Offset.{offset_rows, other_kinds}
use Rattle.table.specs.Loaded.{table_refusal}
use Rattle.charges.specs.declared.Report.{Report}
use Rattle.charges.specs.Report.{class_rows, report_of}
use Rattle.netting.specs.Netted.{issues_refusal, netting_refusal, netted_book, netted_of, netting_output}
use Rattle.offsetting.specs.Offset.{offset_by, offset_book, offsetting_refusal, offset_of, offsetting_output}
use Rattle.offsetting.specs.NetOffset.{net_offset_book, net_offset_refusal, net_offset_of, net_offset_output}
use Rattle.market_risk.specs.Entries.{report_figures}
use Rattle.claims.specs.Demands.{Within, all_within, one_within}
use Rattle.claims.proofs.Writing.{classes-each, each_class_lem, others}
use Rattle.claims.proofs.Nettable.{nettable}
use Rattle.claims.proofs.Netting.{netting}
use Rattle.claims.proofs.Comparing.{comparing, reaching}
use Rattle.claims.proofs.Offsetting.{offsetting}
use Rattle.claims.proofs.NetOffset.{one_call, not_netted, net-offset}

-- ---- netting
-- rows of one issue have the same group, kind, days and coupon, and no issue nets to more than 1,000,000,000
abbrev Agree : List Row → Type 0
Agree rows =
    ((a b : Row) → Memᴰ a rows → Memᴰ b rows → (a.issue ≡ 0 → ⊥) → a.issue ≡ b.issue
    → (a.group ≡ b.group) × (a.kind ≡ b.kind) × (a.days ≡ b.days) × (a.coupon ≡ b.coupon))
    × ((a : Row) → Memᴰ a rows → (a.issue ≡ 0 → ⊥)
    → absolute_net (issues_of rows a.issue) ≤ 1000000000)

pub can_be_netted_says : (s : List ℕ) → (issues_refusal s).number ≡ 0 → Accepted s
    × ((class : ℕ) → 1 ≤ class → class ≤ 4 → Agree (class_rows s class))
can_be_netted_says s e =
    let able = (nettable s).described e in (
      able.accepted,
      λ class low high.
          let can = each_class_lem able.rows class low high in
          (λ a b of_a of_b some same. let terms = can.terms a b of_a of_b some same in (terms.group, terms.kind, terms.days, terms.coupon), can.within),
    )

pub netted_taken_says : (s : List ℕ) → Accepted s
    → ((class : ℕ) → 1 ≤ class → class ≤ 4 → Agree (class_rows s class))
    → issues_refusal s ≡ refused 0 0
netted_taken_says s ok agree =
    (nettable s).taken
    record {
      accepted = ok;
      rows = classes-each (λ class low high.
          let rows = agree class low high in
          record {
            terms = λ a b of_a of_b some same.
                let terms = rows.0 a b of_a of_b some same in
                record { group = terms.0; kind = terms.1; days = terms.2; coupon = terms.3 };
            within = rows.1;
          });
    }

-- each of the six charges, and the total, is at most that of another report
abbrev NoDearer : (r t : Report) → Type 0
NoDearer r t =
    (r.interest.specific ≤ t.interest.specific) × (r.interest.general ≤ t.interest.general)
    × (r.equity.specific ≤ t.equity.specific)
    × (r.equity.general ≤ t.equity.general) × (r.exchange ≤ t.exchange)
    × (r.commodity ≤ t.commodity) × (r.total ≤ t.total)

seven : (r t : Report) → Within (report_figures r) (report_figures t) → NoDearer r t
unfolding report_figures
seven r t (one_within h1 (one_within h2 (one_within h3 (one_within h4 (one_within h5 (one_within h6 (one_within h7 all_within))))))) = (h1, h2, h3, h4, h5, h6, h7)

pub netting_says : (table : List ℕ) → table_refusal table ≡ 0 → (s out : List ℕ)
    → (netting_refusal s (length out)).number ≡ 0
    → (take (netted_of s (length out)).length (netting_output s out) ≡ netted_book s)
    × (refusal_of (netted_book s) ≡ refused 0 0)
    × ((class : ℕ) → 1 ≤ class → class ≤ 4
    → class_rows (netted_book s) class ≡ netted_rows (class_rows s class))
    × (issues_refusal (netted_book s) ≡ refused 0 0) × (netted_book (netted_book s) ≡ netted_book s)
    × NoDearer (report_of table (netted_book s)) (report_of table s)
netting_says table fine s out e =
    let net = netting table fine s out e in
    (net.bytes, net.accepted, each_class_lem net.rows, net.again, net.unchanged, seven (report_of table (netted_book s)) (report_of table s) net.no_dearer)

pub comparing_says : (s : List ℕ) (room : ℕ)
    → let n = length (legs_of s) in ((netted_of s room).comparisons ≤ n * (n - 1) / 2)
    × ((net_offset_of s room).comparisons ≤ n * (n - 1) / 2)
comparing_says s room = let both = comparing s room in (both.netting, both.one_call)

-- two rows of different issues are compared once
pub reaching_says : (s : List ℕ) (room : ℕ) → (netting_refusal s room).number ≡ 0
    → (class : ℕ) → 1 ≤ class → class ≤ 4 → (a b : Row) → class_rows s class ≡ a ∷ b ∷ []
    → length (legs_of s) ≡ 2
    → (a.issue ≡ 0 → ⊥) → (b.issue ≡ 0 → ⊥) → (a.issue ≡ b.issue → ⊥)
    → (netted_of s room).comparisons ≡ 1
reaching_says s room e class low high a b rows two some-a some-b unlike =
    reaching s room e class low high (ap length rows ∙ sym two)
    (rw rows (one_more some-a (also unlike none) (one_more some-b none none-different)))
    ∙ ap (λ (n : ℕ). n * (n - 1) / 2) two

-- ---- offsetting
pub offsetting_says : (s out : List ℕ) → (offsetting_refusal s (length out)).number ≡ 0
    → (take (offset_of s (length out)).length (offsetting_output s out) ≡ offset_book s)
    × (refusal_of (offset_book s) ≡ refused 0 0)
    × (class_rows (offset_book s) 1 ≡ offset_rows (class_rows s 1))
    × (class_rows (offset_book s) 2 ≡ class_rows s 2)
    × (class_rows (offset_book s) 3 ≡ class_rows s 3) × (class_rows (offset_book s) 4 ≡ class_rows s 4)
    × Sublistᴰ (class_rows (offset_book s) 1) (class_rows s 1)
    × (other_kinds (class_rows (offset_book s) 1) ≡ other_kinds (class_rows s 1))
    × ((a b : Row) → Memᴰ a (class_rows (offset_book s) 1)
    → Memᴰ b (class_rows (offset_book s) 1) → fits a b ≡ false)
    × (offset_book (offset_book s) ≡ offset_book s)
unfolding offset_by
offsetting_says s out e =
    let left = offsetting s out e in
    let rows = each_class_lem left.rows in
    let same = left.other_classes_lem in
    (left.bytes, left.accepted, rows 1 (omega arith) (omega arith), (others same).0, (others same).1, (others same).2, left.some_left, left.other_kinds_lem, left.none_fit, left.unchanged)

-- every interest row of a kind but 1 is still there
other_among : (row : Row) (rows : List Row) → Memᴰ row rows → (row.kind ≡ 1 → ⊥)
    → Memᴰ row (other_kinds rows)
unfolding other_kinds government
other_among row (first ∷ rows) (Memᴰ.head own) other =
    rw (ne_eqb first.kind 1 (λ e. other (ap (λ (r : Row). r.kind) own ∙ e))) (Memᴰ.head own)
other_among row (first ∷ rows) (Memᴰ.tail after) other = go (eqb first.kind 1) (other_among row rows after other)
  where
    go : (test : Bool) → Memᴰ row (other_kinds rows)
        → Memᴰ row (cond test (other_kinds rows) (first ∷ other_kinds rows))
    go true member = member
    go false member = Memᴰ.tail member
other_among row [] x'' other = elim x'' [ ]

among_others : (row : Row) (rows : List Row) → Memᴰ row (other_kinds rows) → Memᴰ row rows
unfolding other_kinds
among_others row [] = λ member. member
among_others row (first ∷ rows) = go (government first) (λ member. among_others row rows member)
  where
    go : (test : Bool) → (Memᴰ row (other_kinds rows) → Memᴰ row rows)
        → Memᴰ row (cond test (other_kinds rows) (first ∷ other_kinds rows))
        → Memᴰ row (first ∷ rows)
    go true there member = Memᴰ.tail (there member)
    go false there (Memᴰ.head own) = Memᴰ.head own
    go false there (Memᴰ.tail after) = Memᴰ.tail (there after)

pub other_kinds_say : (s out : List ℕ) → (offsetting_refusal s (length out)).number ≡ 0
    → (row : Row) → Memᴰ row (class_rows s 1) → (row.kind ≡ 1 → ⊥)
    → Memᴰ row (class_rows (offset_book s) 1)
other_kinds_say s out e row member other =
    among_others row (class_rows (offset_book s) 1) (rw (offsetting s out e).other_kinds_lem (other_among row (class_rows s 1) member other))

-- ---- the one call
pub one_call_says : (s first out : List ℕ) → (netting_refusal s (length first)).number ≡ 0
    → let between = take (netted_of s (length first)).length (netting_output s first) in
    (net_offset_refusal s (length out) ≡ offsetting_refusal between (length out))
    × ((net_offset_of s (length out)).length ≡ (offset_of between (length out)).length)
    × (net_offset_output s out ≡ offsetting_output between out)
    × ((net_offset_refusal s (length out)).number ≡ 0
    → (net_offset_of s (length out)).comparisons ≡ (netted_of s (length first)).comparisons)
one_call_says s first out e = let both = one_call s first out e in (both.refusal, both.same_length, both.output, both.comparisons)

pub not_netted_says : (s : List ℕ) → ((issues_refusal s).number ≡ 0 → ⊥) → (room : ℕ)
    → (netting_refusal s room ≡ issues_refusal s) × (net_offset_refusal s room ≡ issues_refusal s)
not_netted_says = not_netted

pub net-offset_says : (s out : List ℕ) → (net_offset_refusal s (length out)).number ≡ 0
    → (take (net_offset_of s (length out)).length (net_offset_output s out) ≡ net_offset_book s)
    × (refusal_of (net_offset_book s) ≡ refused 0 0)
    × (class_rows (net_offset_book s) 1 ≡ offset_rows (netted_rows (class_rows s 1)))
    × (class_rows (net_offset_book s) 2 ≡ netted_rows (class_rows s 2))
    × (class_rows (net_offset_book s) 3 ≡ netted_rows (class_rows s 3))
    × (class_rows (net_offset_book s) 4 ≡ netted_rows (class_rows s 4))
    × ((a b : Row) → Memᴰ a (class_rows (net_offset_book s) 1)
    → Memᴰ b (class_rows (net_offset_book s) 1) → fits a b ≡ false)
    × (issues_refusal (net_offset_book s) ≡ refused 0 0)
    × (net_offset_book (net_offset_book s) ≡ net_offset_book s)
unfolding offset_by
net-offset_says s out e =
    let left = net-offset s out e in
    let rows = each_class_lem left.rows in
    (left.bytes, left.accepted, rows 1 (omega arith) (omega arith), rows 2 (omega arith) (omega arith), rows 3 (omega arith) (omega arith), rows 4 (omega arith) (omega arith), left.none_fit, left.again, left.unchanged)
