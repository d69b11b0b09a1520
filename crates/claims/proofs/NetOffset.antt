-- Netting issues and then offsetting swap legs, in one call (P3): the netted book offset.
-- Assumes nothing.
use Prim.Native.Nat.{ℕ, ◌≤◌}
use mathlib.Core.Path.{◌≡◌, sym, ap, ◌∙◌}
use mathlib.Core.List.{List, Sublistᴰ}
use lib.ListN.{length}
use Rattle.book.specs.declared.Refusal.{Refusal}
use Rattle.book.specs.Refusals.{refused, refusal_of}
use Rattle.book.proofs.Acceptance.{accepted, refused-with_none}
use Rattle.issues.specs.Issues.{netted_rows}
use Rattle.issues.proofs.Again.{some_again, some_can}
use Rattle.layout.specs.Room.{written_of}
use Rattle.layout.proofs.Room.{or_first, or_next_lem, whole_figure}
use Rattle.layout.proofs.Rows.{book_legs, book_same}
use Rattle.charges.specs.Report.{class_rows}
use Rattle.netting.specs.Netted.{netted_class, netted_book, issues_refusal, comparisons_of, netting_refusal, netted_answer, netted_of}
use Rattle.offsetting.specs.Offset.{offset_by, offset_book, offsetting_refusal, offset_of, offsetting_output}
use Rattle.offsetting.specs.NetOffset.{net_offset_book, net_offset_refusal, net_offset_of, net_offset_output}
use Rattle.claims.specs.NetOffset.{OneCallHolds, NotNettedHolds, NetOffsetHolds}
use Rattle.claims.proofs.Writing.{neither_refused, classes-each}
use Rattle.claims.proofs.Nettable.{can_class, nettable}
use Rattle.claims.proofs.Netting.{netted_rows_lem, netted_accepted, netted_bytes}
use Rattle.claims.proofs.Offsetting.{by_class_some, by_class_again, offsetting}

-- ---- the two calls one after the other
same_book : (s : List ℕ) → net_offset_book s ≡ offset_book (netted_book s)
unfolding net_offset_book offset_book offset_by
same_book s = book_same (offset_by (netted_class s)) (offset_by (class_rows (netted_book s))) (λ class low high. rw (netted_rows_lem s class low high))

module _ (s : List ℕ) (able : (issues_refusal s).number ≡ 0) where
  same_refusal : (room : ℕ) → net_offset_refusal s room ≡ offsetting_refusal (netted_book s) room
  unfolding net_offset_refusal offsetting_refusal refused
  same_refusal room =
      let none = refused-with_none (netted_book s) (netted_accepted ((nettable s).described able)) in
      rw (or_next_lem (issues_refusal s) _ able, or_next_lem (refusal_of (netted_book s)) _ (ap (λ (r : Refusal). r.number) none), same_book s)

  same_length : (room : ℕ) → (net_offset_of s room).length ≡ (offset_of (netted_book s) room).length
  unfolding net_offset_of netted_answer offset_of written_of
  same_length room = rw (same_refusal room, same_book s)

  same_output : (out : List ℕ) → net_offset_output s out ≡ offsetting_output (netted_book s) out
  unfolding net_offset_output offsetting_output
  same_output out = rw (same_refusal (length out), same_book s)

pub one_call : OneCallHolds
unfolding netting_refusal net_offset_of netted_of netted_answer
one_call s first out e =
    let able = (neither_refused (issues_refusal s) _ e).0 in
    let bytes = netted_bytes s first e in
    record {
      refusal = rw bytes (same_refusal s able (length out));
      same_length = rw bytes (same_length s able (length out));
      output = rw bytes (same_output s able out);
      comparisons = λ none.
          whole_figure (net_offset_refusal s (length out)) none (comparisons_of s) ∙ sym (whole_figure (netting_refusal s (length first)) e (comparisons_of s));
    }

pub not_netted : NotNettedHolds
unfolding netting_refusal net_offset_refusal
not_netted s some room = (or_first (issues_refusal s) _ some, or_first (issues_refusal s) _ some)

-- ---- what is written
module _ (s : List ℕ) where
  left-rows : (class : ℕ) → 1 ≤ class → class ≤ 4 → class_rows (net_offset_book s) class ≡ offset_by (netted_class s) class
  unfolding net_offset_book
  left-rows = book_legs (offset_by (netted_class s))

  -- they are some of the netted rows
  some_netted : (class : ℕ) → Sublistᴰ (offset_by (netted_class s) class) (netted_class s class)
  some_netted class = by_class_some (netted_class s) class

  -- the same rows make the same book
  unchanged : net_offset_book (net_offset_book s) ≡ net_offset_book s
  unfolding net_offset_book
  unchanged =
      book_same (offset_by (netted_class (net_offset_book s))) (offset_by (netted_class s))
      (λ class low high.
      by_class_again (netted_class s) class (netted_class (net_offset_book s))
      (ap netted_rows (left-rows class low high) ∙ some_again (class_rows s class) (some_netted class)))

pub net-offset : NetOffsetHolds
unfolding net_offset_refusal refused
net-offset s out e =
    let able = (neither_refused (issues_refusal s) _ e).0 in
    let offset = offsetting (netted_book s) out (rw (← (same_refusal s able (length out))) e) in
    let none : refusal_of (net_offset_book s) ≡ refused 0 0 = rw (same_book s) offset.accepted in
    record {
      bytes = rw (same_length s able (length out), same_output s able out, same_book s) offset.bytes;
      accepted = none;
      rows = classes-each (left-rows s);
      none_fit = rw (same_book s) offset.none_fit;
      again =
          (nettable (net_offset_book s)).taken
          record {
            accepted = accepted (net_offset_book s) (ap (λ (r : Refusal). r.number) none);
            rows = classes-each (λ class low high.
                rw (left-rows s class low high) (some_can (class_rows s class) (can_class ((nettable s).described able) class low high) (some_netted s class)));
          };
      unchanged = unchanged s;
    }
