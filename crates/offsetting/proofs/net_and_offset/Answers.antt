-- `offsetting::net_and_offset` meets its contract: the book's own refusal, 13 and 14 turn away, and else the netted rows without the pairs that fit
-- are written or 12 is given.
use mathlib.Core.Path.{◌≡◌, refl}
use mathlib.Core.List.{List}
use Prim.Native.Nat.{ℕ}
use lib.ListN.{length}
use Rattle.std.proofs.Common.{Result, Ok, Err}
use Rattle.std.specs.Result.{IsErrAnd}
use Rattle.book.specs.declared.Refusal.{Refusal}
use Rattle.book.specs.declared.Refused.{Refused}
use Rattle.layout.specs.Room.{room_refusal, written_answer, written_of, output_of}
use Rattle.amounts.specs.Inner.Standing.{positions_in, standing_book, Stands}
use Rattle.book.specs.Legs.{legs_of, of_class}
use Rattle.book.specs.Refusals.{refused, refusal_of}
use Rattle.book.specs.Reasons.{numbers_of, told}
use Rattle.book.specs.Accepted.{Accepted}
use Rattle.book.proofs.Acceptance.{accepts_accepted}
use Rattle.book.proofs.Numbers.{some_told}
use Rattle.amounts.specs.declared.positions.Amounts.{Amounts}
use Rattle.amounts.proofs.Outcome.{stands_written, stands_output_by_room}
use Rattle.netting.specs.declared.Netted.{Netted as Figures}
use Rattle.netting.specs.Netted.{issues_refusal, netted_class, comparisons_of, netting_answer}
use Rattle.netting.specs.Inner.Nets.{Settled}
use Rattle.netting.proofs.Answers.{Answers, refused-book, refused-issues, passed_on, turned-away, too_short, carried_out}
use Rattle.offsetting.specs.Offset.{offset_by}
use Rattle.offsetting.specs.NetOffset.{net_offset_book, net_offset_refusal, net_offset_of, net_offset_output}
use Rattle.offsetting.specs.Inner.Pairs.{Dropped}
use Rattle.offsetting.proofs.Outcome.{offset_stands}
use Rattle.offsetting.proofs.net_and_offset.Goals.{After-drop_interest}
use Rattle.offsetting.proofs.net_and_offset.Goals as goal

-- what is promised of a book that was read
record Promised (s out : List ℕ) (answer : Result Figures Refused) (after : List ℕ) : Type 0 where
  is : netting_answer answer ≡ net_offset_of s (length out)
  output : after ≡ net_offset_output s out

promised : {s out : List ℕ} {own : Refusal} → issues_refusal s ≡ own → {answer : Result Figures Refused} {after : List ℕ}
    → Answers own (net_offset_book s) out (comparisons_of s) answer after → Promised s out answer after
unfolding net_offset_of net_offset_output net_offset_refusal
promised found answers = record { is = rw found answers.is; output = rw found answers.output }

-- refused before 12
by-read : (s out : List ℕ) (r : Refused) → numbers_of r ≡ refusal_of s → {answer : Result Figures Refused} → IsErrAnd answer (λ e. e ≡ r) → Promised s out answer out
by-read s out r own h =
    promised (refused-book s own (some_told r refl)) (passed_on (numbers_of r) (net_offset_book s) out (comparisons_of s) h (turned-away _ _ out _ r refl))

module _ {s' s : List ℕ} (same : s' ≡ s) (ok : Accepted s') (out : List ℕ) where
  by-issues : {r : Refused} {amounts : Amounts} → Settled s' (Err r) amounts → {answer : Result Figures Refused} → IsErrAnd answer (λ e. e ≡ r) → Promised s out answer out
  unfolding told
  by-issues {r} settled h =
      rw (← same)
      (promised (refused-issues s' ok settled.is) (passed_on (numbers_of r) (net_offset_book s') out (comparisons_of s') h (turned-away _ _ out _ r refl)))

  -- settled
  module _ {compared : ℕ} {settled amounts : Amounts} (sums : Settled s' (Ok compared) settled) (dropped : Dropped (of_class 1 (legs_of s')) settled amounts) where
    none : issues_refusal s' ≡ refused 0 0
    unfolding told
    none = refused-issues s' ok sums.is

    stands : Stands s' (offset_by (netted_class s')) amounts
    stands = offset_stands ok sums.nets dropped

    by-room : (r : Refused) → written_answer (Err r) ≡ written_of (room_refusal (length (standing_book (positions_in amounts) s')) (length out)) (standing_book (positions_in amounts) s')
        → {after : List ℕ} → after ≡ output_of (room_refusal (length (standing_book (positions_in amounts) s')) (length out)) (standing_book (positions_in amounts) s') out
        → {answer : Result Figures Refused} → IsErrAnd answer (λ e. e ≡ r) → Promised s out answer after
    unfolding net_offset_book
    by-room r is after-is h =
        rw (← same)
        (promised none (passed_on _ _ _ _ h (too_short (refused 0 0) (net_offset_book s') out (comparisons_of s') refl r (stands_written stands out is) (stands_output_by_room stands out after-is))))

    done : {n : ℕ} → written_answer (Ok n) ≡ written_of (room_refusal (length (standing_book (positions_in amounts) s')) (length out)) (standing_book (positions_in amounts) s')
        → {after : List ℕ} → after ≡ output_of (room_refusal (length (standing_book (positions_in amounts) s')) (length out)) (standing_book (positions_in amounts) s') out
        → Promised s out (Ok (record { length = n; comparisons = compared })) after
    unfolding net_offset_book
    done {n} is after-is =
        rw (← same, sums.is_compared)
        (promised none (carried_out (refused 0 0) (net_offset_book s') out (comparisons_of s') refl n (stands_written stands out is) (stands_output_by_room stands out after-is)))

pub returns-in_err-book : goal.returns-in_err-book
unfolding told
returns-in_err-book c =
    let all = by-read c.args.book.now c.args.out.now _ c.in_err-book.ensures.refusal c.from_residual.ensures.1 in
    record { answer = all.is; output = all.output }

pub returns-in_err-comparisons : goal.returns-in_err-comparisons
returns-in_err-comparisons c =
    let all = by-issues c.in_ok-book.ensures.bytes (accepts_accepted _ c.in_ok-book.book.accepted) c.args.out.now c.in_err-comparisons.ensures c.from_residual-in_err-comparisons.ensures.1 in
    record { answer = all.is; output = all.output }

-- the netted rows without the pairs stand at the rows' numbers
now_stands : (c : After-drop_interest) → Stands c.in_ok-book.book.bytes.now (offset_by (netted_class c.in_ok-book.book.bytes.now)) c.drop_interest.new.amounts
now_stands c = offset_stands (accepts_accepted _ c.in_ok-book.book.accepted) c.in_ok-comparisons.ensures.nets c.drop_interest.ensures

pub write_book-requires : goal.write_book-requires
write_book-requires c = (now_stands (goal.at.write_book-requires c).After-drop_interest).can

pub returns-in_err-length : goal.returns-in_err-length
returns-in_err-length c =
    let all = by-room c.in_ok-book.ensures.bytes (accepts_accepted _ c.in_ok-book.book.accepted) c.args.out.now c.in_ok-comparisons.ensures c.drop_interest.ensures _
    c.in_err-length.ensures.length c.in_err-length.ensures.output c.from_residual-in_err-length.ensures.1 in
    record { answer = all.is; output = all.output }

pub returns : goal.returns
returns c =
    let all = done c.in_ok-book.ensures.bytes (accepts_accepted _ c.in_ok-book.book.accepted) c.args.out.now c.in_ok-comparisons.ensures c.drop_interest.ensures
    c.in_ok-length.ensures.length c.in_ok-length.ensures.output in
    record { answer = all.is; output = all.output }
