-- `netting::net` meets its contract: the book's own refusal, 13 and 14 turn away, and else the
-- netted book is written or 12 is given.
use mathlib.Core.Path.{◌≡◌, refl}
use mathlib.Core.List.{List}
use Prim.Native.Nat.{ℕ}
use lib.ListN.{length}
use Rattle.std.proofs.Common.{Result, Ok, Err}
use Rattle.std.specs.Result.{IsErrAnd}
use Rattle.book.specs.declared.Refusal.{Refusal}
use Rattle.book.specs.declared.Refused.{Refused}
use Rattle.layout.specs.Room.{room_refusal, written_answer, written_of, output_of}
use Rattle.amounts.specs.Inner.Standing.{positions_in, standing_book}
use Rattle.book.specs.Refusals.{refused, refusal_of}
use Rattle.book.specs.Reasons.{numbers_of, told}
use Rattle.book.specs.Accepted.{Accepted}
use Rattle.book.proofs.Numbers.{some_told}
use Rattle.book.proofs.Acceptance.{accepts_accepted}
use Rattle.amounts.specs.declared.positions.Amounts.{Amounts}
use Rattle.amounts.proofs.Outcome.{stands_written, stands_output_by_room}
use Rattle.netting.specs.declared.Netted.{Netted as Figures}
use Rattle.netting.specs.Netted.{issues_refusal, netted_book, comparisons_of, netting_refusal, netting_answer, netted_of, netting_output}
use Rattle.netting.specs.Inner.Nets.{Settled}
use Rattle.netting.proofs.Answers.{Answers, refused-book, refused-issues, passed_on, turned-away, too_short, carried_out}
use Rattle.netting.proofs.net.Goals as goal

-- what is promised of a book that was read
record Promised (s out : List ℕ) (answer : Result Figures Refused) (after : List ℕ) : Type 0 where
  is : netting_answer answer ≡ netted_of s (length out)
  output : after ≡ netting_output s out

promised : {s out : List ℕ} {own : Refusal} → issues_refusal s ≡ own → {answer : Result Figures Refused} {after : List ℕ}
    → Answers own (netted_book s) out (comparisons_of s) answer after → Promised s out answer after
unfolding netted_of netting_output netting_refusal
promised found answers = record { is = rw found answers.is; output = rw found answers.output }

-- refused before 12
by-read : (s out : List ℕ) (r : Refused) → numbers_of r ≡ refusal_of s → {answer : Result Figures Refused} → IsErrAnd answer (λ e. e ≡ r) → Promised s out answer out
by-read s out r own h =
    promised (refused-book s own (some_told r refl)) (passed_on (numbers_of r) (netted_book s) out (comparisons_of s) h (turned-away _ _ out _ r refl))

module _ {s' s : List ℕ} (same : s' ≡ s) (ok : Accepted s') (out : List ℕ) where
  by-issues : {r : Refused} {amounts : Amounts} → Settled s' (Err r) amounts → {answer : Result Figures Refused} → IsErrAnd answer (λ e. e ≡ r) → Promised s out answer out
  unfolding told
  by-issues {r} settled h =
      rw (← same)
      (promised (refused-issues s' ok settled.is) (passed_on (numbers_of r) (netted_book s') out (comparisons_of s') h (turned-away _ _ out _ r refl)))

  -- settled
  module _ {compared : ℕ} {amounts : Amounts} (settled : Settled s' (Ok compared) amounts) where
    none : issues_refusal s' ≡ refused 0 0
    unfolding told
    none = refused-issues s' ok settled.is

    by-room : (r : Refused) → written_answer (Err r) ≡ written_of (room_refusal (length (standing_book (positions_in amounts) s')) (length out)) (standing_book (positions_in amounts) s')
        → {after : List ℕ} → after ≡ output_of (room_refusal (length (standing_book (positions_in amounts) s')) (length out)) (standing_book (positions_in amounts) s') out
        → {answer : Result Figures Refused} → IsErrAnd answer (λ e. e ≡ r) → Promised s out answer after
    unfolding netted_book
    by-room r is after-is h =
        rw (← same)
        (promised none (passed_on _ _ _ _ h (too_short (refused 0 0) (netted_book s') out (comparisons_of s') refl r (stands_written settled.nets out is) (stands_output_by_room settled.nets out after-is))))

    done : {n : ℕ} → written_answer (Ok n) ≡ written_of (room_refusal (length (standing_book (positions_in amounts) s')) (length out)) (standing_book (positions_in amounts) s')
        → {after : List ℕ} → after ≡ output_of (room_refusal (length (standing_book (positions_in amounts) s')) (length out)) (standing_book (positions_in amounts) s') out
        → Promised s out (Ok (record { length = n; comparisons = compared })) after
    unfolding netted_book
    done {n} is after-is =
        rw (← same, settled.is_compared)
        (promised none (carried_out (refused 0 0) (netted_book s') out (comparisons_of s') refl n (stands_written settled.nets out is) (stands_output_by_room settled.nets out after-is)))

pub returns-in_err-read : goal.returns-in_err-read
unfolding told
returns-in_err-read c =
    let all = by-read c.args.book.now c.args.out.now _ c.in_err-read.ensures.refusal c.from_residual.ensures.1 in
    record { answer = all.is; output = all.output }

pub returns-in_err-comparisons : goal.returns-in_err-comparisons
returns-in_err-comparisons c =
    let all = by-issues c.in_ok-read.ensures.bytes (accepts_accepted _ c.in_ok-read.read.accepted) c.args.out.now c.in_err-comparisons.ensures c.from_residual-in_err-comparisons.ensures.1 in
    record { answer = all.is; output = all.output }

pub write_book-requires : goal.write_book-requires
write_book-requires c = c.in_ok-comparisons.ensures.nets.can

pub returns-in_err-length : goal.returns-in_err-length
returns-in_err-length c =
    let all = by-room c.in_ok-read.ensures.bytes (accepts_accepted _ c.in_ok-read.read.accepted) c.args.out.now c.in_ok-comparisons.ensures _
    c.in_err-length.ensures.length c.in_err-length.ensures.output c.from_residual-in_err-length.ensures.1 in
    record { answer = all.is; output = all.output }

pub returns : goal.returns
returns c =
    let all = done c.in_ok-read.ensures.bytes (accepts_accepted _ c.in_ok-read.read.accepted) c.args.out.now c.in_ok-comparisons.ensures
    c.in_ok-length.ensures.length c.in_ok-length.ensures.output in
    record { answer = all.is; output = all.output }
