-- `netting::gathering::gather_book` meets its contract: the classes before are gathered, and none of their rows differs.
use mathlib.Core.Path.{◌≡◌}
use mathlib.Core.List.{List}
use Prim.Native.Nat.{ℕ}
use native.Mathlib.Omega.{arith}
use Rattle.std.proofs.Common.{Result, Ok, Err}
use Rattle.std.specs.Result.{IsErrAnd}
use Rattle.book.specs.declared.Refused.{Refused}
use Rattle.book.specs.Counts.{counts_of, rows_before}
use Rattle.book.specs.Legs.{legs_of, of_class}
use Rattle.book.specs.Reasons.{numbers_of}
use Rattle.book.specs.Inner.Reading.{part_rows}
use Rattle.book.proofs.Numbers.{told_on}
use Rattle.book.proofs.Acceptance.{accepts_accepted}
use Rattle.amounts.specs.declared.positions.Amounts.{Amounts}
use Rattle.amounts.proofs.Parts.{PartIs, part_is}
use Rattle.netting.specs.Netted.{differing_refusal}
use Rattle.netting.specs.Inner.Gathering.{CanGather, AllGathered, DiffersAt, GatheredBook}
use Rattle.netting.proofs.Classes.{gathered_none, gathers, leaves, goes_on, gathered_all}
use Rattle.netting.proofs.gathering.gather_book.Goals.{After-body}
use Rattle.netting.proofs.gathering.gather_book.Goals as goal

-- the rows of a part are those of a class of the book
module _ {s : List ℕ} {class first : ℕ} {part : List ℕ} (own : PartIs s class first part) where
  can : {amounts : Amounts} → CanGather (rows_before (counts_of s) class) (of_class class (legs_of s)) amounts → CanGather first (part_rows part) amounts
  can h = rw (own.first_is, own.rows_are) h

  did : {compared : ℕ} {amounts amounts' : Amounts} → AllGathered first (part_rows part) compared amounts amounts'
      → AllGathered (rows_before (counts_of s) class) (of_class class (legs_of s)) compared amounts amounts'
  did h = rw (own.first_is, own.rows_are) at h

  differs-there : {r : Refused} → DiffersAt first (part_rows part) r → DiffersAt (rows_before (counts_of s) class) (of_class class (legs_of s)) r
  differs-there h = rw (own.first_is, own.rows_are) at h

-- 13 passed on
refused-there : {s : List ℕ} (answer : Result ℕ Refused) (r : Refused) {amounts : Amounts} → IsErrAnd answer (λ e. e ≡ r) → numbers_of r ≡ differing_refusal (legs_of s)
    → GatheredBook s answer amounts
refused-there (Ok _) r h is = absurd h
refused-there (Err e) r h is = record { is = told_on (Err e) r h is; is_compared = tt; holds = tt }

pub loop-class-init : goal.loop-class-init
loop-class-init c = gathered_none c.args.book.bytes.now _ c.requires

-- the part of a turn, and what may be done with it
own : (c : After-body) → PartIs c.args.book.bytes.now c.loop-class.class c.rows_before-first.result c.body.result.now
own c = part_is (accepts_accepted _ c.args.book.accepted) c.args.book.own c.loop-class.invariant.low (omega arith) c.rows_before-first.ensures.0 c.body.ensures

room : (c : After-body) → CanGather (rows_before (counts_of c.args.book.bytes.now) c.loop-class.class) (of_class c.loop-class.class (legs_of c.args.book.bytes.now)) c.loop-class.amounts
room c = gathers _ (accepts_accepted _ c.args.book.accepted) _ _ _ c.loop-class.invariant (omega arith)

pub gather_class-requires : goal.gather_class-requires
gather_class-requires c =
    let turn = (goal.at.gather_class-requires c).After-body in
    can (own turn) (room turn)

pub returns-in_err-made : goal.returns-in_err-made
returns-in_err-made c =
    let turn = (goal.at.returns-in_err-made c).After-body in
    refused-there _ _ c.from_residual.ensures.1
    (leaves _ (accepts_accepted _ c.args.book.accepted) _ _ _ c.loop-class.invariant (omega arith) (differs-there (own turn) c.in_err-made.ensures))

pub overflow_add-compared : goal.overflow_add-compared
overflow_add-compared c =
    let turn = (goal.at.overflow_add-compared c).After-body in
    omega (arith, c.loop-class.invariant.few_compared, (did (own turn) c.in_ok-made.ensures).few_compared, (room turn).room)

pub loop-class-preserved : goal.loop-class-preserved
loop-class-preserved c =
    let turn = (goal.at.loop-class-preserved c).After-body in
    goes_on _ (accepts_accepted _ c.args.book.accepted) _ _ _ c.loop-class.invariant (omega arith) _ _ (did (own turn) c.in_ok-made.ensures)

pub returns : goal.returns
returns c = gathered_all _ _ _ _ c.loop-class.invariant (omega arith)
