-- `netting::settle` meets its contract: 13 comes before 14.
use mathlib.Core.Path.{◌≡◌, sym, ap, subst, ◌∙◌}
use mathlib.Core.List.{List}
use Prim.Native.Nat.{ℕ}
use native.Mathlib.Omega.{arith}
use Rattle.std.proofs.Common.{Result, Ok, Err}
use Rattle.std.specs.Result.{IsErrAnd}
use Rattle.book.specs.declared.Refusal.{Refusal}
use Rattle.book.specs.declared.Refused.{Refused}
use Rattle.book.specs.Counts.{counts_of, count_of_rows}
use Rattle.book.specs.Legs.{legs_of}
use Rattle.book.specs.Reasons.{numbers_of, told}
use Rattle.book.specs.Refusals.{refused}
use Rattle.book.specs.Accepted.{Accepted}
use Rattle.book.proofs.Numbers.{some_told, none_told, told_on}
use Rattle.book.proofs.Acceptance.{accepts_accepted}
use Rattle.layout.specs.Room.{or_next}
use Rattle.layout.proofs.Room.{or_first, or_next_lem}
use Rattle.amounts.specs.declared.positions.Amounts.{Amounts}
use Rattle.amounts.specs.Inner.Standing.{positions_in}
use Rattle.netting.specs.Netted.{differing_refusal, over_refusal}
use Rattle.netting.specs.Inner.Gathering.{GatheredBook}
use Rattle.netting.specs.Inner.Nets.{is_over, first_number, NetsAt, Settled}
use Rattle.netting.proofs.Outcome.{over_found, stands}
use Rattle.netting.proofs.settle.Goals.{After-rows-rows}
use Rattle.netting.proofs.settle.Goals as goal

-- a refusal passed on
passed_on : {s : List ℕ} (answer : Result ℕ Refused) (r : Refused) {amounts : Amounts} → IsErrAnd answer (λ e. e ≡ r)
    → numbers_of r ≡ or_next (differing_refusal (legs_of s)) (over_refusal (legs_of s)) → Settled s answer amounts
passed_on (Ok _) r h is = absurd h
passed_on (Err e) r h is = record { is = told_on (Err e) r h is; is_compared = tt; nets = tt }

by-13 : {s : List ℕ} {r : Refused} {amounts : Amounts} → GatheredBook s (Err r) amounts → numbers_of r ≡ or_next (differing_refusal (legs_of s)) (over_refusal (legs_of s))
unfolding told
by-13 {s} {r} gathered =
    gathered.is ∙ sym (or_first (differing_refusal (legs_of s)) _ (some_told r gathered.is))

-- where no row differs
module _ {s : List ℕ} (ok : Accepted s) {compared : ℕ} {amounts : Amounts} (gathered : GatheredBook s (Ok compared) amounts) where
  abbrev over : Refusal
  over = first_number 14 (λ k. is_over (positions_in amounts k)) 0 (count_of_rows (counts_of s))

  by-14 : over ≡ or_next (differing_refusal (legs_of s)) (over_refusal (legs_of s))
  unfolding told
  by-14 = over_found s ok amounts gathered.holds ∙ sym (or_next_lem (differing_refusal (legs_of s)) _ (none_told gathered.is))

  by-none : refused 0 0 ≡ over → {amounts' : Amounts} → NetsAt (count_of_rows (counts_of s)) amounts amounts' → Settled s (Ok compared) amounts'
  unfolding told
  by-none none nets =
      record {
        is = none ∙ by-14;
        is_compared = gathered.is_compared;
        nets = stands s ok amounts gathered.holds (none_told none) nets;
      }

pub returns-in_err-compared : goal.returns-in_err-compared
returns-in_err-compared c = passed_on _ _ c.from_residual.ensures.1 (by-13 c.in_err-compared.ensures)

-- the rows are the book's
rows_are : (c : After-rows-rows) → c.rows-rows.result ≡ count_of_rows (counts_of c.args.book.bytes.now)
rows_are c = c.rows-rows.ensures.0 ∙ ap count_of_rows c.args.book.own

pub first_over-requires : goal.first_over-requires
first_over-requires c = omega (arith, rows_are (goal.at.first_over-requires c).After-rows-rows, (accepts_accepted _ c.args.book.accepted).few)

pub returns-in_err-first_over : goal.returns-in_err-first_over
unfolding told
returns-in_err-first_over c =
    let rows = rows_are (goal.at.returns-in_err-first_over c).After-rows-rows in
    passed_on _ _ c.from_residual-in_err-first_over.ensures.1
    (c.in_err-first_over.ensures
    ∙ ap (first_number 14 (λ k. is_over (positions_in c.gather_book.new.amounts k)) 0) rows
    ∙ by-14 (accepts_accepted _ c.args.book.accepted) c.in_ok-compared.ensures)

pub net_each-requires : goal.net_each-requires
net_each-requires c = omega (arith, rows_are (goal.at.net_each-requires c).After-rows-rows, (accepts_accepted _ c.args.book.accepted).few)

pub returns : goal.returns
unfolding told
returns c =
    let rows = rows_are (goal.at.returns c).After-rows-rows in
    by-none (accepts_accepted _ c.args.book.accepted) c.in_ok-compared.ensures
    (c.in_ok-first_over.ensures ∙ ap (first_number 14 (λ k. is_over (positions_in c.gather_book.new.amounts k)) 0) rows)
    (subst (λ (n : ℕ). NetsAt n c.gather_book.new.amounts c.net_each.new.amounts) rows c.net_each.ensures)
