-- `book::search::first_refused` meets its contract: the rows passed are clean, so that the search of all legs is the search of what is left.
use mathlib.Core.Path.{◌≡◌, sym, ap, subst, ◌∙◌}
use Prim.Native.Nat.{ℕ, ◌+◌}
use native.Mathlib.Omega.{arith}
use Rattle.book.specs.Counts.{Counts, count_in}
use Rattle.book.specs.Rows.{decode}
use Rattle.book.specs.Legs.{legs_of}
use Rattle.book.specs.Refusals.{row_refusal, refused}
use Rattle.book.specs.Reasons.{number_of, number_in, numbers_of, told}
use Rattle.book.proofs.Numbers.{some_of}
use Rattle.book.proofs.Walking.{bytes_at, legs_length}
use Rattle.book.proofs.Searching.{AtClass, Passed, starts, enters, goes_on, next_class, at_end, leg-there, none_passed, passes, leaves, all_passed}
use Rattle.book.proofs.search.first_refused.Goals as goal

pub loop-class-init : goal.loop-class-init
loop-class-init c = (starts _, none_passed _)

pub loop-row-init : goal.loop-row-init
loop-row-init c =
    let rows = c.from.ensures ∙ c.class_rows.ensures ∙ ap (λ (counts : Counts). count_in counts c.loop-class.class) c.requires.0 in
    (enters _ _ _ _ c.loop-class.invariant.0 (omega arith) rows, c.loop-class.invariant.1)

pub loop-row-preserved : goal.loop-row-preserved
unfolding number_in
loop-row-preserved c =
    let there = leg-there _ c.requires.1.sized _ _ _ c.loop-row.invariant.0 c.loop-row-test.true in
    let leg : c.row_from-leg.result ≡ decode (bytes_at c.args.book.now c.loop-row.row) = c.row_from-leg.ensures in
    let clean = sym (c.in_default.ensures ∙ ap (row_refusal c.loop-class.class) leg) in (
      goes_on _ _ _ _ c.loop-row.invariant.0 c.loop-row-test.true,
      passes _ _ _ _ there.within there.is_leg c.loop-row.invariant.1 clean,
    )

pub loop-class-preserved : goal.loop-class-preserved
loop-class-preserved c =
    let at = c.loop-row.invariant.0 in
    let end : c.loop-row.row ≡ c.loop-class.first + c.from.result = omega (arith, at.to, c.loop-row-test.false) in
    subst (λ row. AtClass c.args.book.now (c.loop-class.class + 1) row × Passed (legs_of c.args.book.now) row) end
    (next_class _ _ _ _ at c.loop-row-test.false, c.loop-row.invariant.1)

pub returns-after-loop-class : goal.returns-after-loop-class
unfolding told
returns-after-loop-class c =
    let all = at_end _ _ _ c.loop-class.invariant.0 (omega arith) in
    sym (all_passed (legs_of c.args.book.now) c.loop-class.first (omega (arith, legs_length _ c.requires.1.sized)) c.loop-class.invariant.1)

pub returns-in-Err : goal.returns-in-Err
unfolding number_in numbers_of told refused
returns-in-Err c =
    let there = leg-there _ c.requires.1.sized _ _ _ c.loop-row.invariant.0 c.loop-row-test.true in
    let leg : c.row_from-leg.result ≡ decode (bytes_at c.args.book.now c.loop-row.row) = c.row_from-leg.ensures in
    let found = c.in-Err.ensures ∙ ap (row_refusal c.loop-class.class) leg in
    ap numbers_of c.at_row.ensures
    ∙ ap (λ (n : ℕ). refused n c.loop-row.row) found
    ∙ sym (leaves _ _ _ _ there.within there.is_leg c.loop-row.invariant.1 (some_of _ found))
