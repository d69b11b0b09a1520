-- `offsetting::pairs::first_fit` meets its contract: the search is the definition's.
use mathlib.Core.Path.{◌≡◌, subst}
use mathlib.Core.Bool.{true, false}
use Prim.Native.Nat.{ℕ, ◌-◌, ◌<◌}
use native.Mathlib.Omega.{arith}
use lib.ListN.{length}
use Rattle.std.proofs.Common.{rules, tests}
use Rattle.std.proofs.lemmas.Iterator.{serves_from_Range, first_from_Range}
use Rattle.book.specs.Inner.Reading.{part_rows}
use Rattle.book.proofs.ClassRows.{row_is}
use Rattle.issues.specs.Issues.{holding}
use Rattle.amounts.specs.Inner.Standing.{positions_in}
use Rattle.offsetting.proofs.Searching.{many-rows, fits_row, IsFirst, first-found}
use Rattle.offsetting.proofs.pairs.first_fit.Goals as goal

pub find-requires-clause-callable : goal.find-requires-clause-callable
find-requires-clause-callable c =
    let many = many-rows c.args.part.now c.row_count.ensures in
    serves_from_Range (λ x q k. search (rules, tests)) (λ x low high. let inside : x < length (part_rows c.args.part.now) = omega arith in search rules)

pub returns : goal.returns
returns c =
    let leg = holding c.args.leg c.args.own in
    let f = positions_in c.args.amounts.now in
    let rows = part_rows c.args.part.now in
    let many = many-rows c.args.part.now c.row_count.ensures in
    let first = first_from_Range _ _ _ _ (λ i. fits_row leg f rows i ≡ true) (λ i. fits_row leg f rows i ≡ false) c.find.ensures.ran
    (λ x q k. rw (← row_is c.args.part.now x) (search (rules, tests)))
    (λ x q k. (search rules, rw (← row_is c.args.part.now x) (search (rules, tests)))) in
    first-found leg f rows (length rows - c.args.from) c.args.from c.find.result (omega arith) (subst (λ (n : ℕ). IsFirst leg f rows c.args.from n c.find.result) many first)
