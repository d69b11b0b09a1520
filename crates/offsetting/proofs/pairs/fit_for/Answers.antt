-- `offsetting::pairs::fit_for` meets its contract: a row that was dropped, or is no government row, fits none; for another the search decides.
use mathlib.Core.Path.{◌≡◌, sym, ap, ◌∙◌}
use mathlib.Core.Bool.{true, false}
use mathlib.Core.List.{List}
use Prim.Native.Nat.{ℕ, suc, ◌+◌}
use native.Mathlib.Numerals.{add-one}
use borrow.Author.Tests.{not-true, not-false}
use lib.Dec.{eqb}
use lib.ListN.{get_or, drop}
use Rattle.std.specs.Prelude.{Option, None}
use Rattle.book.specs.declared.Row.{Row}
use Rattle.book.proofs.ClassRows.{no_row, row_is}
use Rattle.ladder.specs.declared.positions.Position.{Position}
use Rattle.ladder.specs.Position.{Bands, gross}
use Rattle.issues.specs.Issues.{holding}
use Rattle.swaps.specs.Fitting.{government}
use Rattle.amounts.specs.Inner.Counting.{is_left}
use Rattle.offsetting.specs.Inner.Pairs.{fit_from, leg_at, fit_for}
use Rattle.offsetting.proofs.Searching.{other_kind}
use Rattle.offsetting.proofs.pairs.fit_for.Goals.{else-is_left-via-then-is_left+else-government, else-is_left-via-else-is_left}
use Rattle.offsetting.proofs.pairs.fit_for.Goals as goal

module _ (rows : List Row) (f : Bands) (row : ℕ) where
  -- it was dropped
  by_gone : is_left (f row) ≡ false → None ≡ fit_for rows f row
  unfolding fit_for
  by_gone none = rw (not-false (eqb (gross (f row)) 0) none)

  module _ (some : is_left (f row) ≡ true) where
    searched : fit_for rows f row ≡ fit_from (leg_at rows f row) f (suc row) (drop (suc row) rows)
    unfolding fit_for
    searched = rw (not-true (eqb (gross (f row)) 0) some)

    by_kind : government (get_or rows row no_row) ≡ false → None ≡ fit_for rows f row
    unfolding government
    by_kind other = sym (searched ∙ other_kind (leg_at rows f row) f other (suc row) (drop (suc row) rows))

    by_search : {leg : Row} {amounts : Position} → leg ≡ get_or rows row no_row → amounts ≡ f row → {found : Option ℕ}
        → found ≡ fit_from (holding leg amounts) f (row + 1) (drop (row + 1) rows) → found ≡ fit_for rows f row
    by_search is_leg is-amounts is = is ∙ rw (is_leg, is-amounts, add-one row) (sym searched)

pub returns-then-government : goal.returns-then-government
returns-then-government c =
    let some = sym (c.is_left.ensures ∙ ap is_left c.at-own.ensures) ∙ c.if-is_left.true in
    by_search _ _ _ some (c.row_at-leg.ensures ∙ row_is _ _) c.at-own.ensures c.first_fit.ensures

pub returns-else-is_left : goal.returns-else-is_left
returns-else-is_left c =
    let left = sym (c.is_left.ensures ∙ ap is_left c.at-own.ensures) in
    elim c.else-is_left.branch [
      | else-is_left-via-then-is_left+else-government w ↦
          by_kind _ _ _ (left ∙ w.if-is_left.true) (sym (w.government.ensures ∙ ap government (c.row_at-leg.ensures ∙ row_is _ _)) ∙ w.if-government.false)
      | else-is_left-via-else-is_left w ↦ by_gone _ _ _ (left ∙ w.if-is_left.false)
    ]
