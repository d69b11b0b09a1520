-- The longs and the shorts of the amounts as lists: what stands in them, and what adding a position
-- makes of them.
-- Assumes nothing.
use mathlib.Core.Path.{◌≡◌, ◌∙◌}
use Prim.Native.Nat.{ℕ, ◌+◌}
use lib.ListN.{length, get_or, set, length-map, get_or-map}
use Rattle.std.proofs.lemmas.List.{map-set}
use Rattle.book.specs.Refusals.{most_rows}
use Rattle.ladder.specs.declared.positions.Position.{Position}
use Rattle.ladder.specs.Position.{empty, ◌⊕◌}
use Rattle.amounts.specs.declared.positions.Amounts.{Amounts}
use Rattle.amounts.specs.Inner.Standing.{positions_in}
use Rattle.netting.specs.Inner.Gathering.{longs_of, shorts_of}

module _ (amounts : Amounts) where
  pub longs-length : length (longs_of amounts) ≡ most_rows
  longs-length = length-map amounts.rows (λ p. p.long) ∙ amounts.sized

  pub shorts-length : length (shorts_of amounts) ≡ most_rows
  shorts-length = length-map amounts.rows (λ p. p.short) ∙ amounts.sized

  pub long_at : (k : ℕ) → get_or (longs_of amounts) k 0 ≡ (positions_in amounts k).long
  long_at k = get_or-map (λ (p : Position). p.long) amounts.rows k empty

  pub short_at : (k : ℕ) → get_or (shorts_of amounts) k 0 ≡ (positions_in amounts k).short
  short_at k = get_or-map (λ (p : Position). p.short) amounts.rows k empty

  module _ (amounts' : Amounts) (at : ℕ) (more : Position) (is : amounts'.rows ≡ set amounts.rows at (positions_in amounts at ⊕ more)) where
    pub longs-added : longs_of amounts' ≡ set (longs_of amounts) at (get_or (longs_of amounts) at 0 + more.long)
    longs-added = rw (is, map-set (λ (p : Position). p.long) amounts.rows at (positions_in amounts at ⊕ more), long_at at)

    pub shorts-added : shorts_of amounts' ≡ set (shorts_of amounts) at (get_or (shorts_of amounts) at 0 + more.short)
    shorts-added = rw (is, map-set (λ (p : Position). p.short) amounts.rows at (positions_in amounts at ⊕ more), short_at at)
