-- What the groups that are listed sum to: as much as all, where one that is not counted has no size.
-- Assumes nothing.
use mathlib.Core.Path.{◌≡◌, refl, ap, ◌∙◌}
use mathlib.Core.Bool.{Bool, true, false, cond}
use mathlib.Core.List.{List, ◌∷◌}
use Prim.Native.Nat.{ℕ, ◌+◌, ◌*◌, ◌≤◌, ◌<◌}
use native.Mathlib.Nat.{mul-zero}
use native.Mathlib.Omega.{arith}
use borrow.Author.Tests.{eqb-true}
use lib.Dec.{eqb}
use lib.ListN.{take}
use Rattle.sums.specs.Sums.{sum_of}
use Rattle.sums.specs.Every.{Every, none, also}
use Rattle.sums.proofs.Spans.{Rated}
use Rattle.sums.proofs.Every.{every_implied}
use Rattle.charges.specs.Charges.{groups}
use Rattle.charges.specs.Inner.Slots.{group_count}
use Rattle.charges.specs.Inner.Tables.{Used, counted_groups, UsedOf}
use Rattle.charges.proofs.Listing.{span_below, all_within}

-- what costs nothing where none is counted sums over those that are counted as over all
module _ (count : ℕ → ℕ) where
  counted_sum : (cost : ℕ → ℕ) {list : List ℕ} → Every (λ g. count g ≡ 0 → cost g ≡ 0) list → sum_of cost (counted_groups count list) ≡ sum_of cost list
  unfolding counted_groups sum_of
  counted_sum cost none = refl
  counted_sum cost (also {a} {rest} free later) = go (eqb (count a) 0) refl (counted_sum cost later)
    where
      go : (test : Bool) → eqb (count a) 0 ≡ test → sum_of cost (counted_groups count rest) ≡ sum_of cost rest
          → sum_of cost (cond test (counted_groups count rest) (a ∷ counted_groups count rest)) ≡ cost a + sum_of cost rest
      go true t e = omega (arith, free (eqb-true (count a) 0 t))
      go false t e = omega arith

-- the groups that are used cost what all groups cost
module _ (cost size : ℕ → ℕ) (rate bound : ℕ) (rated : Rated cost size rate bound group_count) (count : ℕ → ℕ) (used : Used) (of : UsedOf count used)
    (free : (g : ℕ) → g < group_count → count g ≡ 0 → size g ≡ 0) where
  -- a group that is not counted costs nothing
  no_cost : Every (λ g. count g ≡ 0 → cost g ≡ 0) groups
  no_cost = every_implied (λ g h e. omega (arith, rw (free g h e) at (rated.each g), mul-zero rate)) (span_below 0 group_count)

  pub used_sum : sum_of cost (take used.many used.list) ≡ sum_of cost groups
  used_sum = ap (sum_of cost) of.is ∙ counted_sum count cost no_cost

  pub used_within : sum_of cost (take used.many used.list) ≤ rate * bound
  used_within = omega (arith, used_sum, all_within cost size rate bound rated)
