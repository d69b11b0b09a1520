-- Laws of two swap legs that fit: both are government rows, and it does not matter which is named first.
-- Assumes nothing.
use Prim.Native.Nat.{ℕ, ◌-◌, ◌<◌}
use mathlib.Core.Path.{◌≡◌, refl, sym, ap, ◌∙◌}
use mathlib.Core.Logic.{◌⊎◌, inl, inr}
use mathlib.Core.Bool.{Bool, true, false, ◌&&◌, and_assoc, and_comm}
use native.Mathlib.Nat.{add_comm, min_comm}
use native.Mathlib.Omega.{arith}
use lib.Dec.{eqb}
use borrow.Author.Tests.{eqb-true, eqb-false, eq-eqb, ne_eqb}
use Rattle.sums.proofs.Cases.{both}
use Rattle.book.specs.declared.Row.{Row}
use Rattle.book.specs.Accepted.{Clean}
use Rattle.swaps.specs.Fitting.{government, opposite, near, fits}

-- both rows of a pair that fits are government rows
pub fits-government : (a b : Row) → fits a b ≡ true → (government a ≡ true) × (government b ≡ true)
unfolding fits near
fits-government a b e =
    let first = both _ _ (both (opposite a b) _ e).1 in
    (first.0, (both _ _ first.1).0)

-- ---- a row fits another exactly when the other fits it
eqb_symmetric : (m n : ℕ) → eqb m n ≡ eqb n m
eqb_symmetric m n = go (eqb m n) refl
  where
    go : (test : Bool) → eqb m n ≡ test → test ≡ eqb n m
    go true e = sym (eq-eqb n m (sym (eqb-true m n e)))
    go false e = sym (ne_eqb n m (λ same. eqb-false m n e (sym same)))

-- of two tests before a third the order does not matter
and_swap : (p q r : Bool) → (p && (q && r)) ≡ (q && (p && r))
and_swap p q r = sym (and_assoc p q r) ∙ ap (λ (test : Bool). test && r) (and_comm p q) ∙ and_assoc q p r

opposite-symmetric : (a b : Row) → opposite a b ≡ opposite b a
unfolding opposite
opposite-symmetric a b =
    rw (eqb_symmetric a.long b.short, eqb_symmetric a.short b.long)
    (and_comm (eqb b.short a.long) (eqb b.long a.short))

near-symmetric : (a b : Row) → near a b ≡ near b a
unfolding near
near-symmetric a b =
    rw (
      eqb_symmetric a.group b.group,
      add_comm (a.coupon - b.coupon) (b.coupon - a.coupon),
      add_comm (a.days - b.days) (b.days - a.days),
      min_comm a.days b.days,
    )
    (and_swap (government a) (government b) _)

pub fits-symmetric : (a b : Row) → fits a b ≡ fits b a
unfolding fits
fits-symmetric a b = rw (opposite-symmetric a b, near-symmetric a b)

-- a row that its class allows does not fit itself: one of its amounts is zero, and the other is not
pub clean_alone : {class : ℕ} (row : Row) → Clean class row → fits row row ≡ false
unfolding fits opposite
clean_alone row clean = go clean.one_side
  where
    go : ((0 < row.long) × (row.short ≡ 0)) ⊎ ((row.long ≡ 0) × (0 < row.short)) → fits row row ≡ false
    go (inl long) = rw (ne_eqb row.long row.short (λ e. omega arith))
    go (inr short) = rw (ne_eqb row.long row.short (λ e. omega arith))
