-- A row passes 4 to 9 and 15 exactly when it is clean.
-- Assumes nothing.
use mathlib.Core.Path.{◌≡◌, refl}
use mathlib.Core.Bool.{Bool, true, false, cond, beq, ◌||◌, or-false, true≢false}
use mathlib.Core.Logic.{◌⊎◌, inl, inr, ⊎_elim}
use Prim.Native.Nat.{ℕ, ◌+◌, ◌<◌, ◌≤◌}
use native.Mathlib.Nat.{zero-add, add-zero}
use native.Mathlib.Omega.{arith}
use lib.Dec.{ltb, eqb}
use borrow.Author.Tests.{ltb-false, le-ltb, eqb-true, eqb-false, eq-eqb, ne_eqb}
use Rattle.sums.proofs.Cases.{untaken, neither}
use Rattle.book.specs.Rows.{Row}
use Rattle.book.specs.Refusals.{most_amount, floating, group_refusal, plain_refusal, note_refusal, terms_refusal, amounts_refusal, or_else, row_refusal}
use Rattle.book.specs.Accepted.{Terms, plain, note, Clean}

-- neither of two refusals applies
none_of : (a b : ℕ) → or_else a b ≡ 0 → (a ≡ 0) × (b ≡ 0)
unfolding or_else
none_of a b = go (eqb a 0) refl
  where
    go : (test : Bool) → eqb a 0 ≡ test → cond test b a ≡ 0 → (a ≡ 0) × (b ≡ 0)
    go true t e = (eqb-true a 0 t, e)
    go false t e = absurd (eqb-false a 0 t e)

-- exactly one side is not zero
pub one_side : (long short : ℕ) → beq (eqb long 0) (eqb short 0) ≡ false → ((0 < long) × (short ≡ 0)) ⊎ ((long ≡ 0) × (0 < short))
one_side long short = go (eqb long 0) refl (eqb short 0) refl
  where
    go : (l : Bool) → eqb long 0 ≡ l → (s : Bool) → eqb short 0 ≡ s → beq l s ≡ false → ((0 < long) × (short ≡ 0)) ⊎ ((long ≡ 0) × (0 < short))
    go true l true s e = absurd (true≢false e)
    go true l false s e = inr (eqb-true _ _ l, omega (arith, eqb-false short 0 s))
    go false l true s e = inl (omega (arith, eqb-false long 0 l), eqb-true _ _ s)
    go false l false s e = absurd (true≢false e)

-- so that one of them is over a limit just where their sum is
pub over_sum : (most long short : ℕ) → beq (eqb long 0) (eqb short 0) ≡ false → (ltb most long || ltb most short) ≡ ltb most (long + short)
over_sum most long short e =
    ⊎_elim
    (λ h. rw (h.1, add-zero long, le-ltb most 0 (omega arith), or-false))
    (λ h. rw (h.0, zero-add short, le-ltb most 0 (omega arith)))
    (one_side long short e)

pub one_test : (long short : ℕ) → ((0 < long) × (short ≡ 0)) ⊎ ((long ≡ 0) × (0 < short)) → beq (eqb long 0) (eqb short 0) ≡ false
one_test long short (inl h) = simp (ne_eqb long 0 (λ e. omega arith), eq-eqb short 0 h.1)
one_test long short (inr h) = simp (eq-eqb long 0 h.0, ne_eqb short 0 (λ e. omega arith))

-- ---- the amounts
module _ (row : Row) where
  pub amounts_clean : amounts_refusal row ≡ 0 → (((0 < row.long) × (row.short ≡ 0)) ⊎ ((row.long ≡ 0) × (0 < row.short))) × ((row.long ≤ most_amount) × (row.short ≤ most_amount))
  unfolding amounts_refusal
  amounts_clean e =
      let sides = untaken _ 7 _ e in
      let amounts = neither _ _ (untaken _ 8 0 sides.1).0 in
      (one_side _ _ sides.0, (ltb-false _ _ amounts.0, ltb-false _ _ amounts.1))

  pub clean_amounts : ((0 < row.long) × (row.short ≡ 0)) ⊎ ((row.long ≡ 0) × (0 < row.short)) → row.long ≤ most_amount → row.short ≤ most_amount → amounts_refusal row ≡ 0
  unfolding amounts_refusal
  clean_amounts one long short = simp (one_test row.long row.short one, le-ltb _ _ long, le-ltb _ _ short)

-- ---- days and coupon, or the two maturities of a note
module _ (class : ℕ) (row : Row) where
  terms_allowed : terms_refusal class row ≡ 0 → Terms class row.kind row.days row.coupon
  unfolding terms_refusal note_refusal plain_refusal
  terms_allowed = go (floating class row.kind) refl
    where
      go : (test : Bool) → floating class row.kind ≡ test → cond test (note_refusal row) (plain_refusal class row) ≡ 0 → Terms class row.kind row.days row.coupon
      go true t e =
          let late = neither _ _ (untaken _ 14 0 e).0 in
          let ends = neither _ _ late.1 in
          note t (ltb-false _ _ late.0) (ltb-false _ _ ends.0) (ltb-false _ _ ends.1)
      go false t e =
          let of-days = untaken _ 5 _ e in
          plain t (ltb-false _ _ of-days.0) (ltb-false _ _ (untaken _ 6 0 of-days.1).0)

  allowed-terms : Terms class row.kind row.days row.coupon → terms_refusal class row ≡ 0
  unfolding terms_refusal note_refusal plain_refusal
  allowed-terms (plain t days coupon) = simp (t, le-ltb _ _ days, le-ltb _ _ coupon)
  allowed-terms (note t fixing final order) = simp (t, le-ltb _ _ fixing, le-ltb _ _ final, le-ltb _ _ order)

-- ---- the whole row
module _ (class : ℕ) (row : Row) where
  pub passes_clean : row_refusal class row ≡ 0 → Clean class row
  unfolding row_refusal group_refusal
  passes_clean e =
      let past5 = none_of _ _ e in
      let past7 = none_of _ _ past5.1 in
      let of-group = untaken _ 3 _ past5.0 in
      let of-kind = neither _ _ (untaken _ 4 0 of-group.1).0 in
      let of-amounts = amounts_clean row past7.1 in
      record {
        group = ltb-false _ _ of-group.0;
        kind_from = ltb-false _ _ of-kind.0;
        kind_to = ltb-false _ _ of-kind.1;
        terms = terms_allowed class row past7.0;
        one_side = of-amounts.0;
        long = of-amounts.1.0;
        short = of-amounts.1.1;
      }

  pub clean_passes : Clean class row → row_refusal class row ≡ 0
  unfolding row_refusal group_refusal or_else
  clean_passes clean =
      simp (
        le-ltb _ _ clean.group,
        le-ltb _ _ clean.kind_from,
        le-ltb _ _ clean.kind_to,
        allowed-terms class row clean.terms,
        clean_amounts row clean.one_side clean.long clean.short,
      )
