-- What is known of a refused book by its number: 1 to 3 are refusals of the contents, 4 and more that of the row that is named.
-- Assumes nothing.
use mathlib.Core.Path.{◌≡◌, refl, ap}
use mathlib.Core.Bool.{Bool, true, false, cond, not, beq, ◌||◌}
use mathlib.Core.Logic.{◌⊎◌, inl, inr, ⊎_elim}
use mathlib.Core.List.{List, [], ◌∷◌}
use Prim.Native.Nat.{ℕ, suc, ◌+◌, ◌*◌, ◌≤◌, ◌<◌}
use native.Mathlib.Omega.{arith}
use lib.Dec.{ltb, eqb}
use lib.ListN.{length, drop}
use borrow.Author.Tests.{ltb-true, ltb-false, eqb-true, eqb-false}
use Rattle.sums.proofs.Cases.{either}
use Rattle.book.specs.Counts.{contents_size, row_size, counts_of, count_of_rows}
use Rattle.book.specs.Rows.{Row}
use Rattle.book.specs.Legs.{Leg, legs_of}
use Rattle.book.specs.Refusals.{Refusal, group_refusal, plain_refusal, note_refusal, terms_refusal, amounts_refusal, or_else, row_refusal}
use Rattle.book.specs.Refusals.{most_rows, last_group, most_amount, least_kind, most_kind, most_days, most_coupon, floating, most_fixing, most_final}
use Rattle.book.specs.Refusals.{contents_refusal, refused, first_refusal, refusal_of}
use Rattle.book.specs.Inner.Reading.{Sized}
use Rattle.book.proofs.Acceptance.{contents_sized}

-- ---- the contents
-- 1, 2 or 3, and what each of them says of the file
pub record TooMany (s : List ℕ) : Type 0 where
  pub contents : contents_size ≤ length s
  pub many : most_rows < count_of_rows (counts_of s)

pub record OtherLength (s : List ℕ) : Type 0 where
  pub contents : contents_size ≤ length s
  pub few : count_of_rows (counts_of s) ≤ most_rows
  pub other : length s ≡ contents_size + row_size * count_of_rows (counts_of s) → ⊥

pub contents_fault : (s : List ℕ) → (contents_refusal s ≡ 2 → TooMany s) × (contents_refusal s ≡ 3 → OtherLength s)
unfolding contents_refusal
contents_fault s = go (ltb (length s) contents_size) refl (ltb most_rows (count_of_rows (counts_of s))) refl (eqb (length s) (contents_size + row_size * count_of_rows (counts_of s))) refl
  where
    by : (short many sized : Bool) → ℕ
    by short many sized = cond short 1 (cond many 2 (cond (not sized) 3 0))

    go : (short : Bool) → ltb (length s) contents_size ≡ short → (many : Bool) → ltb most_rows (count_of_rows (counts_of s)) ≡ many
        → (sized : Bool) → eqb (length s) (contents_size + row_size * count_of_rows (counts_of s)) ≡ sized
        → (by short many sized ≡ 2 → TooMany s) × (by short many sized ≡ 3 → OtherLength s)
    go true t many u sized v = (λ e. let never : ⊥ = omega arith in absurd never, λ e. let never : ⊥ = omega arith in absurd never)
    go false t true u sized v = (λ e. record { contents = ltb-false _ _ t; many = ltb-true _ _ u }, λ e. let never : ⊥ = omega arith in absurd never)
    go false t false u true v = (λ e. let never : ⊥ = omega arith in absurd never, λ e. let never : ⊥ = omega arith in absurd never)
    go false t false u false v =
        (λ e. let never : ⊥ = omega arith in absurd never, λ e. record { contents = ltb-false _ _ t; few = ltb-false _ _ u; other = eqb-false _ _ v })

contents_most : (s : List ℕ) → contents_refusal s ≤ 3
unfolding contents_refusal
contents_most s =
    either (ltb (length s) contents_size) 1 _ (omega arith)
    (either (ltb most_rows (count_of_rows (counts_of s))) 2 _ (omega arith)
    (either (not (eqb (length s) (contents_size + row_size * count_of_rows (counts_of s)))) 3 0 (omega arith) (omega arith)))

-- none, or one of a row
OfRow : ℕ → Type 0
OfRow number = (number ≡ 0) ⊎ (4 ≤ number)

chosen : (test : Bool) (a b : ℕ) → OfRow a → OfRow b → OfRow (cond test a b)
chosen true a b h k = h
chosen false a b h k = k

first_of : (a b : ℕ) → OfRow a → OfRow b → OfRow (or_else a b)
unfolding or_else
first_of a b h k = chosen (eqb a 0) b a k h

row_number : (class : ℕ) (row : Row) → OfRow (row_refusal class row)
unfolding row_refusal group_refusal terms_refusal note_refusal plain_refusal amounts_refusal OfRow
row_number class row = first_of _ _ group (first_of _ _ (chosen (floating class row.kind) _ _ note plain) amounts)
  where
    test : (passes : Bool) (number : ℕ) {rest : ℕ} → 4 ≤ number → OfRow rest → OfRow (cond passes number rest)
    test passes number h k = chosen passes number _ (inr h) k

    group : OfRow (group_refusal class row)
    group =
        test (ltb last_group row.group) 4 (omega arith)
        (test (ltb row.kind (least_kind class) || ltb (most_kind class) row.kind) 5 (omega arith) (inl refl))

    note : OfRow (note_refusal row)
    note = test (ltb most_fixing row.days || (ltb most_final row.coupon || ltb row.coupon row.days)) 15 (omega arith) (inl refl)

    plain : OfRow (plain_refusal class row)
    plain = test (ltb (most_days class) row.days) 6 (omega arith) (test (ltb (most_coupon class) row.coupon) 7 (omega arith) (inl refl))

    amounts : OfRow (amounts_refusal row)
    amounts =
        test (beq (eqb row.long 0) (eqb row.short 0)) 8 (omega arith)
        (test (ltb most_amount row.long || ltb most_amount row.short) 9 (omega arith) (inl refl))

-- ---- the first bad leg, the legs numbered from a number on
pub record Bad (legs : List Leg) (row : ℕ) (refusal : Refusal) : Type 0 where
  pub at : ℕ
  pub leg : Leg
  pub within : at < length legs
  pub is_leg : drop at legs ≡ leg ∷ drop (suc at) legs
  pub row_is : refusal.row ≡ row + at
  pub number_is : refusal.number ≡ row_refusal leg.class leg.row
  pub bad : 4 ≤ refusal.number

first-bad : (row : ℕ) (legs : List Leg) → ((first_refusal row legs).number ≡ 0) ⊎ Bad legs row (first_refusal row legs)
unfolding first_refusal refused OfRow
first-bad row [] = inl refl
first-bad row (leg ∷ legs) = go (eqb number 0) refl (first-bad (suc row) legs)
  where
    number : ℕ
    number = row_refusal leg.class leg.row

    go : (passes : Bool) → eqb number 0 ≡ passes → ((first_refusal (suc row) legs).number ≡ 0) ⊎ Bad legs (suc row) (first_refusal (suc row) legs)
        → ((cond passes (first_refusal (suc row) legs) (refused number row)).number ≡ 0) ⊎ Bad (leg ∷ legs) row (cond passes (first_refusal (suc row) legs) (refused number row))
    go true t (inl passed) = inl passed
    go true t (inr later) =
        inr (record {
          at = suc later.at;
          leg = later.leg;
          within = omega (arith, later.within);
          is_leg = later.is_leg;
          row_is = omega (arith, later.row_is);
          number_is = later.number_is;
          bad = later.bad;
        })
    go false t later =
        inr (record {
          at = 0;
          leg = leg;
          within = omega arith;
          is_leg = refl;
          row_is = omega arith;
          number_is = refl;
          bad = ⊎_elim (λ none. absurd (eqb-false number 0 t none)) (λ some. some) (row_number leg.class leg.row);
        })

-- ---- a book
module _ (s : List ℕ) where
  -- its contents are refused, or the first bad row decides
  either_way : ((contents_refusal s ≡ 0) × (refusal_of s ≡ first_refusal 0 (legs_of s))) ⊎ (refusal_of s ≡ refused (contents_refusal s) 0)
  unfolding refusal_of
  either_way = go (eqb (contents_refusal s) 0) refl
    where
      go : (passes : Bool) → eqb (contents_refusal s) 0 ≡ passes
          → ((contents_refusal s ≡ 0) × (cond passes (first_refusal 0 (legs_of s)) (refused (contents_refusal s) 0) ≡ first_refusal 0 (legs_of s)))
          ⊎ (cond passes (first_refusal 0 (legs_of s)) (refused (contents_refusal s) 0) ≡ refused (contents_refusal s) 0)
      go true t = inl (eqb-true _ _ t, refl)
      go false t = inr refl

  -- 1 to 3
  pub of_contents : 0 < (refusal_of s).number → (refusal_of s).number < 4 → refusal_of s ≡ refused (contents_refusal s) 0
  of_contents some few = ⊎_elim by_row (λ is. is) either_way
    where
      by_row : (contents_refusal s ≡ 0) × (refusal_of s ≡ first_refusal 0 (legs_of s)) → refusal_of s ≡ refused (contents_refusal s) 0
      by_row is =
          let number = ap (λ (r : Refusal). r.number) is.1 in
          ⊎_elim (λ none. let never : ⊥ = omega arith in absurd never) (λ found. let never : ⊥ = omega (arith, found.bad) in absurd never) (first-bad 0 (legs_of s))

  -- 4 and more
  pub record RowRefused : Type 0 where
    pub sized : Sized s
    pub found : Bad (legs_of s) 0 (refusal_of s)

  pub of_row : 4 ≤ (refusal_of s).number → RowRefused
  unfolding refused
  of_row many = ⊎_elim by_row by_contents either_way
    where
      by_contents : refusal_of s ≡ refused (contents_refusal s) 0 → RowRefused
      by_contents is =
          let number = ap (λ (r : Refusal). r.number) is in
          let never : ⊥ = omega (arith, contents_most s) in absurd never

      by_row : (contents_refusal s ≡ 0) × (refusal_of s ≡ first_refusal 0 (legs_of s)) → RowRefused
      by_row is =
          let number = ap (λ (r : Refusal). r.number) is.1 in
          ⊎_elim (λ none. let never : ⊥ = omega arith in absurd never)
          (λ found. record { sized = contents_sized s is.0; found = rw is.1 found })
          (first-bad 0 (legs_of s))
