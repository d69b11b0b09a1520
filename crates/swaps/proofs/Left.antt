-- The rows that are left when pairs that fit are dropped: some of the rows in their order, all rows of other kinds among them, no two that fit; and offset
-- again they stay as they are.
-- Assumes nothing.
use Prim.Native.Nat.{◌≤◌}
use mathlib.Core.Path.{◌≡◌, refl, sym, subst, ◌∙◌}
use mathlib.Core.Bool.{Bool, true, false, cond, ◌||◌, false≢true}
use mathlib.Core.List.Sublistᴰ
use mathlib.Core.List.{List, [], ◌∷◌, Memᴰ, Sublistᴰ}
use native.Mathlib.Omega.{arith}
use lib.ListN.{length}
use Rattle.sums.specs.Every.{Every, none, also}
use Rattle.sums.proofs.Cases.{neither}
use Rattle.sums.proofs.Every.{every_member}
use Rattle.book.specs.declared.Row.{Row}
use Rattle.swaps.specs.Fitting.{government, fits}
use Rattle.swaps.specs.Offset.{some_fits, without_fit, offset_from, offset_rows, other_kinds}
use Rattle.swaps.proofs.Fitting.{fits-government, fits-symmetric}
use Rattle.swaps.proofs.Stepping.{without_fewer, offset_next, Leaves, nothing, dropped, stays, leaves}

-- ---- they are some of the rows, in their order
without_some : (row : Row) (rows : List Row) → Sublistᴰ (without_fit row rows) rows
unfolding without_fit
without_some row [] = Sublistᴰ.slnil
without_some row (later ∷ rows) = go (fits row later) (without_some row rows)
  where
    go : (test : Bool) → Sublistᴰ (without_fit row rows) rows → Sublistᴰ (cond test rows (later ∷ without_fit row rows)) (later ∷ rows)
    go true less = Sublistᴰ.cons (Sublistᴰ.refl rows)
    go false less = Sublistᴰ.cons-cons refl less

leaves-some : {rows left : List Row} → Leaves rows left → Sublistᴰ left rows
leaves-some nothing = Sublistᴰ.slnil
leaves-some (dropped {row} {rows} some rest) = Sublistᴰ.cons (Sublistᴰ.trans (leaves-some rest) (without_some row rows))
leaves-some (stays no_one rest) = Sublistᴰ.cons-cons refl (leaves-some rest)

pub offset_some : (rows : List Row) → Sublistᴰ (offset_rows rows) rows
offset_some rows = leaves-some (leaves rows)

-- what holds of every row holds of every row that is left
some_every : {P : Row → Type 0} {rows left : List Row} → Sublistᴰ left rows → Every P rows → Every P left
some_every Sublistᴰ.slnil none = none
some_every (Sublistᴰ.cons some) (also p every) = some_every some every
some_every {P} (Sublistᴰ.cons-cons e some) (also p every) = also (subst P (sym e) p) (some_every some every)

pub offset_every : {P : Row → Type 0} {rows : List Row} → Every P rows → Every P (offset_rows rows)
offset_every {rows} = some_every (offset_some rows)

-- ---- there are no more rows than before
leaves-fewer : {rows left : List Row} → Leaves rows left → length left ≤ length rows
leaves-fewer nothing = omega arith
leaves-fewer (dropped {row} {rows} some rest) = omega (arith, leaves-fewer rest, without_fewer row rows)
leaves-fewer (stays no_one rest) = omega (arith, leaves-fewer rest)

pub offset_fewer : (rows : List Row) → length (offset_rows rows) ≤ length rows
offset_fewer rows = leaves-fewer (leaves rows)

-- ---- the rows of other kinds are the same, in the same order
-- a government row is none of them
others-past : (row : Row) (rows : List Row) → government row ≡ true → other_kinds (row ∷ rows) ≡ other_kinds rows
unfolding other_kinds
others-past row rows e = rw e

others_same : (row : Row) (rows left : List Row) → other_kinds left ≡ other_kinds rows → other_kinds (row ∷ left) ≡ other_kinds (row ∷ rows)
unfolding other_kinds
others_same row rows left e = rw e

others-without : (row : Row) (rows : List Row) → other_kinds (without_fit row rows) ≡ other_kinds rows
unfolding without_fit
others-without row [] = refl
others-without row (later ∷ rows) = go (fits row later) refl (others-without row rows)
  where
    go : (test : Bool) → fits row later ≡ test → other_kinds (without_fit row rows) ≡ other_kinds rows
        → other_kinds (cond test rows (later ∷ without_fit row rows)) ≡ other_kinds (later ∷ rows)
    go true e same = sym (others-past later rows (fits-government row later e).1)
    go false e same = others_same later rows (without_fit row rows) same

-- a row that some row fits is a government row
some_government : (row : Row) (rows : List Row) → some_fits row rows ≡ true → government row ≡ true
unfolding some_fits
some_government row [] e = absurd (false≢true e)
some_government row (later ∷ rows) e = go (fits row later) refl e (some_government row rows)
  where
    go : (test : Bool) → fits row later ≡ test → (test || some_fits row rows) ≡ true → (some_fits row rows ≡ true → government row ≡ true) → government row ≡ true
    go true fit some later-fits = (fits-government row later fit).0
    go false fit some later-fits = later-fits some

leaves-others : {rows left : List Row} → Leaves rows left → other_kinds left ≡ other_kinds rows
leaves-others nothing = refl
leaves-others (dropped {row} {rows} some rest) =
    leaves-others rest ∙ others-without row rows ∙ sym (others-past row rows (some_government row rows some))
leaves-others (stays {row} {rows} {left} no_one rest) = others_same row rows left (leaves-others rest)

pub offset_others : (rows : List Row) → other_kinds (offset_rows rows) ≡ other_kinds rows
offset_others rows = leaves-others (leaves rows)

-- ---- no two of the rows that are left fit: none a later one
pub data NoneFit : List Row → Type 0 where
  no_rows : NoneFit []
  one_more : {row : Row} {rows : List Row} → Every (λ later. fits row later ≡ false) rows → NoneFit rows → NoneFit (row ∷ rows)

none_fits : (row : Row) (rows : List Row) → some_fits row rows ≡ false → Every (λ later. fits row later ≡ false) rows
unfolding some_fits
none_fits row [] e = none
none_fits row (later ∷ rows) e = let parts = neither _ _ e in also parts.0 (none_fits row rows parts.1)

leaves-none_fit : {rows left : List Row} → Leaves rows left → NoneFit left
leaves-none_fit nothing = no_rows
leaves-none_fit (dropped some rest) = leaves-none_fit rest
leaves-none_fit (stays {row} {rows} no_one rest) = one_more (some_every (leaves-some rest) (none_fits row rows no_one)) (leaves-none_fit rest)

pub offset_none_fit : (rows : List Row) → NoneFit (offset_rows rows)
offset_none_fit rows = leaves-none_fit (leaves rows)

-- so none of them fits any of them, where none fits itself
pub none_fits_any : {rows : List Row} → NoneFit rows → Every (λ row. fits row row ≡ false) rows
    → (a b : Row) → Memᴰ a rows → Memᴰ b rows → fits a b ≡ false
none_fits_any (one_more apart rest) (also alone more) a b (Memᴰ.head own) (Memᴰ.head own') = rw (own, own') alone
none_fits_any (one_more apart rest) (also alone more) a b (Memᴰ.head own) (Memᴰ.tail later) = rw own (every_member apart b later)
none_fits_any (one_more apart rest) (also alone more) a b (Memᴰ.tail later) (Memᴰ.head own) = fits-symmetric a b ∙ rw own (every_member apart a later)
none_fits_any (one_more apart rest) (also alone more) a b (Memᴰ.tail later) (Memᴰ.tail later') = none_fits_any rest more a b later later'
none_fits_any no_rows _ a b x8 _ = elim x8 [ ]

-- ---- rows of which no two fit stay as they are
fits-none : (row : Row) {rows : List Row} → Every (λ later. fits row later ≡ false) rows → some_fits row rows ≡ false
unfolding some_fits
fits-none row none = refl
fits-none row (also e rest) = rw e (fits-none row rest)

pub none_fit_stays : {rows : List Row} → NoneFit rows → offset_rows rows ≡ rows
unfolding offset_from
none_fit_stays no_rows = refl
none_fit_stays (one_more {row} {rows} apart rest) = offset_next row rows ∙ rw (fits-none row apart, none_fit_stays rest)

-- so offsetting a second time changes nothing
pub offset_again : (rows : List Row) → offset_rows (offset_rows rows) ≡ offset_rows rows
offset_again rows = none_fit_stays (offset_none_fit rows)
