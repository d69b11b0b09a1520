-- Each netted row is a row of issue 0 or a first row with the net of its issue: so its class allows it, and it lies where a row lay.
-- Assumes nothing.
use Prim.Native.Nat.{ℕ, ◌<◌}
use mathlib.Core.Path.{◌≡◌, refl, sym, ap, ◌∙◌}
use mathlib.Core.Bool.{Bool, true, false, true≢false}
use mathlib.Core.Logic.{◌⊎◌, inl, inr}
use mathlib.Core.List.Memᴰ
use mathlib.Core.List.{List, [], ◌∷◌, ◌++◌, Memᴰ}
use native.Mathlib.Decide.{ℕ_discrete}
use native.Mathlib.Omega.{arith}
use lib.Dec.{leb}
use borrow.Author.Tests.{leb-true, leb-false}
use Rattle.sums.specs.Every.{Every, none, also}
use Rattle.sums.proofs.Every.{every_append, every_implied, every_member}
use Rattle.book.specs.declared.Row.{Row}
use Rattle.book.specs.Accepted.{Clean}
use Rattle.ladder.specs.declared.positions.Position.{Position}
use Rattle.ladder.specs.Position.{gross, net}
use Rattle.ladder.specs.Rows.{Reading, Used, AtMostTwoZones}
use Rattle.ladder.proofs.Matching.{net-sides}
use Rattle.issues.specs.Issues.{issues_of, has, holding, placed, netted_from, netted_rows}
use Rattle.issues.specs.Agreeing.{CanBeNetted}
use Rattle.issues.proofs.Walking.{has-own, has_other, amounts, issue_other, Place, stays, gone, stands, place, row_stays, row_gone, row_stands, placed-none, placed-some}
use Rattle.issues.proofs.Counted.{bare}

-- what a netted row is
pub data Kept (rows : List Row) : Row → Type 0 where
  as_it_was : {row : Row} → Memᴰ row rows → row.issue ≡ 0 → Kept rows row
  with_net : {row : Row} → Memᴰ row rows → (row.issue ≡ 0 → ⊥) → (gross (net (issues_of rows row.issue)) ≡ 0 → ⊥)
      → Kept rows (holding row (net (issues_of rows row.issue)))

placed-every : {P : Row → Type 0} (row : Row) (x : Position) {more : List Row} → ((gross x ≡ 0 → ⊥) → P (holding row x)) → Every P more → Every P (placed row x more)
placed-every {P} row x {more} p rest = go (ℕ_discrete (gross x) 0)
  where
    go : Dec (gross x ≡ 0) → Every P (placed row x more)
    go (yes nil) = rw (placed-none row x more nil) rest
    go (no some) = rw (placed-some row x more some) (also (p some) rest)

-- the sums of an issue that was not seen are those of all rows
kept_from : (all : List Row) (seen : List ℕ) (rows : List Row) → ((row : Row) → Memᴰ row rows → Memᴰ row all)
    → ((i : ℕ) → (i ≡ 0 → ⊥) → has seen i ≡ false → issues_of rows i ≡ issues_of all i) → Every (Kept all) (netted_from seen rows)
unfolding netted_from
kept_from all seen [] member same = none
kept_from all seen (row ∷ rows) member same =
    go (place seen row) (kept_from all seen rows later) (kept_from all (row.issue ∷ seen) rows later)
  where
    j : ℕ
    j = row.issue

    Sums : List ℕ → Type 0
    Sums old = (i : ℕ) → (i ≡ 0 → ⊥) → has old i ≡ false → issues_of rows i ≡ issues_of all i

    later : (r : Row) → Memᴰ r rows → Memᴰ r all
    later r m = member r (Memᴰ.tail m)

    other_sums : (i : ℕ) → (j ≡ i → ⊥) → (i ≡ 0 → ⊥) → has seen i ≡ false → issues_of rows i ≡ issues_of all i
    other_sums i other some new = sym (issue_other row rows i other) ∙ same i some new

    go : Place seen row → (Sums seen → Every (Kept all) (netted_from seen rows)) → (Sums (j ∷ seen) → Every (Kept all) (netted_from (j ∷ seen) rows))
        → Every (Kept all) (netted_from seen (row ∷ rows))
    go (stays e) on rest =
        rw (row_stays seen row rows e)
        (also (as_it_was (member row (Memᴰ.head refl)) e) (on (λ i some. other_sums i (λ own. some (sym own ∙ e)) some)))
    go (gone some old) on rest =
        rw (row_gone seen row rows some old) (on (λ i some' new. other_sums i (λ own. true≢false (sym old ∙ ap (has seen) own ∙ new)) some' new))
    go (stands some new) on rest =
        let left = rest (λ i some' new'.
        let other : j ≡ i → ⊥ = λ own. true≢false (sym (has-own j seen) ∙ ap (has (j ∷ seen)) own ∙ new') in
        other_sums i other some' (sym (has_other j i seen other) ∙ new')) in
        rw (row_stands seen row rows some new, same j some new)
        (placed-every row (net (issues_of all j)) (with_net (member row (Memᴰ.head refl)) some) left)

pub netted_kept : (rows : List Row) → Every (Kept rows) (netted_rows rows)
netted_kept rows = kept_from rows [] rows (λ row member. member) (λ i some new. refl)

-- so one that has an issue number has the net of its issue
pub netted_net : (rows : List Row) (row : Row) → Memᴰ row (netted_rows rows) → (row.issue ≡ 0 → ⊥) → net (issues_of rows row.issue) ≡ amounts row
netted_net rows row member some = of (every_member (netted_kept rows) row member) some
  where
    of : {row : Row} → Kept rows row → (row.issue ≡ 0 → ⊥) → net (issues_of rows row.issue) ≡ amounts row
    of (as_it_was was nil) some = absurd (some nil)
    of (with_net was issued left) some = refl

-- ---- its class allows it
one_side_left : (a : Position) → (gross (net a) ≡ 0 → ⊥) → ((0 < (net a).long) × ((net a).short ≡ 0)) ⊎ (((net a).long ≡ 0) × (0 < (net a).short))
one_side_left a some = go (leb a.long a.short) refl
  where
    go : (test : Bool) → leb a.long a.short ≡ test → ((0 < (net a).long) × ((net a).short ≡ 0)) ⊎ (((net a).long ≡ 0) × (0 < (net a).short))
    go true e = inr (omega (arith, leb-true a.long a.short e, net-sides a))
    go false e = inl (omega (arith, leb-false a.long a.short e, net-sides a))

pub netted_clean : (class : ℕ) (rows : List Row) → Every (Clean class) rows → CanBeNetted rows → Every (Clean class) (netted_rows rows)
netted_clean class rows clean can = every_implied (λ row. of) (netted_kept rows)
  where
    of : {row : Row} → Kept rows row → Clean class row
    of (as_it_was {row} member e) = every_member clean row member
    of (with_net {row} member some left) =
        let was = every_member clean row member in
        let within = can.within row member some in
        record {
          group = was.group;
          kind_from = was.kind_from;
          kind_to = was.kind_to;
          terms = was.terms;
          one_side = one_side_left (issues_of rows row.issue) left;
          long = omega arith;
          short = omega arith;
        }

-- ---- it lies where a row lay
-- a row that has bytes 0 to 7 of one of some rows
pub record From (rows : List Row) (row : Row) : Type 0 where
  pub one : Row
  pub is_row : Memᴰ one rows
  pub alike : bare row ≡ bare one

pub netted_from_lem : (rows : List Row) → Every (From rows) (netted_rows rows)
netted_from_lem rows = every_implied (λ row. of) (netted_kept rows)
  where
    of : {row : Row} → Kept rows row → From rows row
    of (as_it_was {row} member e) = record { one = row; is_row = member; alike = refl }
    of (with_net {row} member some left) = record { one = row; is_row = member; alike = refl }

both_from : (rows more : List Row) → Every (From (rows ++ more)) (netted_rows rows ++ netted_rows more)
both_from rows more =
    every_append
    (every_implied (λ row f. record { one = f.one; is_row = Memᴰ.append_left more f.is_row; alike = f.alike }) (netted_from_lem rows))
    (every_implied (λ row f. record { one = f.one; is_row = Memᴰ.append_right rows f.is_row; alike = f.alike }) (netted_from_lem more))

-- so no zone comes into use
module _ (read : Reading Row) (group : (row : Row) → read.group row ≡ read.group (bare row)) (band : (row : Row) → read.band row ≡ read.band (bare row)) where
  used_before : {rows rows' : List Row} → Every (From rows) rows' → {currency : ℕ} {zone : List ℕ} → Used read rows' currency zone → Used read rows currency zone
  used_before all u =
      let from = every_member all u.row u.is_row in
      record {
        row = from.one;
        is_row = from.is_row;
        of_currency = group from.one ∙ ap read.group (sym from.alike) ∙ sym (group u.row) ∙ u.of_currency;
        lies_in = rw (band from.one, ← from.alike, ← (band u.row)) u.lies_in;
      }

  pub netted_two_zones : (rows more : List Row) (currency : ℕ) → AtMostTwoZones read (rows ++ more) currency
      → AtMostTwoZones read (netted_rows rows ++ netted_rows more) currency
  unfolding AtMostTwoZones
  netted_two_zones rows more currency most first second third =
      let all = both_from rows more in
      most (used_before all first) (used_before all second) (used_before all third)
