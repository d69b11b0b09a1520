-- The places of a class hold its nets: with them its rows are the netted rows.
-- Assumes nothing.
use mathlib.Core.Path.{◌≡◌, refl, sym, ap, subst, ◌∙◌}
use mathlib.Core.Bool.{Bool, true, false, cond}
use mathlib.Core.Logic.{◌⊎◌, inl, inr}
use mathlib.Core.List.{List, [], ◌∷◌}
use Prim.Native.Nat.{ℕ, suc, ◌+◌, ◌≤◌, ◌<◌}
use native.Mathlib.Nat.{add-zero, add-suc, suc-add}
use native.Mathlib.Omega.{arith}
use lib.Dec.{eqb}
use lib.ListN.{length}
use borrow.Author.Tests.{eqb-true, eqb-false}
use Rattle.sums.specs.Every.{Every, also}
use Rattle.book.specs.declared.Row.{Row}
use Rattle.book.specs.Refusals.{most_amount}
use Rattle.book.specs.Accepted.{Clean}
use Rattle.ladder.specs.declared.positions.Position.{Position}
use Rattle.ladder.specs.Position.{Bands, empty, gross, matched, net}
use Rattle.ladder.proofs.Matching.{same_position, net-sides}
use Rattle.issues.specs.Issues.{issues_of, has, placed, netted_from, netted_rows}
use Rattle.netting.specs.Inner.Gathering.{Holds}
use Rattle.amounts.specs.declared.positions.Amounts.{Amounts}
use Rattle.amounts.specs.Inner.Own.{amounts_of}
use Rattle.amounts.proofs.Standing.{placed-own, clean_some, clean_within}
use Rattle.amounts.specs.Inner.Standing.{positions_in, standing_rows}
use Rattle.netting.proofs.Adding.{no_long, no_short}
use Rattle.netting.proofs.Entries.{seen_sum, unseen, rest_same, rest_new, here_own, here_seen, here_new}

-- ---- what stands at the places of some rows, after others whose issues were seen
abbrev pub seen_position : List ℕ → List Row → ℕ → Position
seen_position seen rows k = record { long = seen_sum (λ r. r.long) seen rows k; short = seen_sum (λ r. r.short) seen rows k }

pub record Stands (f : Bands) (seen : List ℕ) (at : ℕ) (rows : List Row) : Type 0 where
  pub each : (k : ℕ) → k < length rows → f (at + k) ≡ seen_position seen rows k

-- a row, and the rows after it
module _ (f : Bands) (seen : List ℕ) (at : ℕ) (row : Row) (rows : List Row) (stands : Stands f seen at (row ∷ rows)) where
  here : f at ≡ seen_position seen (row ∷ rows) 0
  here = ap f (sym (add-zero at)) ∙ stands.each 0 (omega arith)

  beyond : (seen' : List ℕ) → ((k : ℕ) → seen_position seen (row ∷ rows) (suc k) ≡ seen_position seen' rows k) → Stands f seen' (suc at) rows
  beyond seen' same = record { each = λ k h. rw (suc-add, ← add-suc) (stands.each (suc k) (omega arith) ∙ same k) }

  module _ (hidden : (x : ℕ) → eqb x 0 ≡ false → eqb row.issue x ≡ true → has seen x ≡ true) where
    pub stands_same : Stands f seen (suc at) rows
    stands_same = beyond seen (λ k. rw (rest_same (λ r. r.long) seen row rows hidden k, rest_same (λ r. r.short) seen row rows hidden k))

    pub stands_own : row.issue ≡ 0 → f at ≡ amounts_of row
    stands_own none' = here ∙ rw (here_own (λ r. r.long) seen row rows hidden none', here_own (λ r. r.short) seen row rows hidden none')

    pub stands_nothing : (row.issue ≡ 0 → ⊥) → has seen row.issue ≡ true → f at ≡ empty
    stands_nothing some old = here ∙ rw (here_seen (λ r. r.long) seen row rows hidden some old, here_seen (λ r. r.short) seen row rows hidden some old)

  module _ (some : row.issue ≡ 0 → ⊥) where
    pub stands_new : Stands f (row.issue ∷ seen) (suc at) rows
    stands_new = beyond (row.issue ∷ seen) (λ k. rw (rest_new (λ r. r.long) seen row rows some k, rest_new (λ r. r.short) seen row rows some k))

    pub stands_issue : has seen row.issue ≡ false → f at ≡ issues_of (row ∷ rows) row.issue
    stands_issue new = here ∙ rw (here_new (λ r. r.long) seen row rows some new, here_new (λ r. r.short) seen row rows some new)

-- a row of issue 0 hides nothing, and one whose issue was seen only what was seen
pub none_hidden : (seen : List ℕ) (i : ℕ) → i ≡ 0 → (x : ℕ) → eqb x 0 ≡ false → eqb i x ≡ true → has seen x ≡ true
none_hidden seen i none' x ez eo = absurd (eqb-false x 0 ez (sym (eqb-true i x eo) ∙ none'))

pub seen_hidden : (seen : List ℕ) (i : ℕ) → has seen i ≡ true → (x : ℕ) → eqb x 0 ≡ false → eqb i x ≡ true → has seen x ≡ true
seen_hidden seen i old x ez eo = subst (λ (j : ℕ). has seen j ≡ true) (eqb-true i x eo) old

-- ---- a row that is long or short keeps its amounts
pub record OneSided (row : Row) : Type 0 where
  pub is_net : net (amounts_of row) ≡ amounts_of row
  pub some : gross (amounts_of row) ≡ 0 → ⊥
  pub within : gross (amounts_of row) ≤ most_amount

net-of_longs : (a : Position) → a.short ≡ 0 → net a ≡ a
net-of_longs a e = same_position (omega (arith, net-sides a)) (omega (arith, net-sides a))

net-of_shorts : (a : Position) → a.long ≡ 0 → net a ≡ a
net-of_shorts a e = same_position (omega (arith, net-sides a)) (omega (arith, net-sides a))

pub clean_sided : {class : ℕ} {row : Row} → Clean class row → OneSided row
clean_sided {class} {row} clean = record { is_net = go clean.one_side; some = clean_some clean; within = clean_within clean }
  where
    go : ((0 < row.long) × (row.short ≡ 0)) ⊎ ((row.long ≡ 0) × (0 < row.short)) → net (amounts_of row) ≡ amounts_of row
    go (inl h) = net-of_longs (amounts_of row) h.1
    go (inr h) = net-of_shorts (amounts_of row) h.0

placed-nothing : (row : Row) (more : List Row) → placed row (net empty) more ≡ more
unfolding placed net matched
placed-nothing row more = refl

-- ---- the rows with their nets
settled-from : (f : Bands) (seen : List ℕ) (at : ℕ) (rows : List Row) → Stands f seen at rows → Every OneSided rows → standing_rows (λ k. net (f k)) at rows ≡ netted_from seen rows
unfolding standing_rows netted_from
settled-from f seen at [] stands sided = refl
settled-from f seen at (row ∷ rows) stands (also own sided) =
    go (eqb row.issue 0) refl (has seen row.issue) refl (λ seen' later. settled-from f seen' (suc at) rows later sided)
  where
    i : ℕ
    i = row.issue

    go : (zero? : Bool) → eqb i 0 ≡ zero? → (old? : Bool) → has seen i ≡ old?
        → ((seen' : List ℕ) → Stands f seen' (suc at) rows → standing_rows (λ k. net (f k)) (suc at) rows ≡ netted_from seen' rows)
        → placed row (net (f at)) (standing_rows (λ k. net (f k)) (suc at) rows)
        ≡ cond zero? (row ∷ netted_from seen rows)
        (cond old? (netted_from seen rows) (placed row (net (issues_of (row ∷ rows) i)) (netted_from (i ∷ seen) rows)))
    go true e old? o on =
        let hidden = none_hidden seen i (eqb-true i 0 e) in
        rw (stands_own f seen at row rows stands hidden (eqb-true i 0 e), on seen (stands_same f seen at row rows stands hidden), own.is_net)
        (placed-own row own.some (netted_from seen rows))
    go false e true o on =
        let hidden = seen_hidden seen i o in
        rw (stands_nothing f seen at row rows stands hidden (eqb-false i 0 e) o, on seen (stands_same f seen at row rows stands hidden)) (placed-nothing row (netted_from seen rows))
    go false e false o on =
        let some = eqb-false i 0 e in
        rw (stands_issue f seen at row rows stands some o, on (i ∷ seen) (stands_new f seen at row rows stands some))

-- ---- from the sums
pub from_sums : (amounts : Amounts) (first : ℕ) (rows : List Row) → Holds first rows amounts → Stands (positions_in amounts) [] first rows
from_sums amounts first rows holds =
    record {
      each = λ k h.
          same_position (holds.longs_at k h ∙ unseen (λ r. r.long) no_long rows k) (holds.shorts_at k h ∙ unseen (λ r. r.short) no_short rows k);
    }

pub settled-netted : (amounts : Amounts) (first : ℕ) (rows : List Row) → Holds first rows amounts → Every OneSided rows
    → standing_rows (λ k. net (positions_in amounts k)) first rows ≡ netted_rows rows
settled-netted amounts first rows holds sided = settled-from _ [] first rows (from_sums amounts first rows holds) sided
