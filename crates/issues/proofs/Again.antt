-- Rows that were netted can be netted again, which changes nothing, also when some of them were taken away.
-- Assumes nothing.
use Prim.Native.Nat.{ℕ, ◌≤◌}
use mathlib.Core.Path.{◌≡◌, refl, sym, ap, ◌∙◌}
use mathlib.Core.Bool.{true, false, true≢false}
use mathlib.Core.List.Sublistᴰ
use mathlib.Core.List.{List, [], ◌∷◌, Memᴰ, Sublistᴰ}
use native.Mathlib.Decide.{ℕ_discrete}
use native.Mathlib.Omega.{arith}
use Rattle.sums.specs.Sums.{sum_of, sum_at}
use Rattle.book.specs.declared.Row.{Row}
use Rattle.ladder.specs.declared.positions.Position.{Position}
use Rattle.ladder.specs.Position.{empty, gross, net, ◌⊕◌}
use Rattle.ladder.proofs.Matching.{same_position, net-sides}
use Rattle.issues.specs.Issues.{issues_of, has, holding, placed, netted_from, netted_rows}
use Rattle.issues.specs.Agreeing.{CanBeNetted}
use Rattle.sums.proofs.Every.{every_member}
use Rattle.issues.proofs.Walking.{has-own, has_other, issue_own, issue_other, Place, stays, gone, stands, place, row_stays, row_gone, row_stands, placed-none, placed-some}
use Rattle.issues.proofs.Counted.{same_bare, bare_terms}
use Rattle.issues.proofs.Kept.{netted_net, netted_from_lem}

-- ---- nothing changes
placed-other : (row : Row) (x : Position) (more : List Row) (i : ℕ) → (row.issue ≡ i → ⊥) → issues_of (placed row x more) i ≡ issues_of more i
placed-other row x more i other = go (ℕ_discrete (gross x) 0)
  where
    go : Dec (gross x ≡ 0) → issues_of (placed row x more) i ≡ issues_of more i
    go (yes nil) = rw (placed-none row x more nil)
    go (no some) = rw (placed-some row x more some) (issue_other (holding row x) more i other)

-- no netted row is of an issue that was seen
none_seen : (seen : List ℕ) (rows : List Row) (i : ℕ) → (i ≡ 0 → ⊥) → has seen i ≡ true → issues_of (netted_from seen rows) i ≡ empty
unfolding netted_from sum_of
none_seen seen [] i some old = refl
none_seen seen (row ∷ rows) i some old = go (place seen row) (none_seen seen rows i some old) (none_seen (row.issue ∷ seen) rows i some)
  where
    go : Place seen row → issues_of (netted_from seen rows) i ≡ empty → (has (row.issue ∷ seen) i ≡ true → issues_of (netted_from (row.issue ∷ seen) rows) i ≡ empty)
        → issues_of (netted_from seen (row ∷ rows)) i ≡ empty
    go (stays e) same rest = rw (row_stays seen row rows e, issue_other row (netted_from seen rows) i (λ own. some (sym own ∙ e))) same
    go (gone some' old') same rest = rw (row_gone seen row rows some' old') same
    go (stands some' new) same rest =
        let other : row.issue ≡ i → ⊥ = λ own. true≢false (sym old ∙ ap (has seen) (sym own) ∙ new) in
        rw (row_stands seen row rows some' new, placed-other row (net (issues_of (row ∷ rows) row.issue)) (netted_from (row.issue ∷ seen) rows) i other)
        (rest (has_other row.issue i seen other ∙ old))

-- and so none of some of them
fewer_sum : {left rows : List Row} (amount : Row → ℕ) (i : ℕ) → Sublistᴰ left rows → sum_at (λ row. row.issue) amount i left ≤ sum_at (λ row. row.issue) amount i rows
unfolding sum_of
fewer_sum amount i Sublistᴰ.slnil = omega arith
fewer_sum amount i (Sublistᴰ.cons part) = omega (arith, fewer_sum amount i part)
fewer_sum amount i (Sublistᴰ.cons-cons e part) = rw e (omega (arith, fewer_sum amount i part))

none_left : {left rows : List Row} (i : ℕ) → Sublistᴰ left rows → issues_of rows i ≡ empty → issues_of left i ≡ empty
none_left {rows} i part none =
    let long : (issues_of rows i).long ≡ 0 = ap (λ (x : Position). x.long) none in
    let short : (issues_of rows i).short ≡ 0 = ap (λ (x : Position). x.short) none in
    same_position (omega (arith, fewer_sum (λ row. row.long) i part)) (omega (arith, fewer_sum (λ row. row.short) i part))

net-again : (a : Position) → net (net a) ≡ net a
net-again a = same_position (omega (arith, net-sides a, net-sides (net a))) (omega (arith, net-sides a, net-sides (net a)))

-- an issue that is met once, with a net
net-alone : (row : Row) (a : Position) (rows : List Row) → issues_of rows row.issue ≡ empty → net (issues_of (holding row (net a) ∷ rows) row.issue) ≡ net a
net-alone row a rows none =
    ap net
    (issue_own (holding row (net a)) rows row.issue refl
    ∙ ap (λ (x : Position). net a ⊕ x) none
    ∙ same_position (omega arith) (omega arith))
    ∙ net-again a

-- whichever of some rows are left, netted after others whose issues were seen they stay as they are
abbrev Stay : List ℕ → List Row → Type 0
Stay seen rows = (left : List Row) → Sublistᴰ left rows → netted_from seen left ≡ left

-- of a row and later ones some of the later ones are left, with the row or without it
with_or_without : {row : Row} {rows : List Row} (seen : List ℕ) → Stay seen rows
    → ((left : List Row) → Sublistᴰ left rows → netted_from seen (row ∷ left) ≡ row ∷ left) → Stay seen (row ∷ rows)
with_or_without seen without with left (Sublistᴰ.cons part) = without left part
with_or_without seen without with (first ∷ left) (Sublistᴰ.cons-cons e part) = rw e (with left part)

again_from : (seen seen' : List ℕ) (rows : List Row) → ((i : ℕ) → has seen' i ≡ false → has seen i ≡ false) → Stay seen (netted_from seen' rows)
unfolding netted_from
again_from seen seen' [] fewer = λ left part. rw (Sublistᴰ.eq-nil part)
again_from seen seen' (row ∷ rows) fewer =
    go (place seen' row) (again_from seen seen' rows fewer)
    (again_from seen (j ∷ seen') rows (λ i new. fewer i (later i new)))
    (again_from (j ∷ seen) (j ∷ seen') rows (λ i new. has_other j i seen (apart i new) ∙ fewer i (later i new)))
  where
    j : ℕ
    j = row.issue

    apart : (i : ℕ) → has (j ∷ seen') i ≡ false → j ≡ i → ⊥
    apart i new own = true≢false (sym (has-own j seen') ∙ ap (has (j ∷ seen')) own ∙ new)

    later : (i : ℕ) → has (j ∷ seen') i ≡ false → has seen' i ≡ false
    later i new = sym (has_other j i seen' (apart i new)) ∙ new

    all : Position
    all = issues_of (row ∷ rows) j

    rest : List Row
    rest = netted_from (j ∷ seen') rows

    put : Dec (gross (net all) ≡ 0) → has seen j ≡ false → (j ≡ 0 → ⊥) → Stay seen rest → Stay (j ∷ seen) rest → Stay seen (placed row (net all) rest)
    put (yes nil) new some dropped kept = rw (placed-none row (net all) rest nil) dropped
    put (no more) new some dropped kept =
        rw (placed-some row (net all) rest more)
        (with_or_without seen dropped (λ left part. rw (
          row_stands seen (holding row (net all)) left some new,
          net-alone row all left (none_left j part (none_seen (j ∷ seen') rows j some (has-own j seen'))),
          placed-some (holding row (net all)) (net all) (netted_from (j ∷ seen) left) more,
          kept left part,
        )))

    go : Place seen' row → Stay seen (netted_from seen' rows) → Stay seen rest → Stay (j ∷ seen) rest → Stay seen (netted_from seen' (row ∷ rows))
    go (stays e) same dropped kept =
        rw (row_stays seen' row rows e) (with_or_without seen same (λ left part. rw (row_stays seen row left e, same left part)))
    go (gone some old) same dropped kept = rw (row_gone seen' row rows some old) same
    go (stands some new) same dropped kept =
        rw (row_stands seen' row rows some new) (put (ℕ_discrete (gross (net all)) 0) (fewer j new) some dropped kept)

-- some of the netted rows
pub some_again : (rows : List Row) {left : List Row} → Sublistᴰ left (netted_rows rows) → netted_rows left ≡ left
some_again rows {left} = again_from [] [] rows (λ i new. new) left

pub netted_again : (rows : List Row) → netted_rows (netted_rows rows) ≡ netted_rows rows
netted_again rows = some_again rows (Sublistᴰ.refl (netted_rows rows))

-- ---- they can be netted
some_member : {left rows : List Row} → Sublistᴰ left rows → (row : Row) → Memᴰ row left → Memᴰ row rows
some_member (Sublistᴰ.cons part) row member = Memᴰ.tail (some_member part row member)
some_member (Sublistᴰ.cons-cons e part) row (Memᴰ.head own) = Memᴰ.head (own ∙ e)
some_member (Sublistᴰ.cons-cons e part) row (Memᴰ.tail later) = Memᴰ.tail (some_member part row later)
some_member Sublistᴰ.slnil row member = elim member [ ]

pub some_can : (rows : List Row) → CanBeNetted rows → {left : List Row} → Sublistᴰ left (netted_rows rows) → CanBeNetted left
some_can rows can {left} part =
    record {
      terms = λ a b in-a in_b some e.
          let from-a = every_member (netted_from_lem rows) a (some_member part a in-a) in
          let from-b = every_member (netted_from_lem rows) b (some_member part b in_b) in
          let e-a = ap issue from-a.alike in
          let e' = sym e-a ∙ e ∙ ap issue from-b.alike in
          let same = can.terms from-a.one from-b.one from-a.is_row from-b.is_row (λ none. some (e-a ∙ none)) e' in
          bare_terms (from-a.alike ∙ same_bare e' same ∙ sym from-b.alike);
      within = λ a in-a some.
          let before = some_member part a in-a in
          let from = every_member (netted_from_lem rows) a before in
          let e = ap issue from.alike in
          let same = netted_net left a (rw (some_again rows part) in-a) some ∙ sym (netted_net rows a before some) in
          rw (same, e) (can.within from.one from.is_row (λ none. some (e ∙ none)));
    }
  where
    issue : Row → ℕ
    issue row = row.issue

pub netted_can : (rows : List Row) → CanBeNetted rows → CanBeNetted (netted_rows rows)
netted_can rows can = some_can rows can (Sublistᴰ.refl (netted_rows rows))
