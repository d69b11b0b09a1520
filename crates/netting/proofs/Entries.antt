-- What stands at each place when all rows of a class were added, from the first row on: of issue 0 the row's own amount; of the first row of an
-- issue the amounts of all of them; else nothing.
-- Assumes nothing.
use mathlib.Core.Path.{◌≡◌, refl, sym, ap, ap₂, fun_ext, ◌∙◌}
use mathlib.Core.Bool.{Bool, true, false, true≢false, cond, not, ◌||◌, ◌&&◌}
use mathlib.Core.List.{List, [], ◌∷◌}
use Prim.Native.Nat.{ℕ, suc, ◌+◌}
use native.Mathlib.Nat.{zero-add, add-zero}
use native.Mathlib.Decide.{ℕ_discrete}
use native.Mathlib.Omega.{arith}
use lib.Dec.{eqb}
use lib.ListN.{length, get_or, get_or-map}
use borrow.Author.Tests.{eqb-true, eqb-false, eq-eqb, ne_eqb}
use Rattle.sums.specs.Sums.{sum_of, sum_at, span}
use Rattle.sums.proofs.Cases.{cond_same}
use Rattle.sums.proofs.Sums.{sum_of_zero}
use Rattle.sums.proofs.Spans.{sum_shift}
use Rattle.book.specs.declared.Row.{Row}
use Rattle.issues.specs.Issues.{has}
use Rattle.netting.specs.Inner.Places.{first_place, place_of, first_row_of}
use Rattle.netting.specs.Inner.Gathering.{issue_numbers, first_row_sum}
use Rattle.book.proofs.ClassRows.{no_row}
use Rattle.netting.proofs.FirstRows.{issue_at}

-- a sum over the rows by their places
by_place : (f : Row → ℕ) (rows : List Row) → sum_of (λ j. f (get_or rows j no_row)) (span 0 (length rows)) ≡ sum_of f rows
unfolding sum_of span
by_place f [] = refl
by_place f (row ∷ rows) = ap (λ (sum : ℕ). f row + sum) (sum_shift (λ j. f (get_or (row ∷ rows) j no_row)) 0 (length rows) ∙ by_place f rows)

next_not-0 : (a : ℕ) → eqb (suc a) 0 ≡ false
next_not-0 a = ne_eqb (suc a) 0 (λ e. omega arith)

both_next : (a b : ℕ) → eqb (suc a) (suc b) ≡ eqb a b
both_next a b = go (ℕ_discrete a b)
  where
    go : Dec (a ≡ b) → eqb (suc a) (suc b) ≡ eqb a b
    go (yes e) = eq-eqb (suc a) (suc b) (ap suc e) ∙ sym (eq-eqb a b e)
    go (no e) = ne_eqb (suc a) (suc b) (λ same. e (omega arith)) ∙ sym (ne_eqb a b e)

-- ---- the place of a row after another
first-row_zero : (issue : ℕ) (issues : List ℕ) → first_row_of (issue ∷ issues) 0 ≡ 0
unfolding first_row_of first_place
first-row_zero issue issues = rw (eq-eqb issue issue refl) (cond_same (eqb issue 0) 0)

-- ---- rows whose issues were seen count for nothing
module _ (amount : Row → ℕ) where
  abbrev part : Bool → ℕ → ℕ → ℕ → ℕ
  part hidden place k n = cond hidden 0 (cond (eqb place k) n 0)

  abbrev term : List ℕ → List Row → ℕ → ℕ → ℕ
  term seen rows k j =
      part (not (eqb (get_or (issue_numbers rows) j 0) 0) && has seen (get_or (issue_numbers rows) j 0)) (first_row_of (issue_numbers rows) j) k (amount (get_or rows j no_row))

  unfoldable pub seen_sum : List ℕ → List Row → ℕ → ℕ
  seen_sum seen rows k = sum_of (term seen rows k) (span 0 (length rows))

  -- where none was seen it is the sum at the place
  pub unseen : amount no_row ≡ 0 → (rows : List Row) (k : ℕ) → first_row_sum amount rows k ≡ seen_sum [] rows k
  unfolding seen_sum has
  unseen none rows k =
      ap (λ (f : ℕ → ℕ). sum_of f (span 0 (length rows)))
      (fun_ext (λ j.
      ap (λ (n : ℕ). cond (eqb (first_row_of (issue_numbers rows) j) k) n 0) (rw none at (get_or-map amount rows j no_row))
      ∙ sym (go (not (eqb (get_or (issue_numbers rows) j 0) 0)) (cond (eqb (first_row_of (issue_numbers rows) j) k) (amount (get_or rows j no_row)) 0))))
    where
      go : (some : Bool) (n : ℕ) → cond (some && false) 0 n ≡ n
      go true n = refl
      go false n = refl

  -- ---- one row, and the rows after it
  module _ (seen : List ℕ) (row : Row) (rows : List Row) where
    abbrev i : ℕ
    i = row.issue

    abbrev whole : List Row
    whole = row ∷ rows

    abbrev issue : ℕ → ℕ
    issue j = get_or (issue_numbers rows) j 0

    abbrev of : ℕ → ℕ
    of j = amount (get_or rows j no_row)

    -- the row itself, and then the others
    split : (k : ℕ) → seen_sum seen whole k ≡ part (not (eqb i 0) && has seen i) 0 k (amount row) + sum_of (λ j. term seen whole k (suc j)) (span 0 (length rows))
    unfolding seen_sum sum_of span
    split k =
        ap₂ ◌+◌
        (ap (λ (place : ℕ). part (not (eqb i 0) && has seen i) place k (amount row)) (first-row_zero i (issue_numbers rows)))
        (sum_shift (term seen whole k) 0 (length rows))

    -- a later row, by whether it has issue 0, whether its issue is this row's, and whether it was seen
    later : (k j : ℕ) → term seen whole k (suc j)
        ≡ part (not (eqb (issue j) 0) && has seen (issue j)) (cond (eqb (issue j) 0) (suc j) (cond (eqb i (issue j)) 0 (suc (place_of (issue j) (issue_numbers rows))))) k (of j)
    unfolding first_row_of first_place
    later k j = refl

    ahead : (seen' : List ℕ) (k j : ℕ) → ((z o s : Bool) → eqb (issue j) 0 ≡ z → eqb i (issue j) ≡ o → has seen (issue j) ≡ s
        → part (not z && s) (cond z (suc j) (cond o 0 (suc (place_of (issue j) (issue_numbers rows))))) (suc k) (of j)
        ≡ part (not z && has seen' (issue j)) (cond z j (place_of (issue j) (issue_numbers rows))) k (of j))
        → term seen whole (suc k) (suc j) ≡ term seen' rows k j
    unfolding first_row_of
    ahead seen' k j go = later (suc k) j ∙ go (eqb (issue j) 0) (eqb i (issue j)) (has seen (issue j)) refl refl refl

    none_here : (k : ℕ) → part (not (eqb i 0) && has seen i) 0 (suc k) (amount row) ≡ 0
    none_here k = rw (ne_eqb 0 (suc k) (λ e. omega arith)) (cond_same (not (eqb i 0) && has seen i) 0)

    -- where the rows of this issue count for nothing anyhow
    module _ (hidden : (x : ℕ) → eqb x 0 ≡ false → eqb i x ≡ true → has seen x ≡ true) where
      pub rest_same : (k : ℕ) → seen_sum seen whole (suc k) ≡ seen_sum seen rows k
      unfolding seen_sum
      rest_same k =
          split (suc k)
          ∙ ap₂ ◌+◌ (none_here k) (ap (λ (f : ℕ → ℕ). sum_of f (span 0 (length rows))) (fun_ext (λ j. ahead seen k j (go j))))
          ∙ zero-add _
        where
          go : (j : ℕ) (z o s : Bool) → eqb (issue j) 0 ≡ z → eqb i (issue j) ≡ o → has seen (issue j) ≡ s
              → part (not z && s) (cond z (suc j) (cond o 0 (suc (place_of (issue j) (issue_numbers rows))))) (suc k) (of j)
              ≡ part (not z && has seen (issue j)) (cond z j (place_of (issue j) (issue_numbers rows))) k (of j)
          go j true o s ez eo es = rw (both_next j k)
          go j false true true ez eo es = rw es
          go j false true false ez eo es = absurd (true≢false (sym (hidden (issue j) ez eo) ∙ es))
          go j false false true ez eo es = rw es
          go j false false false ez eo es = rw (es, both_next (place_of (issue j) (issue_numbers rows)) k)

      nothing-here : sum_of (λ j. term seen whole 0 (suc j)) (span 0 (length rows)) ≡ 0
      nothing-here =
          ap (λ (f : ℕ → ℕ). sum_of f (span 0 (length rows)))
          (fun_ext (λ j. later 0 j ∙ go j (eqb (issue j) 0) (eqb i (issue j)) (has seen (issue j)) refl refl refl))
          ∙ sum_of_zero (span 0 (length rows))
        where
          go : (j : ℕ) (z o s : Bool) → eqb (issue j) 0 ≡ z → eqb i (issue j) ≡ o → has seen (issue j) ≡ s
              → part (not z && s) (cond z (suc j) (cond o 0 (suc (place_of (issue j) (issue_numbers rows))))) 0 (of j) ≡ 0
          go j true o s ez eo es = rw (next_not-0 j)
          go j false true true ez eo es = refl
          go j false true false ez eo es = absurd (true≢false (sym (hidden (issue j) ez eo) ∙ es))
          go j false false true ez eo es = refl
          go j false false false ez eo es = rw (next_not-0 (place_of (issue j) (issue_numbers rows)))

      pub here_own : i ≡ 0 → seen_sum seen whole 0 ≡ amount row
      here_own none = split 0 ∙ rw (eq-eqb i 0 none, nothing-here) (add-zero (amount row))

      pub here_seen : (i ≡ 0 → ⊥) → has seen i ≡ true → seen_sum seen whole 0 ≡ 0
      here_seen some old = split 0 ∙ rw (ne_eqb i 0 some, old, nothing-here)

    -- the first row of an issue
    module _ (some : i ≡ 0 → ⊥) where
      pub rest_new : (k : ℕ) → seen_sum seen whole (suc k) ≡ seen_sum (i ∷ seen) rows k
      unfolding seen_sum has
      rest_new k =
          split (suc k)
          ∙ ap₂ ◌+◌ (none_here k) (ap (λ (f : ℕ → ℕ). sum_of f (span 0 (length rows))) (fun_ext (λ j. ahead (i ∷ seen) k j (go j))))
          ∙ zero-add _
        where
          go : (j : ℕ) (z o s : Bool) → eqb (issue j) 0 ≡ z → eqb i (issue j) ≡ o → has seen (issue j) ≡ s
              → part (not z && s) (cond z (suc j) (cond o 0 (suc (place_of (issue j) (issue_numbers rows))))) (suc k) (of j)
              ≡ part (not z && (eqb i (issue j) || has seen (issue j))) (cond z j (place_of (issue j) (issue_numbers rows))) k (of j)
          go j true o s ez eo es = rw (both_next j k)
          go j false true true ez eo es = rw eo
          go j false true false ez eo es = rw (eo, ne_eqb 0 (suc k) (λ e. omega arith))
          go j false false true ez eo es = rw (eo, es)
          go j false false false ez eo es = rw (eo, es, both_next (place_of (issue j) (issue_numbers rows)) k)

      pub here_new : has seen i ≡ false → seen_sum seen whole 0 ≡ sum_at (λ r. r.issue) amount i whole
      unfolding sum_of
      here_new new =
          split 0
          ∙ rw (new, eq-eqb i i refl) (ap₂ ◌+◌ (kept (not (eqb i 0)))
          (ap (λ (f : ℕ → ℕ). sum_of f (span 0 (length rows))) (fun_ext (λ j. later 0 j ∙ go j (eqb (issue j) 0) (eqb i (issue j)) refl refl))
          ∙ by_place (λ r. cond (eqb r.issue i) (amount r) 0) rows))
        where
          kept : (n : Bool) → part (n && false) 0 0 (amount row) ≡ amount row
          kept true = refl
          kept false = refl

          go : (j : ℕ) (z o : Bool) → eqb (issue j) 0 ≡ z → eqb i (issue j) ≡ o
              → part (not z && has seen (issue j)) (cond z (suc j) (cond o 0 (suc (place_of (issue j) (issue_numbers rows))))) 0 (of j)
              ≡ cond (eqb (get_or rows j no_row).issue i) (of j) 0
          go j true o ez eo = rw (← issue_at rows j, next_not-0 j, ne_eqb (issue j) i (λ e. some (sym e ∙ eqb-true (issue j) 0 ez)))
          go j false true ez eo =
              let own : i ≡ issue j = eqb-true i (issue j) eo in
              rw (← issue_at rows j, ← own, new, eq-eqb i i refl)
          go j false false ez eo =
              let other = ne_eqb (issue j) i (λ e. eqb-false i (issue j) eo (sym e)) in
              rw (← issue_at rows j, next_not-0 (place_of (issue j) (issue_numbers rows)), other) (cond_same (has seen (issue j)) 0)
