-- The issues that are kept while the rows of a class are taken, and the places of their first rows.
-- Assumes nothing.
use mathlib.Core.Path.{◌≡◌, refl, sym, ap, subst, ◌∙◌}
use mathlib.Core.Bool.{Bool, true, false, cond, ◌||◌, or-true, or-false}
use mathlib.Core.List.{List, [], ◌∷◌, ◌++◌, map, map-append, foldl, foldl-append}
use Prim.Native.Nat.{ℕ, ◌+◌, ◌≤◌, ◌<◌}
use native.Mathlib.Numerals.{add-one}
use native.Mathlib.Omega.{arith}
use lib.Dec.{eqb}
use lib.ListN.{length, get_or, set, length-append}
use lib.Seq.{get_or-append_seam, get_or-take, take-suc-set, length-take-le}
use borrow.Author.Tests.{eqb-true, eq-eqb, ne_eqb}
use Rattle.sums.specs.Every.{Every, none, also}
use Rattle.sums.proofs.Every.{every_append}
use Rattle.book.specs.Refusals.{most_rows}
use Rattle.issues.specs.Comparing.{kept_with}
use Rattle.issues.specs.Issues.{has}
use Rattle.netting.proofs.Standing.{or_assoc, has_within, lacks_past, place_append, place_last, place_mapped, has-append, has-single, has-later}
use Rattle.issues.proofs.Walking.{has-own}
use Rattle.netting.specs.Inner.Places.{place_of, kept_issues, first_row_of}
use Rattle.netting.specs.declared.firsts.Kept.{Kept}
use Rattle.netting.specs.Inner.Kept.{issues_in, Keeps, FirstRowIs}

module _ (issue : ℕ) (some : issue ≡ 0 → ⊥) where
  kept_more : (kept : List ℕ) (other : ℕ) → has (kept_with kept other) issue ≡ has kept issue || eqb other issue
  kept_more kept other = go (eqb other 0) refl (has kept other) refl (eqb other issue) refl
    where
      go : (zero? : Bool) → eqb other 0 ≡ zero? → (old? : Bool) → has kept other ≡ old? → (own? : Bool) → eqb other issue ≡ own?
          → has (cond (zero? || old?) kept (kept ++ (other ∷ []))) issue ≡ has kept issue || own?
      go true e old? o true p = absurd (some (sym (eqb-true other issue p) ∙ eqb-true other 0 e))
      go true e old? o false p = sym (or-false (has kept issue))
      go false e true o true p =
          let known : has kept issue ≡ true = subst (λ (i : ℕ). has kept i ≡ true) (eqb-true other issue p) o in
          rw known
      go false e true o false p = sym (or-false (has kept issue))
      go false e false o own? p = has-append kept (other ∷ []) issue ∙ ap (λ (t : Bool). has kept issue || t) (has-single other issue ∙ p)

  kept_from : (kept list : List ℕ) → has (foldl kept_with kept list) issue ≡ has kept issue || has list issue
  unfolding has
  kept_from kept [] = sym (or-false (has kept issue))
  kept_from kept (other ∷ list) =
      kept_from (kept_with kept other) list
      ∙ rw (kept_more kept other) (or_assoc (has kept issue) (eqb other issue) (has list issue))

  pub kept_has : (list : List ℕ) → has (kept_issues list) issue ≡ has list issue
  unfolding kept_issues has
  kept_has list = kept_from [] list

kept_among : (all kept list : List ℕ) → Every (λ issue. has all issue ≡ true) kept → ((issue : ℕ) → has list issue ≡ true → has all issue ≡ true)
    → Every (λ issue. has all issue ≡ true) (foldl kept_with kept list)
kept_among all kept [] e h = e
kept_among all kept (other ∷ list) e h =
    kept_among all (kept_with kept other) list (go (eqb other 0 || has kept other)) (λ issue in_List. h issue (has-later list other issue in_List))
  where
    go : (test : Bool) → Every (λ issue. has all issue ≡ true) (cond test kept (kept ++ (other ∷ [])))
    go true = e
    go false = every_append e (also (h other (has-own other list)) none)

-- the places of the kept issues stay when the list goes on
places_same : (list more : List ℕ) {kept : List ℕ} → Every (λ issue. has list issue ≡ true) kept
    → map (λ issue. place_of issue (list ++ more)) kept ≡ map (λ issue. place_of issue list) kept
places_same list more none = refl
places_same list more (also {a} p e) = rw (place_append a list more p, places_same list more e)

kept_places : (list : List ℕ) (issue : ℕ) → map (λ other. place_of other (list ++ (issue ∷ []))) (kept_issues list) ≡ map (λ other. place_of other list) (kept_issues list)
unfolding kept_issues
kept_places list issue = places_same list (issue ∷ []) (kept_among list [] list none (λ other e. e))

-- ---- what is kept
pub many_kept : {issues : List ℕ} {kept : Kept} → Keeps issues kept → length issues ≤ most_rows → length (kept_issues issues) ≡ kept.many
many_kept {kept = kept} now few = ap length (sym now.is_issues) ∙ length-take-le kept.many kept.issues (omega (arith, kept.sized_issues, now.many))

-- ---- one row more
module _ (before : List ℕ) (issue : ℕ) where
  kept_next : kept_issues (before ++ (issue ∷ [])) ≡ kept_with (kept_issues before) issue
  unfolding kept_issues
  kept_next = foldl-append kept_with [] before (issue ∷ [])

  first-row_here : first_row_of (before ++ (issue ∷ [])) (length before) ≡ cond (eqb issue 0) (length before) (place_of issue (before ++ (issue ∷ [])))
  unfolding first_row_of
  first-row_here = rw (get_or-append_seam before issue [] 0)

  longer : length (before ++ (issue ∷ [])) ≡ length before + 1
  longer = length-append before (issue ∷ [])

  module _ (few : length before < most_rows) {kept : Kept} (now : Keeps before kept) where
    -- nothing is kept of a row of issue 0, or of an issue that is kept
    stays : kept_with (kept_issues before) issue ≡ kept_issues before → Keeps (before ++ (issue ∷ [])) kept
    stays same =
        record {
          many = omega (arith, longer, now.many);
          is_issues = now.is_issues ∙ sym (kept_next ∙ same);
          is_places = now.is_places ∙ sym (kept_places before issue) ∙ ap (map (λ other. place_of other (before ++ (issue ∷ [])))) (sym (kept_next ∙ same));
        }

    pub first-row_none : issue ≡ 0 → FirstRowIs before issue (length before) kept
    first-row_none none' = record { is_at = sym (first-row_here ∙ rw (eq-eqb issue 0 none')); keeps = stays (rw (eq-eqb issue 0 none')) }

    module _ (some : issue ≡ 0 → ⊥) where
      found : has (kept_issues before) issue ≡ has before issue
      found = kept_has issue some before

      -- the place of the issue among the kept ones
      abbrev place : ℕ
      place = place_of issue (issues_in kept)

      place_is : place ≡ place_of issue (kept_issues before)
      place_is = ap (place_of issue) now.is_issues

      size : length (kept_issues before) ≡ kept.many
      size = many_kept now (omega arith)

      pub first-row_old : place < kept.many → FirstRowIs before issue (get_or kept.places place 0) kept
      first-row_old inside = go (has (kept_issues before) issue) refl
        where
          go : (test : Bool) → has (kept_issues before) issue ≡ test → FirstRowIs before issue (get_or kept.places place 0) kept
          go false e =
              let past : place_of issue (kept_issues before) ≡ length (kept_issues before) = lacks_past issue (kept_issues before) e in
              let never : ⊥ = omega (arith, size, place_is) in
              absurd never
          go true e =
              let first : get_or kept.places place 0 ≡ place_of issue before =
              sym (get_or-take kept.many kept.places place 0 inside)
              ∙ rw (now.is_places, place_is) (place_mapped issue (λ other. place_of other before) 0 (kept_issues before) e) in
              let same : place_of issue (before ++ (issue ∷ [])) ≡ place_of issue before = place_append issue before (issue ∷ []) (sym found ∙ e) in
              record {
                is_at = first ∙ sym (first-row_here ∙ rw (ne_eqb issue 0 some) same);
                keeps = stays (rw (e, or-true (eqb issue 0)));
              }

      pub first-row_new : place ≡ kept.many → (kept' : Kept) → kept'.issues ≡ set kept.issues kept.many issue
          → kept'.places ≡ set kept.places kept.many (length before) → kept'.many ≡ kept.many + 1 → FirstRowIs before issue (length before) kept'
      first-row_new past kept' issues places many = go (has (kept_issues before) issue) refl
        where
          go : (test : Bool) → has (kept_issues before) issue ≡ test → FirstRowIs before issue (length before) kept'
          go true e =
              let inside = has_within issue (kept_issues before) e in
              let never : ⊥ = omega (arith, size, place_is) in
              absurd never
          go false e =
              let new = sym found ∙ e in
              let one_more : kept_issues (before ++ (issue ∷ [])) ≡ kept_issues before ++ (issue ∷ []) = kept_next ∙ rw (ne_eqb issue 0 some, e) in
              let last : place_of issue (before ++ (issue ∷ [])) ≡ length before = place_last issue before new in
              record {
                is_at = sym (first-row_here ∙ rw (ne_eqb issue 0 some) last);
                keeps =
                    record {
                      many = omega (arith, longer, now.many, many);
                      is_issues =
                          rw (issues, many, add-one kept.many, take-suc-set kept.issues kept.many issue (omega (arith, kept.sized_issues, now.many)), now.is_issues)
                          (sym one_more);
                      is_places =
                          rw (places, many, add-one kept.many, take-suc-set kept.places kept.many (length before) (omega (arith, kept.sized_places, now.many)), now.is_places)
                          (sym (
                          ap (map (λ other. place_of other (before ++ (issue ∷ [])))) one_more
                          ∙ map-append (λ other. place_of other (before ++ (issue ∷ []))) (kept_issues before) (issue ∷ [])
                          ∙ rw (kept_places before issue, last)
                          ));
                    };
              }
