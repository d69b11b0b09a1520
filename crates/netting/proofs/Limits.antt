-- The places of a class hold its nets: the first place over the limit is where 14 is found.
-- Assumes nothing.
use mathlib.Core.Path.{◌≡◌, refl, sym, ap, subst, ◌∙◌}
use mathlib.Core.Bool.{Bool, true, false, true≢false, cond, not, ◌||◌, ◌&&◌}
use mathlib.Core.List.{List, [], ◌∷◌, ◌++◌, map}
use Prim.Native.Nat.{ℕ, suc, ◌+◌, ◌≤◌}
use native.Mathlib.Nat.{zero-add, add-zero, add-suc, suc-add}
use lib.Dec.{eqb}
use lib.ListN.{length}
use borrow.Author.Tests.{eqb-true, eqb-false, ltb-false, le-ltb}
use Rattle.sums.specs.Every.{Every, also}
use Rattle.sums.proofs.Cases.{neither}
use Rattle.book.specs.declared.Row.{Row}
use Rattle.book.specs.declared.Refusal.{Refusal}
use Rattle.book.specs.Legs.{Leg}
use Rattle.book.specs.Refusals.{most_amount, refused}
use Rattle.ladder.specs.Position.{Bands, empty, matched, net, absolute_net}
use Rattle.issues.specs.Issues.{issues_of, has}
use Rattle.issues.specs.Agreeing.{over_limit}
use Rattle.issues.proofs.Walking.{issue_other}
use Rattle.netting.specs.Netted.{first_found}
use Rattle.netting.specs.Inner.Gathering.{Holds}
use Rattle.amounts.specs.declared.positions.Amounts.{Amounts}
use Rattle.amounts.specs.Inner.Standing.{positions_in}
use Rattle.netting.specs.Inner.Nets.{is_over, first_number}
use Rattle.netting.proofs.Settling.{Stands, stands_same, stands_own, stands_nothing, stands_new, stands_issue, none_hidden, seen_hidden, OneSided, from_sums}

nothing-over : is_over empty ≡ false
unfolding net matched
nothing-over = refl

over_test : (all : List Row) (row : Row) → over_limit all row ≡ not (eqb row.issue 0) && is_over (issues_of all row.issue)
unfolding over_limit
over_test all row = refl

-- a leg of a class
abbrev pub leg_with : ℕ → Row → Leg
leg_with class row = record { class = class; row = row }

module _ (f : Bands) (class : ℕ) (all : List Row) (test : Leg → Bool) (same : (row : Row) → test (leg_with class row) ≡ over_limit all row) where
  -- the issues seen are within the limit, and the others have no row before
  record Ahead (seen : List ℕ) (rows : List Row) : Type 0 where
    seen_within : (x : ℕ) → has seen x ≡ true → absolute_net (issues_of all x) ≤ most_amount
    whole : (x : ℕ) → (x ≡ 0 → ⊥) → has seen x ≡ false → issues_of all x ≡ issues_of rows x

  ahead_same : (seen : List ℕ) (row : Row) (rows : List Row) → Ahead seen (row ∷ rows)
      → ((x : ℕ) → (x ≡ 0 → ⊥) → has seen x ≡ false → row.issue ≡ x → ⊥) → Ahead seen rows
  ahead_same seen row rows ahead other =
      record { seen_within = ahead.seen_within; whole = λ x some new. ahead.whole x some new ∙ issue_other row rows x (other x some new) }

  ahead_new : (seen : List ℕ) (row : Row) (rows : List Row) → Ahead seen (row ∷ rows)
      → absolute_net (issues_of all row.issue) ≤ most_amount → Ahead (row.issue ∷ seen) rows
  unfolding has
  ahead_new seen row rows ahead within =
      record {
        seen_within = λ x. known x (eqb row.issue x) refl;
        whole = λ x some new. let apart = neither (eqb row.issue x) (has seen x) new in ahead.whole x some apart.1 ∙ issue_other row rows x (eqb-false _ _ apart.0);
      }
    where
      known : (x : ℕ) (own : Bool) → eqb row.issue x ≡ own → own || has seen x ≡ true → absolute_net (issues_of all x) ≤ most_amount
      known x true e h = subst (λ (j : ℕ). absolute_net (issues_of all j) ≤ most_amount) (eqb-true _ _ e) within
      known x false e h = ahead.seen_within x h

  over_from : (seen : List ℕ) (at : ℕ) (rows : List Row) → Stands f seen at rows → Every OneSided rows → Ahead seen rows
      → (more : List Leg) (many : ℕ) → first_number 14 (λ k. is_over (f k)) (at + length rows) many ≡ first_found 14 test (at + length rows) more
      → first_number 14 (λ k. is_over (f k)) at (length rows + many) ≡ first_found 14 test at (map (leg_with class) rows ++ more)
  unfolding first_number first_found
  over_from seen at [] stands sided ahead more many rest = rw (zero-add many) (rw (add-zero at) at rest)
  over_from seen at (row ∷ rows) stands (also own sided) ahead more many rest =
      rw (suc-add (length rows) many)
      (go (eqb i 0) refl (has seen i) refl (λ seen' later ahead'.
      over_from seen' (suc at) rows later sided ahead' more many (rw (suc-add at (length rows), ← add-suc at (length rows)) rest)))
    where
      i : ℕ
      i = row.issue

      numbers : Refusal
      numbers = first_number 14 (λ k. is_over (f k)) (suc at) (length rows + many)

      legs : Refusal
      legs = first_found 14 test (suc at) (map (leg_with class) rows ++ more)

      -- the same test at this place
      step : (over : Bool) → is_over (f at) ≡ over → test (leg_with class row) ≡ over → (over ≡ false → numbers ≡ legs)
          → cond (is_over (f at)) (refused 14 at) numbers ≡ cond (test (leg_with class row)) (refused 14 at) legs
      step true e e' later = rw (e, e')
      step false e e' later = rw (e, e') (later refl)

      go : (zero? : Bool) → eqb i 0 ≡ zero? → (old? : Bool) → has seen i ≡ old?
          → ((seen' : List ℕ) → Stands f seen' (suc at) rows → Ahead seen' rows → numbers ≡ legs)
          → cond (is_over (f at)) (refused 14 at) numbers ≡ cond (test (leg_with class row)) (refused 14 at) legs
      go true e old? o on =
          let none' = eqb-true i 0 e in
          let hidden = none_hidden seen i none' in
          step false
          (ap is_over (stands_own f seen at row rows stands hidden none') ∙ rw own.is_net (le-ltb most_amount _ own.within))
          (same row ∙ over_test all row ∙ rw e)
          (λ _. on seen (stands_same f seen at row rows stands hidden) (ahead_same seen row rows ahead (λ x some new own'. some (sym own' ∙ none'))))
      go false e true o on =
          let hidden = seen_hidden seen i o in
          step false
          (ap is_over (stands_nothing f seen at row rows stands hidden (eqb-false i 0 e) o) ∙ nothing-over)
          (same row ∙ over_test all row ∙ rw (e, le-ltb most_amount _ (ahead.seen_within i o)))
          (λ _. on seen (stands_same f seen at row rows stands hidden)
          (ahead_same seen row rows ahead (λ x some new own'. true≢false (sym (subst (λ (j : ℕ). has seen j ≡ true) own' o) ∙ new))))
      go false e false o on =
          let some = eqb-false i 0 e in
          step (is_over (issues_of all i))
          (ap is_over (stands_issue f seen at row rows stands some o ∙ sym (ahead.whole i some o)))
          (same row ∙ over_test all row ∙ rw e)
          (λ within. on (i ∷ seen) (stands_new f seen at row rows stands some) (ahead_new seen row rows ahead (ltb-false most_amount _ within)))

  -- the rows of a class, and what follows them
  pub over_class : (amounts : Amounts) (first : ℕ) → f ≡ positions_in amounts → Holds first all amounts → Every OneSided all
      → (more : List Leg) (many : ℕ)
      → first_number 14 (λ k. is_over (f k)) (first + length all) many ≡ first_found 14 test (first + length all) more
      → first_number 14 (λ k. is_over (f k)) first (length all + many) ≡ first_found 14 test first (map (leg_with class) all ++ more)
  unfolding has
  over_class amounts first is holds sided more many later =
      over_from [] first all (rw is (from_sums amounts first all holds)) sided
      (record { seen_within = λ x old. absurd (true≢false (sym old)); whole = λ x some new. refl }) more many later
