-- What rows count for, by whatever depends on their bytes 0 to 7 alone: a net in the place of a row, and one issue taken out of the netted rows.
-- Assumes nothing.
use Prim.Native.Nat.{ℕ, ◌+◌, ◌*◌}
use mathlib.Core.Path.{◌≡◌, refl, sym, ap, ◌∙◌, subst}
use mathlib.Core.Bool.{Bool, true, false, true≢false, cond, ◌||◌}
use mathlib.Core.List.{List, [], ◌∷◌, ◌++◌, Memᴰ}
use native.Mathlib.Decide.{ℕ_discrete}
use native.Mathlib.Omega.{arith}
use lib.Dec.{eqb}
use Rattle.sums.specs.Sums.{sum_of}
use Rattle.sums.proofs.Sums.{sum_of_append}
use Rattle.sums.proofs.Cases.{cond_add}
use Rattle.book.specs.declared.Row.{Row}
use Rattle.ladder.specs.declared.positions.Position.{Position}
use Rattle.ladder.specs.Position.{empty, gross, matched, net, ◌⊕◌}
use Rattle.ladder.proofs.Matching.{same_position}
use Rattle.issues.specs.Issues.{issues_of, has, holding, placed, netted_from}
use Rattle.issues.specs.Agreeing.{SameTerms}
use Rattle.issues.proofs.Walking.{has-own, has_other, issue_other, Place, stays, gone, stands, place, row_stays, row_gone, row_stands, placed-none, placed-some}

-- ---- bytes 0 to 7 of a row
abbrev pub bare : Row → Row
bare row = holding row empty

pub same_bare : {a b : Row} → a.issue ≡ b.issue → SameTerms a b → bare a ≡ bare b
same_bare e t = λ i.
    record { group = t.group i; kind = t.kind i; days = t.days i; coupon = t.coupon i; issue = e i; long = 0; short = 0 }

pub bare_terms : {a b : Row} → bare a ≡ bare b → SameTerms a b
bare_terms e =
    record {
      group = ap (λ (row : Row). row.group) e;
      kind = ap (λ (row : Row). row.kind) e;
      days = ap (λ (row : Row). row.days) e;
      coupon = ap (λ (row : Row). row.coupon) e;
    }

-- ---- what an amount of a row counts for
pub record Measure (counts : Row → ℕ → ℕ) : Type 0 where
  pub adds : (row : Row) (m n : ℕ) → counts row (m + n) ≡ counts row m + counts row n
  pub blind : (row : Row) (n : ℕ) → counts row n ≡ counts (bare row) n

pub plain_measure : Measure (λ row n. n)
plain_measure = record { adds = λ row m n. refl; blind = λ row n. refl }

pub times_measure : (weight : Row → ℕ) → ((row : Row) → weight row ≡ weight (bare row)) → Measure (λ row n. weight row * n)
times_measure weight same = record { adds = λ row m n. omega arith; blind = λ row n. ap (λ (w : ℕ). w * n) (same row) }

-- only where an index is k
pub index_measure : (index : Row → ℕ) (k : ℕ) → ((row : Row) → index row ≡ index (bare row)) → {counts : Row → ℕ → ℕ} → Measure counts
    → Measure (λ row n. cond (eqb (index row) k) (counts row n) 0)
index_measure index k same {counts} m =
    record {
      adds = λ row a b. rw (m.adds row a b) (sym (cond_add (eqb (index row) k) (counts row a) 0 (counts row b) 0));
      blind = λ row n. rw (same row, m.blind row n);
    }

-- all rows together
abbrev pub counted : (Row → ℕ → ℕ) → List Row → Position
counted counts rows = record { long = sum_of (λ row. counts row row.long) rows; short = sum_of (λ row. counts row row.short) rows }

pub counted_append : (counts : Row → ℕ → ℕ) (rows more : List Row) → counted counts (rows ++ more) ≡ counted counts rows ⊕ counted counts more
counted_append counts rows more =
    same_position (sum_of_append (λ row. counts row row.long) rows more) (sum_of_append (λ row. counts row row.short) rows more)

-- a position, as a row counts it
abbrev pub scaled : (Row → ℕ → ℕ) → Row → Position → Position
scaled counts row a = record { long = counts row a.long; short = counts row a.short }

-- ---- of the issues seen, only which they are matters
same_seen : (seen seen' : List ℕ) → ((i : ℕ) → has seen i ≡ has seen' i) → (rows : List Row) → netted_from seen rows ≡ netted_from seen' rows
unfolding netted_from has
same_seen seen seen' same [] = refl
same_seen seen seen' same (row ∷ rows) =
    rw (same row.issue, same_seen seen seen' same rows, same_seen (row.issue ∷ seen) (row.issue ∷ seen') (λ i. rw (same i)) rows)

seen_swapped : (j k : ℕ) (seen : List ℕ) (i : ℕ) → has (j ∷ k ∷ seen) i ≡ has (k ∷ j ∷ seen) i
unfolding has
seen_swapped j k seen i = go (eqb j i) (eqb k i)
  where
    go : (a b : Bool) → (a || (b || has seen i)) ≡ (b || (a || has seen i))
    go true true = refl
    go true false = refl
    go false b = refl

net-empty : net empty ≡ empty
unfolding net matched
net-empty = refl

-- a position that is two put together
pub record Splits (whole part rest : Position) : Type 0 where
  pub longs : whole.long ≡ part.long + rest.long
  pub shorts : whole.short ≡ part.short + rest.short

module _ {counts : Row → ℕ → ℕ} (m : Measure counts) where
  counts_none : (row : Row) → counts row 0 ≡ 0
  counts_none row = omega (arith, m.adds row 0 0)

  counts_same : (a b : Row) → bare a ≡ bare b → (n : ℕ) → counts a n ≡ counts b n
  counts_same a b e n = m.blind a n ∙ ap (λ (row : Row). counts row n) e ∙ sym (m.blind b n)

  -- a net in the place of a row; where it is zero, nothing is lost
  pub placed-counted : (row : Row) (x : Position) (more : List Row) → Splits (counted counts (placed row x more)) (scaled counts row x) (counted counts more)
  unfolding sum_of
  placed-counted row x more = go (ℕ_discrete (gross x) 0)
    where
      alike : (n : ℕ) → counts (holding row x) n ≡ counts row n
      alike = counts_same (holding row x) row refl

      go : Dec (gross x ≡ 0) → Splits (counted counts (placed row x more)) (scaled counts row x) (counted counts more)
      go (yes nil) =
          let is-empty : x ≡ empty = same_position (omega arith) (omega arith) in
          rw (placed-none row x more nil, is-empty) (omega (arith, counts_none row))
      go (no some) = rw (placed-some row x more some) (omega (arith, alike x.long, alike x.short))

  -- of a row of the same terms in its place
  placed_same : (a b : Row) → bare a ≡ bare b → (x : Position) (more : List Row) → Splits (counted counts (placed a x more)) (scaled counts b x) (counted counts more)
  placed_same a b e x more = omega (arith, placed-counted a x more, counts_same a b e x.long, counts_same a b e x.short)

  -- the netted rows after some issues, and after one issue j more: they differ by the net of j, which any row with j's terms may count
  pub split_off : (j : ℕ) (row : Row) (seen : List ℕ) (rows : List Row) → (j ≡ 0 → ⊥) → has seen j ≡ false
      → ((r : Row) → Memᴰ r rows → r.issue ≡ j → bare r ≡ bare row)
      → Splits (counted counts (netted_from seen rows)) (scaled counts row (net (issues_of rows j))) (counted counts (netted_from (j ∷ seen) rows))
  unfolding netted_from sum_of
  split_off j row seen [] some new alike = rw net-empty (omega (arith, counts_none row))
  split_off j row seen (r ∷ rows) some new alike =
      go (place seen r) (ℕ_discrete j r.issue) (split_off j row seen rows some new later)
      (λ other. split_off j row (r.issue ∷ seen) rows some (has_other r.issue j seen (λ e. other (sym e)) ∙ new) later)
    where
      later : (r' : Row) → Memᴰ r' rows → r'.issue ≡ j → bare r' ≡ bare row
      later r' member = alike r' (Memᴰ.tail member)

      left : List ℕ → Position
      left old = counted counts (netted_from old rows)

      go : Place seen r → Dec (j ≡ r.issue)
          → Splits (left seen) (scaled counts row (net (issues_of rows j))) (left (j ∷ seen))
          → ((j ≡ r.issue → ⊥) → Splits (left (r.issue ∷ seen)) (scaled counts row (net (issues_of rows j))) (left (j ∷ r.issue ∷ seen)))
          → Splits (counted counts (netted_from seen (r ∷ rows))) (scaled counts row (net (issues_of (r ∷ rows) j))) (counted counts (netted_from (j ∷ seen) (r ∷ rows)))
      go (stays e) own same rest =
          rw (row_stays seen r rows e, row_stays (j ∷ seen) r rows e, issue_other r rows j (λ own'. some (sym own' ∙ e))) (omega (arith, same))
      go (gone some' old) own same rest =
          let other : j ≡ r.issue → ⊥ = λ own'. true≢false (sym old ∙ ap (has seen) (sym own') ∙ new) in
          rw (
            row_gone seen r rows some' old,
            row_gone (j ∷ seen) r rows some' (has_other j r.issue seen other ∙ old),
            issue_other r rows j (λ e. other (sym e)),
          ) same
      go (stands some' new') (yes own) same rest =
          let alike-here = alike r (Memᴰ.head refl) (sym own) in
          let part = net (issues_of (r ∷ rows) r.issue) in
          subst (λ (k : ℕ). Splits (counted counts (netted_from seen (r ∷ rows))) (scaled counts row (net (issues_of (r ∷ rows) k))) (counted counts (netted_from (k ∷ seen) (r ∷ rows)))) (sym own)
          (rw (row_stands seen r rows some' new', row_gone (r.issue ∷ seen) r rows some' (has-own r.issue seen))
          (placed_same r row alike-here part (netted_from (r.issue ∷ seen) rows)))
      go (stands some' new') (no other) same rest =
          let part = net (issues_of (r ∷ rows) r.issue) in
          rw (
            row_stands seen r rows some' new',
            row_stands (j ∷ seen) r rows some' (has_other j r.issue seen other ∙ new'),
            issue_other r rows j (λ e. other (sym e)),
            same_seen _ _ (seen_swapped r.issue j seen) rows,
          )
          (omega (
            arith,
            placed-counted r part (netted_from (r.issue ∷ seen) rows),
            placed-counted r part (netted_from (j ∷ r.issue ∷ seen) rows),
            rest other,
          ))
