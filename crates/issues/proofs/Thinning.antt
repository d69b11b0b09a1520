-- Netting takes the same amount off both sides, whatever the rows count for; and so does netting two lists together, beside netting each alone.
-- Assumes nothing.
use Prim.Native.Nat.{ℕ, ◌+◌, ◌-◌}
use mathlib.Core.Path.{◌≡◌, refl, sym, ap, subst, ◌∙◌}
use mathlib.Core.Bool.{true≢false, cond}
use mathlib.Core.List.Memᴰ
use mathlib.Core.List.{List, [], ◌∷◌, ◌++◌, Memᴰ}
use native.Mathlib.Omega.{arith}
use lib.Dec.{eqb}
use Rattle.sums.specs.Sums.{sum_of}
use Rattle.book.specs.declared.Row.{Row}
use Rattle.ladder.specs.declared.positions.Position.{Position}
use Rattle.ladder.specs.Position.{net, ◌⊕◌}
use Rattle.ladder.proofs.Matching.{Takes, same_position, takes_matched, net-joined}
use Rattle.issues.specs.Issues.{issues_of, has, netted_from, netted_rows}
use Rattle.issues.specs.Agreeing.{SameTerms}
use Rattle.issues.proofs.Walking.{amounts, issue_own, Place, stays, gone, stands, place, row_stays, row_gone, row_stands}
use Rattle.issues.proofs.Counted.{bare, same_bare, Measure, counted, counted_append, scaled, placed-counted, split_off}

-- rows of one issue have the same terms
abbrev pub OneTerms : List Row → Type 0
OneTerms rows = (a b : Row) → Memᴰ a rows → Memᴰ b rows → (a.issue ≡ 0 → ⊥) → a.issue ≡ b.issue → SameTerms a b

-- the same taken off both sides, however much it is
abbrev pub Less : (before after : Position) → Type 0
Less before after = Takes (before.long - after.long) before after

-- however rows are counted, the other rows are left when the same is taken off both sides
pub record Thins (rows rows' : List Row) : Type 0 where
  pub takes : {counts : Row → ℕ → ℕ} → Measure counts → Less (counted counts rows) (counted counts rows')

-- ---- positions
-- what two nets can match that neither could
nets-less : (a b : Position) → Less (net a ⊕ net b) (net (a ⊕ b))
nets-less a b = omega (arith, takes_matched a, takes_matched b, takes_matched (a ⊕ b), net-joined a b)

module _ {counts : Row → ℕ → ℕ} (m : Measure counts) where
  scaled_less : (row : Row) (before after : Position) → Less before after → Less (scaled counts row before) (scaled counts row after)
  scaled_less row before after t =
      let taken = before.long - after.long in
      let of : (n : ℕ) → counts row (taken + n) ≡ counts row taken + counts row n = m.adds row taken in
      omega (arith, ap (counts row) t.longs, of after.long, ap (counts row) t.shorts, of after.short)

  -- two lists netted together, after some issues
  joined-from : (seen : List ℕ) (rows more : List Row) → OneTerms (rows ++ more)
      → Less (counted counts (netted_from seen rows) ⊕ counted counts (netted_from seen more)) (counted counts (netted_from seen (rows ++ more)))
  unfolding netted_from sum_of
  joined-from seen [] more terms = omega arith
  joined-from seen (row ∷ rows) more terms =
      go (place seen row) (joined-from seen rows more later) (joined-from (row.issue ∷ seen) rows more later)
    where
      later : OneTerms (rows ++ more)
      later a b in-a in_b = terms a b (Memᴰ.tail in-a) (Memᴰ.tail in_b)

      all : List ℕ → Type 0
      all old = Less (counted counts (netted_from old rows) ⊕ counted counts (netted_from old more)) (counted counts (netted_from old (rows ++ more)))

      go : Place seen row → all seen → all (row.issue ∷ seen)
          → Less (counted counts (netted_from seen (row ∷ rows)) ⊕ counted counts (netted_from seen more)) (counted counts (netted_from seen (row ∷ rows ++ more)))
      go (stays e) same rest = rw (row_stays seen row rows e, row_stays seen row (rows ++ more) e) (omega (arith, same))
      go (gone some old) same rest = rw (row_gone seen row rows some old, row_gone seen row (rows ++ more) some old) same
      go (stands some new) same rest =
          let j = row.issue in
          let one = issues_of (row ∷ rows) j in
          let other = issues_of more j in
          let both : issues_of (row ∷ rows ++ more) j ≡ one ⊕ other = counted_append (λ r n. cond (eqb r.issue j) n 0) (row ∷ rows) more in
          let alike : (r : Row) → Memᴰ r more → r.issue ≡ j → bare r ≡ bare row =
          λ r member e. same_bare e (terms r row (Memᴰ.append_right (row ∷ rows) member) (Memᴰ.head refl) (λ none. some (sym e ∙ none)) e) in
          rw (row_stands seen row rows some new, row_stands seen row (rows ++ more) some new, both)
          (omega (
            arith,
            placed-counted m row (net one) (netted_from (j ∷ seen) rows),
            placed-counted m row (net (one ⊕ other)) (netted_from (j ∷ seen) (rows ++ more)),
            split_off m j row seen more some new alike,
            scaled_less row (net one ⊕ net other) (net (one ⊕ other)) (nets-less one other),
            m.adds row (net one).long (net other).long,
            m.adds row (net one).short (net other).short,
            rest,
          ))

  -- one row alone
  one_less : (row : Row) → Less (counted counts (row ∷ [])) (counted counts (netted_rows (row ∷ [])))
  unfolding netted_from sum_of has
  one_less row = go (place [] row)
    where
      go : Place [] row → Less (counted counts (row ∷ [])) (counted counts (netted_rows (row ∷ [])))
      go (stays e) = rw (row_stays [] row [] e) (omega arith)
      go (gone some old) = absurd (true≢false (sym old))
      go (stands some new) =
          let own : issues_of (row ∷ []) row.issue ≡ amounts row = issue_own row [] row.issue refl ∙ same_position (omega arith) (omega arith) in
          rw (row_stands [] row [] some new, own)
          (omega (
            arith,
            placed-counted m row (net (amounts row)) [],
            scaled_less row (amounts row) (net (amounts row)) (omega (arith, takes_matched (amounts row))),
          ))

  -- and all rows, one after the other
  netted_less : (rows : List Row) → OneTerms rows → Less (counted counts rows) (counted counts (netted_rows rows))
  unfolding netted_from sum_of
  netted_less [] terms = omega arith
  netted_less (row ∷ rows) terms =
      omega (
        arith,
        one_less row,
        netted_less rows (λ a b in-a in_b. terms a b (Memᴰ.tail in-a) (Memᴰ.tail in_b)),
        joined-from [] (row ∷ []) rows terms,
      )

pub netting_thins : (rows : List Row) → OneTerms rows → Thins rows (netted_rows rows)
netting_thins rows terms = record { takes = λ m. netted_less m rows terms }

pub joining_thins : (rows more : List Row) → OneTerms (rows ++ more) → Thins (netted_rows rows ++ netted_rows more) (netted_rows (rows ++ more))
joining_thins rows more terms =
    record {
      takes = λ {counts} m.
          subst (λ (both : Position). Less both (counted counts (netted_rows (rows ++ more))))
          (sym (counted_append counts (netted_rows rows) (netted_rows more)))
          (joined-from m [] rows more terms);
    }
