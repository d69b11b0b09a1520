-- The rows of a class, taken one after the other: none differs, and their amounts stand at the places of the first rows of their issues.
-- Assumes nothing.
use mathlib.Core.Path.{◌≡◌, refl, sym, ap, ap₂, ◌∙◌}
use mathlib.Core.Bool.{true, false, not}
use mathlib.Core.List.{List, [], ◌∷◌, ◌++◌, map}
use Prim.Native.Nat.{ℕ, zero, suc, ◌+◌, ◌*◌, ◌≤◌, ◌<◌}
use native.Mathlib.Nat.{zero-add}
use native.Mathlib.Numerals.{add-one}
use native.Mathlib.Decide.{dec_lt}
use native.Mathlib.Omega.{arith}
use lib.ListN.{length, get_or, take, set, length-map, get_or-map, get_or-eq_default}
use lib.Seq.{take-suc, take-length, length-take-le}
use Rattle.sums.specs.Sums.{span}
use Rattle.sums.specs.Every.{Every}
use Rattle.sums.specs.Inner.Tables.{tally}
use Rattle.sums.proofs.Every.{every_at, every_all, every_bound, every_implied, mapped_every}
use Rattle.sums.proofs.Sums.{sum_at≤}
use Rattle.sums.proofs.Spans.{span_last}
use Rattle.sums.proofs.Tables.{length_tally, tally_at, tally_last}
use Rattle.book.specs.declared.Row.{Row}
use Rattle.book.specs.Fields.{u16_at, u32_at}
use Rattle.book.specs.Rows.{decode}
use Rattle.book.specs.Refusals.{most_rows, most_amount, refused}
use Rattle.book.specs.declared.Refused.{Refused}
use Rattle.book.specs.Reasons.{numbers_of}
use Rattle.ladder.specs.declared.positions.Position.{Position}
use Rattle.ladder.specs.Position.{◌⊕◌, gross}
use Rattle.issues.specs.Comparing.{comparisons, comparisons_from}
use Rattle.issues.proofs.Comparing.{row_comparisons, comparisons-last, row_within}
use Rattle.issues.specs.Agreeing.{same_terms, differs}
use Rattle.netting.specs.Inner.Places.{kept_issues, first_row_of}
use Rattle.netting.specs.declared.firsts.Kept.{Kept}
use Rattle.netting.specs.Inner.Kept.{Keeps, FirstRowIs, FirstRowFound}
use Rattle.netting.specs.Inner.Gathering.{issue_numbers, gathered_in, longs_of, shorts_of, CanGather, AllGathered, DiffersAt}
use Rattle.amounts.specs.declared.positions.Amounts.{Amounts}
use Rattle.amounts.specs.Inner.Standing.{positions_in}
use Rattle.amounts.specs.Inner.Own.{amounts_of}
use Rattle.netting.proofs.Keeping.{many_kept}
use Rattle.netting.proofs.Sides.{longs-length, shorts-length, long_at, short_at, longs-added, shorts-added}
use Rattle.netting.proofs.Places.{Searched, searched_none, searched_next, searched_here, searched_all}
use Rattle.book.proofs.ClassRows.{no_row}
use Rattle.netting.proofs.FirstRows.{issue_at, first-row_known, first-row_within, differs_at}

-- ---- amounts added one after the other
span-length : (start n : ℕ) → length (span start n) ≡ n
unfolding span
span-length start zero = refl
span-length start (suc n) = ap suc (span-length (suc start) n)

module _ (amount : Row → ℕ) (first : ℕ) (rows : List Row) (table : List ℕ) where
  abbrev amount_at : ℕ → ℕ
  amount_at k = get_or (map amount rows) k 0

  pub gathered_length : (n : ℕ) → length (gathered_in amount first rows n table) ≡ length table
  gathered_length n = length_tally _ amount_at table (span 0 n)

  gathered_next : (n : ℕ) → gathered_in amount first rows (n + 1) table
      ≡ set (gathered_in amount first rows n table) (first + first_row_of (issue_numbers rows) n)
      (get_or (gathered_in amount first rows n table) (first + first_row_of (issue_numbers rows) n) 0 + amount_at n)
  gathered_next n =
      let more : span 0 (n + 1) ≡ span 0 n ++ (n ∷ []) = rw (add-one n) (span_last 0 n ∙ ap (λ (m : ℕ). span 0 n ++ (m ∷ [])) (zero-add n)) in
      ap (tally _ amount_at table) more ∙ tally_last _ amount_at table (span 0 n) n

  -- no sum is above the largest amount times the rows
  module _ (bound : ℕ) (within : Every (λ row. amount row ≤ bound) rows) where
    amount_within : (k : ℕ) → amount_at k ≤ bound
    amount_within k = go (dec_lt k (length rows))
      where
        go : Dec (k < length rows) → amount_at k ≤ bound
        go (yes h) = every_at {P = λ m. m ≤ bound} (mapped_every amount (λ row p. p) within) k 0 (omega (arith, length-map rows amount))
        go (no h) = omega (arith, get_or-eq_default (map amount rows) 0 {n = k} (omega (arith, length-map rows amount)))

    pub gathered_within : (n m : ℕ) → m < length table → get_or table m 0 ≡ 0 → get_or (gathered_in amount first rows n table) m 0 ≤ bound * n
    gathered_within n m h none' =
        omega (
          arith,
          tally_at (λ k. first + first_row_of (issue_numbers rows) k) amount_at table (span 0 n) m h,
          sum_at≤ (λ k. first + first_row_of (issue_numbers rows) k) amount_at m (span 0 n),
          every_bound amount_at bound (λ k p. p) (every_all {P = λ k. amount_at k ≤ bound} amount_within (span 0 n)),
          ap (λ (size : ℕ). bound * size) (span-length 0 n),
        )

taken_issues : (n : ℕ) (rows : List Row) → map (λ r. r.issue) (take n rows) ≡ take n (issue_numbers rows)
taken_issues zero rows = refl
taken_issues (suc n) [] = refl
taken_issues (suc n) (row ∷ rows) = ap (λ (l : List ℕ). row.issue ∷ l) (taken_issues n rows)

-- ---- a loop over the rows
pub no_long : no_row.long ≡ 0
unfolding decode u32_at u16_at
no_long = refl

pub no_short : no_row.short ≡ 0
unfolding decode u32_at u16_at
no_short = refl

pub record Adds (first : ℕ) (rows : List Row) (amounts₀ : Amounts) (row compared : ℕ) (kept : Kept) (amounts : Amounts) : Type 0 where
  pub passed : Searched (differs rows) rows row
  pub keeps : Keeps (take row (issue_numbers rows)) kept
  pub is_compared : compared ≡ comparisons (take row rows)
  pub few_compared : compared ≤ most_rows * row
  pub longs_are : longs_of amounts ≡ gathered_in (λ r. r.long) first rows row (longs_of amounts₀)
  pub shorts_are : shorts_of amounts ≡ gathered_in (λ r. r.short) first rows row (shorts_of amounts₀)

module _ (first : ℕ) (rows : List Row) (amounts₀ : Amounts) (can : CanGather first rows amounts₀) where
  pub adds_none : {kept : Kept} → kept.many ≡ 0 → Adds first rows amounts₀ 0 0 kept amounts₀
  unfolding kept_issues span comparisons_from
  adds_none {kept} none =
      record {
        passed = searched_none (differs rows) rows;
        keeps = record { many = omega arith; is_issues = rw none; is_places = rw none };
        is_compared = refl;
        few_compared = omega arith;
        longs_are = refl;
        shorts_are = refl;
      }

  module _ {row compared : ℕ} {kept : Kept} {amounts : Amounts}
      (now : Adds first rows amounts₀ row compared kept amounts) (h : row < length rows) where
    -- the issue of the row, after those of the rows before it
    size : length (take row (issue_numbers rows)) ≡ row
    size = length-take-le row (issue_numbers rows) (omega (arith, length-map rows (λ r. r.issue)))

    pub few_kept : kept.many ≤ row
    few_kept = omega (arith, now.keeps.many, size)

    module _ (leg : Row) (is_leg : leg ≡ get_or rows row no_row) {at compared' : ℕ} {kept' : Kept}
        (found : FirstRowFound leg.issue row kept at compared' kept') where
      is_first : FirstRowIs (take row (issue_numbers rows)) leg.issue at kept'
      is_first = found.after (take row (issue_numbers rows)) size now.keeps

      own_issue : leg.issue ≡ get_or (issue_numbers rows) row 0
      own_issue = ap (λ (r : Row). r.issue) is_leg ∙ sym (issue_at rows row)

      pub at_first_row : at ≡ first_row_of (issue_numbers rows) row
      at_first_row =
          is_first.is_at
          ∙ ap (λ (i : ℕ). first_row_of (take row (issue_numbers rows) ++ (i ∷ [])) (length (take row (issue_numbers rows)))) own_issue
          ∙ first-row_known (issue_numbers rows) row (omega (arith, length-map rows (λ r. r.issue)))

      added : (amount : Row → ℕ) → amount no_row ≡ 0 → (table₀ : List ℕ) {table : List ℕ} → table ≡ gathered_in amount first rows row table₀
          → set table (first + at) (get_or table (first + at) 0 + amount leg) ≡ gathered_in amount first rows (row + 1) table₀
      added amount none' table₀ is =
          let own : amount leg ≡ get_or (map amount rows) row 0 = ap amount is_leg ∙ sym (rw none' at (get_or-map amount rows row no_row)) in
          rw (is, at_first_row, own) (sym (gathered_next amount first rows table₀ row))

      pub first-row_low : at ≤ row
      first-row_low = omega (arith, at_first_row, first-row_within (issue_numbers rows) row (omega (arith, length-map rows (λ r. r.issue))))

      -- no sum there is above the largest amount times the rows of a book
      pub small_sums : gross (positions_in amounts (first + at)) ≤ 2 * (most_amount * most_rows)
      small_sums =
          omega (
            arith,
            sym (long_at amounts (first + at)) ∙ ap (λ (table : List ℕ). get_or table (first + at) 0) now.longs_are,
            sym (short_at amounts (first + at)) ∙ ap (λ (table : List ℕ). get_or table (first + at) 0) now.shorts_are,
            most (λ r. r.long) (longs_of amounts₀) (longs-length amounts₀) (λ m low. long_at amounts₀ m ∙ ap (λ (p : Position). p.long) (can.clear m low)) (every_implied (λ r p. p.0) can.within),
            most (λ r. r.short) (shorts_of amounts₀) (shorts-length amounts₀) (λ m low. short_at amounts₀ m ∙ ap (λ (p : Position). p.short) (can.clear m low)) (every_implied (λ r p. p.1) can.within),
          )
        where
          most : (amount : Row → ℕ) (table : List ℕ) → length table ≡ most_rows → ((m : ℕ) → first ≤ m → get_or table m 0 ≡ 0)
              → Every (λ r. amount r ≤ most_amount) rows → get_or (gathered_in amount first rows row table) (first + at) 0 ≤ most_amount * most_rows
          most amount table sized clear within =
              let bound = gathered_within amount first rows table most_amount within row (first + at) (omega (arith, can.room, first-row_low)) (clear (first + at) (omega arith)) in
              omega (arith, bound, can.room)

      -- the row there decides whether this one differs
      pub differs-here : differs rows (get_or rows row no_row) ≡ not (same_terms (get_or rows at no_row) leg)
      differs-here =
          differs_at rows row h
          ∙ ap (λ (k : ℕ). not (same_terms (get_or rows k no_row) (get_or rows row no_row))) (sym at_first_row)
          ∙ ap (λ (r : Row). not (same_terms (get_or rows at no_row) r)) (sym is_leg)

      -- the comparisons of the rows with this one
      made : compared' ≡ row_comparisons (kept_issues (take row (issue_numbers rows))) leg.issue
      made = found.is_compared ∙ ap (λ (l : List ℕ). row_comparisons l leg.issue) now.keeps.is_issues

      counted : compared + compared' ≡ comparisons (take (row + 1) rows)
      unfolding kept_issues
      counted =
          ap₂ ◌+◌ now.is_compared (made ∙ rw (sym (taken_issues row rows), is_leg))
          ∙ sym (comparisons-last [] (take row rows) (get_or rows row no_row))
          ∙ ap comparisons (sym (rw (add-one row) (take-suc rows row no_row h)))

      pub few_more : compared' ≤ kept.many
      few_more =
          omega (
            arith,
            made,
            row_within (kept_issues (take row (issue_numbers rows))) leg.issue,
            many_kept now.keeps (omega (arith, size, can.room)),
          )

      pub adds_next : same_terms (get_or rows at no_row) leg ≡ true → (amounts' : Amounts)
          → amounts'.rows ≡ set amounts.rows (first + at) (positions_in amounts (first + at) ⊕ amounts_of leg)
          → Adds first rows amounts₀ (row + 1) (compared + compared') kept' amounts'
      adds_next same amounts' is =
          record {
            passed = searched_next (differs rows) rows row no_row h now.passed (differs-here ∙ ap not same);
            keeps = rw (add-one row, take-suc (issue_numbers rows) row 0 (omega (arith, length-map rows (λ r. r.issue))), ← own_issue) is_first.keeps;
            is_compared = counted;
            few_compared = omega (arith, now.few_compared, few_more, few_kept, can.room);
            longs_are = longs-added amounts amounts' (first + at) (amounts_of leg) is ∙ added (λ r. r.long) no_long (longs_of amounts₀) now.longs_are;
            shorts_are = shorts-added amounts amounts' (first + at) (amounts_of leg) is ∙ added (λ r. r.short) no_short (shorts_of amounts₀) now.shorts_are;
          }

      pub adds_leaves : same_terms (get_or rows at no_row) leg ≡ false → {r : Refused} → numbers_of r ≡ refused 13 (first + row) → DiffersAt first rows r
      adds_leaves other is =
          let here = searched_here (differs rows) rows row no_row h now.passed (differs-here ∙ ap not other) in
          record { inside = rw here h; is = is ∙ ap (λ (n : ℕ). refused 13 (first + n)) (sym here) }

  pub adds_all : {row compared : ℕ} {kept : Kept} {amounts : Amounts}
      → Adds first rows amounts₀ row compared kept amounts → row ≡ length rows → AllGathered first rows compared amounts₀ amounts
  adds_all {row} {compared} {kept} {amounts} now all =
      record {
        agree = searched_all (differs rows) rows row (omega arith) now.passed ∙ all;
        is_compared = now.is_compared ∙ ap comparisons (rw all (take-length rows));
        few_compared = omega (arith, now.few_compared);
        longs_are = now.longs_are ∙ ap (λ (n : ℕ). gathered_in (λ r. r.long) first rows n (longs_of amounts₀)) all;
        shorts_are = now.shorts_are ∙ ap (λ (n : ℕ). gathered_in (λ r. r.short) first rows n (shorts_of amounts₀)) all;
      }
