-- The file is refused with the book's number; it is no longer than the book; and nothing shorter is refused so.
-- Assumes nothing.
use mathlib.Core.Path.{◌≡◌, refl, sym, ap, ◌∙◌}
use mathlib.Core.Bool.{Bool, true, false, cond}
use mathlib.Core.List.{List, [], ◌∷◌, ◌++◌, flat_map, append-nil}
use Prim.Native.Nat.{ℕ, suc, ◌+◌, ◌-◌, ◌*◌, ◌≤◌, ◌<◌}
use native.Mathlib.Nat.{zero-add}
use native.Mathlib.Decide.{dec_le}
use native.Mathlib.Omega.{arith}
use lib.Dec.{eqb}
use lib.ListN.{length, drop, get_or}
use lib.Seq.{drop-cons}
use borrow.Author.Tests.{lt-ltb, le-ltb, eqb-true, eqb-false, ne_eqb}
use Rattle.book.specs.declared.Counts.{Counts}
use Rattle.book.specs.declared.Refusal.{Refusal}
use Rattle.book.specs.declared.Row.{Row}
use Rattle.book.specs.Fields.{u16_at}
use Rattle.book.specs.Counts.{contents_size, row_size, counts_of, count_in, rows_before, count_of_rows, body_by, body_of}
use Rattle.book.specs.Rows.{chunks, rows_in, rows_of, decode}
use Rattle.book.specs.Legs.{Leg, leg_of, legs_of}
use Rattle.book.specs.Refusals.{most_rows, row_refusal, contents_refusal, refused, first_refusal, refusal_of}
use Rattle.book.proofs.Placing.{of_four}
use Rattle.book.proofs.Walking.{bytes_at, leg-at}
use Rattle.book.proofs.Faults.{contents_fault, of_contents, of_row}
use Rattle.layout.specs.Files.{two_bytes_of, four_bytes_of, row_bytes, contents_bytes, file_of}
use Rattle.layout.proofs.Whole.{contents_length, file_counts}
use Rattle.layout.proofs.Rows.{row_back}
use Rattle.shortest.specs.Shortest.{some_row, shortest_file}
use Rattle.shortest.specs.Inner.Places.{RowIn, one_in}
use Rattle.shortest.proofs.Outcome.{in_some, file_none, file_contents, file_row, row_within, row_size_lem, has-contents}

-- ---- contents alone
module _ (counts : Counts) where
  contents_back : counts_of (contents_bytes counts) ≡ counts
  unfolding file_of flat_map
  contents_back = ap counts_of (sym (append-nil (contents_bytes counts))) ∙ file_counts counts (λ class. [])

  many-refused : most_rows < count_of_rows counts → refusal_of (contents_bytes counts) ≡ refused 2 0
  unfolding refusal_of contents_refusal
  many-refused many = simp (contents_length counts, contents_back, lt-ltb _ _ many)

  few_refused : count_of_rows counts ≤ most_rows → 0 < count_of_rows counts → refusal_of (contents_bytes counts) ≡ refused 3 0
  unfolding refusal_of contents_refusal
  few_refused few some = simp (contents_length counts, contents_back, le-ltb _ _ few, ne_eqb contents_size (contents_size + row_size * count_of_rows counts) (λ e. omega arith))

-- ---- one row
module _ (row : Row) (class : ℕ) (low : 1 ≤ class) (high : class ≤ 4) where
  abbrev Alone : ℕ → List ℕ
  Alone class = contents_bytes (one_in class) ++ row_bytes row

  alone_legs : legs_of (Alone class) ≡ leg_of class (row_bytes row) ∷ []
  unfolding legs_of flat_map rows_of rows_in chunks body_of body_by counts_of u16_at count_in rows_before contents_bytes two_bytes_of one_in row_bytes four_bytes_of
  alone_legs = of_four (λ class. legs_of (Alone class) ≡ leg_of class (row_bytes row) ∷ []) refl refl refl refl class low high

  alone_contents : contents_refusal (Alone class) ≡ 0
  unfolding contents_refusal count_of_rows counts_of u16_at count_in contents_bytes two_bytes_of one_in row_bytes four_bytes_of flat_map
  alone_contents = of_four (λ class. contents_refusal (Alone class) ≡ 0) refl refl refl refl class low high

  alone_refused : (row_refusal class row ≡ 0 → ⊥) → refusal_of (Alone class) ≡ refused (row_refusal class row) 0
  unfolding refusal_of first_refusal
  alone_refused bad = simp (alone_contents, alone_legs, row_back row, ne_eqb _ _ bad)

-- ---- the file
none_refused : refusal_of [] ≡ refused 1 0
unfolding refusal_of contents_refusal
none_refused = refl

rows_shown : (counts : Counts) → count_of_rows (some_row counts) ≡ count_of_rows counts + (1 - count_of_rows counts)
unfolding some_row count_of_rows
rows_shown counts = go (eqb (count_of_rows counts) 0) refl
  where
    go : (test : Bool) → eqb (count_of_rows counts) 0 ≡ test
        → count_of_rows (cond test (record { interest = 1; equity = 0; exchange = 0; commodity = 0 }) counts) ≡ count_of_rows counts + (1 - count_of_rows counts)
    go true t = let none : count_of_rows counts ≡ 0 = eqb-true (count_of_rows counts) 0 t in omega arith
    go false t = let some : count_of_rows counts ≡ 0 → ⊥ = eqb-false (count_of_rows counts) 0 t in omega arith

module _ (s : List ℕ) where
  abbrev number : ℕ
  number = (refusal_of s).number

  -- the row that is written is the one that was refused
  row_refused : (many : 4 ≤ number) (class : ℕ) → RowIn (counts_of s) (refusal_of s).row class → row_refusal class (decode (bytes_at s (refusal_of s).row)) ≡ number
  row_refused many class place =
      let found = of_row s many in
      let row = (refusal_of s).row in
      let none = leg_of class [] in
      let leg = leg-at s found.sized.sized class row place.low place.high place.from place.to in
      let there : drop row (legs_of s) ≡ found.found.leg ∷ drop (suc row) (legs_of s) = rw (found.found.row_is, zero-add) found.found.is_leg in
      let here = drop-cons (legs_of s) row none (omega (arith, found.found.row_is, found.found.within)) in
      let same : found.found.leg ≡ leg_of class (bytes_at s row) = ap (λ (legs : List Leg). get_or legs 0 none) (sym there ∙ here) ∙ leg in
      sym (found.found.number_is ∙ ap (λ (l : Leg). row_refusal l.class l.row) same)

  pub file_refused : (number ≡ 0 → ⊥) → refusal_of (shortest_file s) ≡ refused number 0
  unfolding refused
  file_refused some = go (dec_le number 1) (dec_le number 3)
    where
      by_contents : 2 ≤ number → number < 4 → Dec (number ≤ 2) → refusal_of (shortest_file s) ≡ refused number 0
      by_contents low high d = rw (file_contents s low high) (by_number (ap (λ (r : Refusal). r.number) (of_contents s (omega arith) high)) d)
        where
          shown : count_of_rows (some_row (counts_of s)) ≡ count_of_rows (counts_of s) + (1 - count_of_rows (counts_of s))
          shown = rows_shown (counts_of s)

          by_number : number ≡ contents_refusal s → Dec (number ≤ 2) → refusal_of (contents_bytes (some_row (counts_of s))) ≡ refused number 0
          by_number own (yes two) =
              let is : number ≡ 2 = omega arith in
              let fault = (contents_fault s).0 (sym own ∙ is) in
              rw is (many-refused (some_row (counts_of s)) (omega (arith, shown, fault.many)))
          by_number own (no three) =
              let is : number ≡ 3 = omega arith in
              let fault = (contents_fault s).1 (sym own ∙ is) in
              rw is (few_refused (some_row (counts_of s)) (omega (arith, shown, fault.few)) (omega (arith, shown)))

      go : Dec (number ≤ 1) → Dec (number ≤ 3) → refusal_of (shortest_file s) ≡ refused number 0
      go (yes one) d =
          let is : number ≡ 1 = omega arith in
          rw (file_none s (omega arith), is) none_refused
      go (no more) (yes few) = by_contents (omega arith) (omega arith) (dec_le number 2)
      go (no more) (no many) =
          let place = in_some (counts_of s) (refusal_of s).row (row_within s (omega arith)) in
          let own = row_refused (omega arith) place.class place.there in
          let row = decode (bytes_at s (refusal_of s).row) in
          ap refusal_of (file_row s (omega arith) place.class place.there)
          ∙ alone_refused row place.class place.there.low place.there.high (λ e. some (sym own ∙ e))
          ∙ ap (λ (n : ℕ). refused n 0) own

  pub file_within : length (shortest_file s) ≤ length s
  file_within = go (dec_le number 1) (dec_le number 3)
    where
      go : Dec (number ≤ 1) → Dec (number ≤ 3) → length (shortest_file s) ≤ length s
      go (yes one) d = rw (file_none s (omega arith)) (omega arith)
      go (no more) (yes few) = rw (file_contents s (omega arith) (omega arith)) (omega (arith, contents_length (some_row (counts_of s)), has-contents s (omega arith)))
      go (no more) (no many) = omega (arith, row_size_lem s (omega arith), row_within s (omega arith), (of_row s (omega arith)).sized.sized)

  -- nothing shorter is refused with the same number
  pub file_least : (t : List ℕ) → length t < length (shortest_file s) → (refusal_of t).number ≡ number → ⊥
  file_least t shorter same = go (dec_le number 1) (dec_le number 3)
    where
      go : Dec (number ≤ 1) → Dec (number ≤ 3) → ⊥
      go (yes one) d = omega (arith, ap length (file_none s (omega arith)))
      go (no more) (yes few) =
          omega (arith, ap length (file_contents s (omega arith) (omega arith)), contents_length (some_row (counts_of s)), has-contents t (omega arith))
      go (no more) (no many) = omega (arith, row_size_lem s (omega arith), row_within t (omega arith), (of_row t (omega arith)).sized.sized)
