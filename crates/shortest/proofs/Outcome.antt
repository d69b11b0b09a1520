-- What the call writes, by the number of the book's refusal; and what it gives and leaves.
-- Assumes nothing.
use mathlib.Core.Path.{◌≡◌, refl, sym, ap, ◌∙◌}
use mathlib.Core.Bool.{Bool, false}
use mathlib.Core.List.{List, [], ◌∷◌, ◌++◌, flat_map}
use Prim.Native.Nat.{ℕ, ◌+◌, ◌≤◌, ◌<◌}
use native.Mathlib.Decide.{dec_le, dec_lt}
use native.Mathlib.Omega.{arith}
use lib.ListN.{length, take, drop, length-append}
use lib.Seq.{drop-cons}
use borrow.Author.Tests.{lt-ltb, le-ltb, ne_eqb}
use Rattle.std.proofs.Common.{Err}
use Rattle.book.specs.declared.Counts.{Counts}
use Rattle.book.specs.declared.Refusal.{Refusal}
use Rattle.book.specs.declared.Row.{Row}
use Rattle.book.specs.declared.reasons.Reason.TheVariants.{Room}
use Rattle.book.specs.declared.reasons.Refused.{Refused}
use Rattle.book.specs.Counts.{contents_size, row_size, counts_of, rows_before, count_of_rows}
use Rattle.book.specs.Rows.{decode}
use Rattle.book.specs.Legs.{Leg, leg_of, legs_of, of_class}
use Rattle.book.specs.Refusals.{refused, contents_refusal, refusal_of}
use Rattle.book.specs.Reasons.{number_of, numbers_of, at_start}
use Rattle.book.specs.Parts.{accepts}
use Rattle.book.proofs.Placing.{of_four, before-none, before-all}
use Rattle.book.proofs.Walking.{bytes_at, legs_length, leg-at}
use Rattle.book.proofs.Faults.{contents_fault, of_contents, of_row}
use Rattle.layout.specs.Written.{written}
use Rattle.layout.specs.Files.{two_bytes_of, four_bytes_of, row_bytes, contents_bytes, counts_by, file_of, book_by, book_of}
use Rattle.layout.specs.Room.{figure_of, output_of}
use Rattle.layout.proofs.Whole.{contents_length}
use Rattle.layout.proofs.Rows.{row_length}
use Rattle.layout.proofs.Writing.{written-more}
use Rattle.layout.proofs.Room.{no_room, enough_room}
use Rattle.shortest.specs.Shortest.{some_row, leg_alone, file_showing, shortest_file, shortest_refusal, shortest_answer, shortest_of, shortest_output}
use Rattle.shortest.specs.Inner.Places.{RowIn, one_in, file_answer}

-- ---- each row is one of a class
pub record InSome (counts : Counts) (row : ℕ) : Type 0 where
  pub class : ℕ
  pub there : RowIn counts row class

pub in_some : (counts : Counts) (row : ℕ) → row < count_of_rows counts → InSome counts row
in_some counts row within = go (dec_lt row (rows_before counts 2)) (dec_lt row (rows_before counts 3)) (dec_lt row (rows_before counts 4))
  where
    first : rows_before counts 1 ≡ 0
    first = before-none counts 1 (omega arith)

    all : rows_before counts 5 ≡ count_of_rows counts
    all = before-all counts 5 (omega arith)

    go : Dec (row < rows_before counts 2) → Dec (row < rows_before counts 3) → Dec (row < rows_before counts 4) → InSome counts row
    go (yes a) b c = record { class = 1; there = record { low = omega arith; high = omega arith; from = omega (arith, first); to = a } }
    go (no a) (yes b) c = record { class = 2; there = record { low = omega arith; high = omega arith; from = omega arith; to = b } }
    go (no a) (no b) (yes c) = record { class = 3; there = record { low = omega arith; high = omega arith; from = omega arith; to = c } }
    go (no a) (no b) (no c) = record { class = 4; there = record { low = omega arith; high = omega arith; from = omega arith; to = omega (arith, all) } }

-- ---- the file
module _ (s : List ℕ) where
  abbrev number : ℕ
  number = (refusal_of s).number

  pub file_none : number < 2 → shortest_file s ≡ []
  unfolding shortest_file file_showing
  file_none few = simp (lt-ltb _ _ few)

  -- of 2 the counts are those of the file, since they are not zero
  pub file_contents : 2 ≤ number → number < 4 → shortest_file s ≡ contents_bytes (some_row (counts_of s))
  unfolding shortest_file file_showing some_row refused
  file_contents low high = go (dec_le number 2)
    where
      go : Dec (number ≤ 2) → shortest_file s ≡ contents_bytes (some_row (counts_of s))
      go (yes few) =
          let two : number ≡ 2 = omega arith in
          let own = ap (λ (r : Refusal). r.number) (of_contents s (omega arith) high) in
          let many = ((contents_fault s).0 (sym own ∙ two)).many in
          simp (two, ne_eqb (count_of_rows (counts_of s)) 0 (λ none. omega arith))
      go (no more) = let three : number ≡ 3 = omega arith in simp three

  -- the book of one row
  alone : (class : ℕ) → 1 ≤ class → class ≤ 4 → (row : Row) → book_of (record { class = class; row = row } ∷ []) ≡ contents_bytes (one_in class) ++ row_bytes row
  unfolding book_of book_by file_of counts_by one_in of_class flat_map row_bytes two_bytes_of four_bytes_of
  alone class low high row =
      of_four (λ class. book_of (record { class = class; row = row } ∷ []) ≡ contents_bytes (one_in class) ++ row_bytes row) refl refl refl refl class low high

  pub file_row : 4 ≤ number → (class : ℕ) → RowIn (counts_of s) (refusal_of s).row class
      → shortest_file s ≡ contents_bytes (one_in class) ++ row_bytes (decode (bytes_at s (refusal_of s).row))
  unfolding shortest_file file_showing leg_alone
  file_row many class place =
      let found = of_row s many in
      let row = (refusal_of s).row in
      let leg = leg-at s found.sized.sized class row place.low place.high place.from place.to in
      let within : row < length (legs_of s) = omega (arith, found.found.row_is, found.found.within) in
      let one : take 1 (drop row (legs_of s)) ≡ leg_of class (bytes_at s row) ∷ [] =
      ap (take 1) (drop-cons (legs_of s) row (leg_of class []) within) ∙ ap (λ (l : Leg). l ∷ []) leg in
      simp (le-ltb number 2 (omega arith), ne_eqb number 2 (λ e. omega arith), ne_eqb number 3 (λ e. omega arith), one) (alone class place.low place.high (decode (bytes_at s row)))

  -- the refused row is one of the file
  pub row_within : 4 ≤ number → (refusal_of s).row < count_of_rows (counts_of s)
  row_within many = let found = of_row s many in omega (arith, found.found.row_is, found.found.within, legs_length s found.sized.sized)

  pub row_size_lem : 4 ≤ number → length (shortest_file s) ≡ contents_size + row_size
  row_size_lem many =
      let place = in_some (counts_of s) (refusal_of s).row (row_within many) in
      let row = decode (bytes_at s (refusal_of s).row) in
      ap length (file_row many place.class place.there)
      ∙ rw (length-append, contents_length (one_in place.class), row_length row)

  pub not_accepted : 0 < number → accepts s ≡ false
  unfolding accepts
  not_accepted some = ne_eqb number 0 (λ none. omega arith)

  -- a book that is refused with 2 or more has its contents
  pub has-contents : 2 ≤ number → contents_size ≤ length s
  unfolding refused
  has-contents low = go (dec_le 4 number)
    where
      go : Dec (4 ≤ number) → contents_size ≤ length s
      go (yes many) = (of_row s many).sized.contents
      go (no few) =
          let own = ap (λ (r : Refusal). r.number) (of_contents s (omega arith) (omega arith)) in
          contents_only own (dec_le number 2)
        where
          contents_only : number ≡ contents_refusal s → Dec (number ≤ 2) → contents_size ≤ length s
          contents_only own (yes two) = ((contents_fault s).0 (sym own ∙ omega arith)).contents
          contents_only own (no three) = ((contents_fault s).1 (sym own ∙ omega arith)).contents

-- some contents and then a row
pub both_written : (out : List ℕ) {out' out'' : List ℕ} {counts counts' : Counts} {row row' : Row} → contents_size + row_size ≤ length out → counts ≡ counts' → row ≡ row'
    → out' ≡ written out 0 (contents_bytes counts) → out'' ≡ written out' contents_size (row_bytes row) → out'' ≡ written out 0 (contents_bytes counts' ++ row_bytes row')
both_written out {counts} {row} room same-counts same_row head tail =
    written-more out (contents_bytes counts) (row_bytes row) 0 contents_size head tail (omega (arith, contents_length counts)) (omega (arith, row_length row))
    ∙ rw (same-counts, same_row)

-- ---- the answer and the output
module _ (s out file : List ℕ) (is : shortest_file s ≡ file) (size : ℕ) (sized : length file ≡ size) where
  pub kept : accepts s ≡ false → length out < size → {r : Refused} → r ≡ at_start Room
      → (file_answer (Err r) ≡ shortest_of s (length out)) × (out ≡ shortest_output s out)
  unfolding shortest_answer shortest_of shortest_output shortest_refusal numbers_of number_of refused figure_of output_of
  kept tells short why =
      let twelve = no_room size (length out) short in
      (rw (why, is, sized, twelve, tells), rw (is, sized, twelve))

  pub wrote : (accepted : Bool) → accepts s ≡ accepted → size ≤ length out → {out' : List ℕ} → out' ≡ written out 0 file
      → (record { refusal = refused 0 0; length = size; accepted = accepted } ≡ shortest_of s (length out)) × (out' ≡ shortest_output s out)
  unfolding shortest_of shortest_output shortest_refusal refused figure_of output_of
  wrote accepted tells room writes =
      let none = enough_room size (length out) room in
      (rw (is, sized, none, tells), writes ∙ rw (is, sized, none))
