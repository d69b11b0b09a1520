-- What is written keeps the file's own bytes (P1, P2, P3, P12).
-- Assumes nothing.
use Prim.Native.Nat.{ℕ, ◌+◌, ◌*◌, ◌≤◌}
use mathlib.Core.Path.{◌≡◌, refl, sym, ap, ◌∙◌}
use mathlib.Core.Bool.{Bool, true, false, cond}
use mathlib.Core.List.{List, [], ◌∷◌, map, Sublistᴰ}
use native.Mathlib.Omega.{arith}
use lib.Dec.{eqb}
use lib.ListN.{take, drop}
use lib.Seq.{drop_at}
use borrow.Author.Tests.{eqb-true, eqb-false, ne_eqb}
use Rattle.sums.specs.Every.{Every, none, also}
use Rattle.book.specs.declared.Row.{Row}
use Rattle.book.specs.Fields.{u16_at}
use Rattle.book.specs.Counts.{contents_size, row_size, counts_of, count_of_rows}
use Rattle.book.specs.Rows.{decode, rows_of}
use Rattle.book.specs.Refusals.{refusal_of}
use Rattle.book.proofs.Faults.{of_row}
use Rattle.ladder.specs.declared.positions.Position.{Position}
use Rattle.ladder.specs.Position.{gross, net}
use Rattle.issues.specs.Issues.{issues_of, has, holding, placed, netted_from}
use Rattle.layout.specs.Files.{Bytes, book_by, two_bytes_of, four_bytes_of, row_bytes, contents_bytes}
use Rattle.layout.proofs.Whole.{two_bytes, contents_length}
use Rattle.layout.proofs.Rows.{book_rows}
use Rattle.layout.proofs.Own.{own_contents, own_row_at, own_rows}
use Rattle.charges.specs.Report.{class_rows}
use Rattle.netting.specs.Netted.{netted_class, netted_book}
use Rattle.offsetting.specs.Offset.{offset_by, offset_book}
use Rattle.offsetting.specs.NetOffset.{net_offset_book}
use Rattle.shortest.specs.Shortest.{some_row, file_showing, shortest_file}
use Rattle.shortest.specs.Inner.Places.{one_in}
use Rattle.shortest.proofs.Outcome.{in_some, file_contents, file_row, row_within, has-contents}
use Rattle.claims.specs.Bytes.{issue_in, Kept, no_rows, stays, netted, dropped, later, NettingBytesHolds, OffsettingBytesHolds, NetOffsetBytesHolds, ShortestBytesHolds}
use Rattle.claims.proofs.Writing.{classes-each}
use Rattle.claims.proofs.Offsetting.{by_class_some}

-- ---- netting
issue_bytes : (row : Row) → u16_at (row_bytes row) 6 ≡ row.issue
unfolding u16_at row_bytes two_bytes_of four_bytes_of
issue_bytes row = two_bytes row.issue

first-eight : (row : Row) (position : Position)
    → take 8 (row_bytes (holding row position)) ≡ take 8 (row_bytes row)
unfolding row_bytes two_bytes_of four_bytes_of
first-eight row position = refl

netted_kept : (seen : List ℕ) (rows : List Row)
    → Kept seen (map row_bytes (netted_from seen rows)) (map row_bytes rows)
unfolding netted_from placed
netted_kept seen [] = no_rows
netted_kept seen (row ∷ rows) =
    go (eqb row.issue 0) refl (has seen row.issue) refl (eqb (gross position) 0)
    (netted_kept seen rows) (netted_kept (row.issue ∷ seen) rows)
  where
    position : Position
    position = net (issues_of (row ∷ rows) row.issue)

    issue : issue_in (row_bytes row) ≡ row.issue
    issue = issue_bytes row

    numbered : eqb row.issue 0 ≡ false → issue_in (row_bytes row) ≡ 0 → ⊥
    numbered e zero-issue = eqb-false _ _ e (sym issue ∙ zero-issue)

    as_read : {old : Bool} → has seen row.issue ≡ old → has seen (issue_in (row_bytes row)) ≡ old
    as_read h = rw issue h

    rest : {written rows : List (List ℕ)} → Kept (row.issue ∷ seen) written rows
        → Kept (issue_in (row_bytes row) ∷ seen) written rows
    rest kept = rw issue kept

    go : (none : Bool) → eqb row.issue 0 ≡ none → (old : Bool) → has seen row.issue ≡ old
        → (even : Bool)
        → Kept seen (map row_bytes (netted_from seen rows)) (map row_bytes rows)
        → Kept (row.issue ∷ seen) (map row_bytes (netted_from (row.issue ∷ seen) rows)) (map row_bytes rows)
        → Kept seen (map row_bytes (cond none (row ∷ netted_from seen rows) (cond old (netted_from seen rows)
        (cond even (netted_from (row.issue ∷ seen) rows) (holding row position ∷ netted_from (row.issue ∷ seen) rows)))))
        (row_bytes row ∷ map row_bytes rows)
    go true e old h even after more = stays (issue ∙ eqb-true _ _ e) after
    go false e true h even after more = later (numbered e) (as_read h) after
    go false e false h true after more = dropped (numbered e) (as_read h) (rest more)
    go false e false h false after more = netted (numbered e) (as_read h) (first-eight row position) (rest more)

pub netting_bytes : NettingBytesHolds
unfolding netted_book
netting_bytes s every =
    classes-each (λ class low high.
    rw (book_rows (netted_class s) class low high, ← own_rows every class low high) (netted_kept [] (class_rows s class)))

-- ---- offsetting
some_mapped : {A B : Type 0} (f : A → B) {some all : List A} → Sublistᴰ some all
    → Sublistᴰ (map f some) (map f all)
some_mapped f Sublistᴰ.slnil = Sublistᴰ.slnil
some_mapped f (Sublistᴰ.cons less) = Sublistᴰ.cons (some_mapped f less)
some_mapped f (Sublistᴰ.cons-cons e less) = Sublistᴰ.cons-cons (ap f e) (some_mapped f less)

-- the book of the rows of each class, the interest rows offset, beside the rows themselves
module _ (rows : ℕ → List Row) where
  offset_interest : Sublistᴰ (rows_of (book_by (offset_by rows)) 1) (map row_bytes (rows 1))
  offset_interest = rw (book_rows (offset_by rows) 1 (omega arith) (omega arith)) (some_mapped row_bytes (by_class_some rows 1))

  offset_others : (class : ℕ) → 2 ≤ class → class ≤ 4
      → rows_of (book_by (offset_by rows)) class ≡ map row_bytes (rows class)
  unfolding offset_by
  offset_others class low high =
      book_rows (offset_by rows) class (omega arith) high
      ∙ rw (ne_eqb class 1 (λ e. omega arith))

-- what holds of each class but the first
but_interest : {P : ℕ → Type 0} → ((class : ℕ) → 2 ≤ class → class ≤ 4 → P class)
    → Every P (2 ∷ 3 ∷ 4 ∷ [])
but_interest each =
    also (each 2 (omega arith) (omega arith)) (also (each 3 (omega arith) (omega arith)) (also (each 4 (omega arith) (omega arith)) none))

pub offsetting_bytes : OffsettingBytesHolds
unfolding offset_book
offsetting_bytes s every =
    record {
      interest = rw (← own_rows every 1 (omega arith) (omega arith)) (offset_interest (class_rows s));
      others = but_interest (λ class low high. offset_others (class_rows s) class low high ∙ own_rows every class (omega arith) high);
    }

-- ---- the one call
pub net-offset_bytes : NetOffsetBytesHolds
unfolding net_offset_book netted_book
net-offset_bytes s =
    record {
      interest = rw (book_rows (netted_class s) 1 (omega arith) (omega arith)) (offset_interest (netted_class s));
      others = but_interest (λ class low high.
          offset_others (netted_class s) class low high ∙ sym (book_rows (netted_class s) class (omega arith) high));
    }

-- ---- the shortest file
module _ (s : List ℕ) (every : Bytes s) where
  of-2 : (refusal_of s).number ≡ 2 → shortest_file s ≡ take contents_size s
  unfolding shortest_file file_showing
  of-2 two = rw two (own_contents every (has-contents s (omega arith)))

  of-3 : (refusal_of s).number ≡ 3 → (count_of_rows (counts_of s) ≡ 0 → ⊥)
      → shortest_file s ≡ take contents_size s
  unfolding some_row
  of-3 three some =
      file_contents s (omega arith) (omega arith) ∙ rw (ne_eqb (count_of_rows (counts_of s)) 0 some) (own_contents every (has-contents s (omega arith)))

  of_row_bytes : 4 ≤ (refusal_of s).number
      → drop contents_size (shortest_file s) ≡ take row_size (drop (contents_size + row_size * (refusal_of s).row) s)
  of_row_bytes many =
      let place = in_some (counts_of s) (refusal_of s).row (row_within s many) in
      let row = row_bytes (decode (take row_size (drop (contents_size + row_size * (refusal_of s).row) s))) in
      ap (drop contents_size) (file_row s many place.class place.there)
      ∙ drop_at (contents_bytes (one_in place.class)) row contents_size (contents_length (one_in place.class))
      ∙ own_row_at every (contents_size + row_size * (refusal_of s).row) (omega (arith, (of_row s many).sized.sized, row_within s many))

pub shortest_bytes : ShortestBytesHolds
shortest_bytes s every = record { of-2 = of-2 s every; of-3 = of-3 s every; of_row = of_row_bytes s every }
