-- The shortest file that shows a refusal (P12).
-- Assumes nothing.
use mathlib.Core.Path.{◌≡◌, refl, sym, ap, ◌∙◌}
use mathlib.Core.Bool.{Bool, true, false, cond, not, ◌&&◌, ◌||◌, beq}
use mathlib.Core.List.{List}
use Prim.Native.Nat.{ℕ, ◌≤◌, ◌<◌}
use native.Mathlib.Decide.{dec_le}
use native.Mathlib.Omega.{arith}
use lib.Dec.{eqb, ltb}
use lib.ListN.{length, take}
use borrow.Author.Tests.{eqb-true, eq-eqb}
use Rattle.book.specs.declared.Refusal.{Refusal}
use Rattle.book.specs.declared.Row.{Row}
use Rattle.book.specs.Counts.{counts_of}
use Rattle.book.specs.Refusals.{last_group, least_kind, most_kind, most_days, most_coupon, most_fixing, most_final, most_amount, floating, group_refusal, plain_refusal, note_refusal, terms_refusal, amounts_refusal, or_else, row_refusal, refused, refusal_of}
use Rattle.book.specs.Parts.{accepts}
use Rattle.book.proofs.Acceptance.{accepted, refused-with_none}
use Rattle.book.proofs.Faults.{of_row}
use Rattle.table.specs.Loaded.{table_size, table_of, weights_hold, percents_hold, table_refusal}
use Rattle.charges.specs.Report.{report_with, refused_report, charged_report, before, report_of}
use Rattle.layout.specs.Room.{figure_of, output_of}
use Rattle.layout.proofs.Whole.{contents_length}
use Rattle.layout.proofs.Room.{enough_room}
use Rattle.shortest.specs.Shortest.{some_row, shortest_file, shortest_refusal, shortest_of, shortest_output}
use Rattle.shortest.proofs.Outcome.{file_none, file_contents, row_size_lem, not_accepted}
use Rattle.shortest.proofs.Shows.{file_refused, file_within, file_least}
use Rattle.claims.specs.Shortest.{ShortestHolds, ShortestCallHolds}
use Rattle.claims.proofs.Writing.{book_bytes}

-- by an accepted table the charge call refuses what the reader refuses
report_refusal : (table : List ℕ) → table_refusal table ≡ 0 → (s : List ℕ) → (report_of table s).refusal ≡ refusal_of s
unfolding report_of before report_with charged_report refused_report
report_refusal table fine s = rw fine (go (eqb (refusal_of s).number 0) refl)
  where
    go : (passes : Bool) → eqb (refusal_of s).number 0 ≡ passes → (cond passes (charged_report (table_of table) s) (refused_report (refusal_of s))).refusal ≡ refusal_of s
    go true t = sym (refused-with_none s (accepted s (eqb-true _ _ t)))
    go false t = refl

-- and by any other it gives the table's own number
report_table : (table s : List ℕ) → (table_refusal table ≡ 0 → ⊥) → (report_of table s).refusal.number ≡ table_refusal table
unfolding report_of before refused report_with refused_report
report_table table s some = go (eqb (table_refusal table) 0) refl
  where
    go : (none : Bool) → eqb (table_refusal table) 0 ≡ none → (report_of table s).refusal.number ≡ table_refusal table
    go true t = absurd (some (eqb-true _ _ t))
    go false t = rw t (rw t refl)

-- ---- numbers: a book's are at most 15, a table's 18 and 19
most_of_lem : (test : Bool) (a b most : ℕ) → a ≤ most → b ≤ most → cond test a b ≤ most
most_of_lem true a b most first second = first
most_of_lem false a b most first second = second

two_most : (one other : Bool) (a b : ℕ) → a ≤ 15 → b ≤ 15 → cond one a (cond other b 0) ≤ 15
two_most one other a b first second = most_of_lem one a _ 15 first (most_of_lem other b 0 15 second (omega arith))

or_most : (number next : ℕ) → number ≤ 15 → next ≤ 15 → or_else number next ≤ 15
unfolding or_else
or_most number next first second = most_of_lem (eqb number 0) next number 15 second first

row_most : (class : ℕ) (row : Row) → row_refusal class row ≤ 15
unfolding row_refusal group_refusal terms_refusal note_refusal plain_refusal amounts_refusal
row_most class row =
    or_most (group_refusal class row) _
    (two_most (ltb last_group row.group) (ltb row.kind (least_kind class) || ltb (most_kind class) row.kind) 4 5 (omega arith) (omega arith))
    (or_most (terms_refusal class row) (amounts_refusal row)
    (most_of_lem (floating class row.kind) (note_refusal row) (plain_refusal class row) 15
    (most_of_lem (ltb most_fixing row.days || (ltb most_final row.coupon || ltb row.coupon row.days)) 15 0 15 (omega arith) (omega arith))
    (two_most (ltb (most_days class) row.days) (ltb (most_coupon class) row.coupon) 6 7 (omega arith) (omega arith)))
    (two_most (beq (eqb row.long 0) (eqb row.short 0)) (ltb most_amount row.long || ltb most_amount row.short) 8 9 (omega arith) (omega arith)))

number_most : (s : List ℕ) → (refusal_of s).number ≤ 15
number_most s = go (dec_le 4 (refusal_of s).number)
  where
    go : Dec (4 ≤ (refusal_of s).number) → (refusal_of s).number ≤ 15
    go (yes many) = let found = (of_row s many).found in omega (arith, found.number_is, row_most found.leg.class found.leg.row)
    go (no few) = omega arith

table_least : (table : List ℕ) → (table_refusal table ≡ 0 → ⊥) → 18 ≤ table_refusal table
unfolding table_refusal
table_least table = go (not (eqb (length table) table_size)) (not (weights_hold 0 (table_of table).weights && percents_hold (table_of table).percents))
  where
    go : (short broken : Bool) → (◌≡◌ {A = ℕ} (cond short 18 (cond broken 19 0)) 0 → ⊥) → 18 ≤ cond short 18 (cond broken 19 0)
    go true broken some = omega arith
    go false true some = omega arith
    go false false some = absurd (some refl)

shorter_not : (s table t : List ℕ) → length t < length (shortest_file s) → (report_of table t).refusal.number ≡ (refusal_of s).number → ⊥
shorter_not s table t shorter e = go (dec_le (table_refusal table) 0)
  where
    go : Dec (table_refusal table ≤ 0) → ⊥
    go (yes none) = file_least s t shorter (sym (ap (λ (r : Refusal). r.number) (report_refusal table (omega arith) t)) ∙ e)
    go (no some) = omega (arith, report_table table t (λ none. some (omega arith)), table_least table (λ none. some (omega arith)), number_most s)

pub shortest : ShortestHolds
shortest s bad =
    record {
      same = λ table fine. report_refusal table fine (shortest_file s) ∙ file_refused s bad;
      no_longer = file_within s;
      least = shorter_not s;
    }

-- ---- the call
module _ (s out : List ℕ) where
  abbrev number : ℕ
  number = (refusal_of s).number

  bytes : (shortest_refusal s (length out)).number ≡ 0 → take (shortest_of s (length out)).length (shortest_output s out) ≡ shortest_file s
  unfolding shortest_of shortest_output figure_of output_of
  bytes e = rw (eq-eqb _ _ e) (book_bytes (shortest_file s) out)

  size : length (shortest_file s) ≤ 24
  size = go (dec_le number 1) (dec_le number 3)
    where
      go : Dec (number ≤ 1) → Dec (number ≤ 3) → length (shortest_file s) ≤ 24
      go (yes one) d = omega (arith, ap length (file_none s (omega arith)))
      go (no more) (yes few) = omega (arith, ap length (file_contents s (omega arith) (omega arith)), contents_length (some_row (counts_of s)))
      go (no more) (no many) = omega (arith, row_size_lem s (omega arith))

  -- nothing is written of an accepted book, and for nothing there is room
  unmarked : ((shortest_refusal s (length out)).number ≡ 0 → ⊥) → accepts s ≡ false
  unfolding shortest_refusal refused
  unmarked refused-call = go (dec_le number 0)
    where
      go : Dec (number ≤ 0) → accepts s ≡ false
      go (yes none) = absurd (refused-call (ap (λ (r : Refusal). r.number) (enough_room (length (shortest_file s)) (length out) (omega (arith, ap length (file_none s (omega arith)))))))
      go (no some) = not_accepted s (omega arith)

pub shortest_call : ShortestCallHolds
unfolding shortest_refusal shortest_of
shortest_call s out =
    record {
      bytes = bytes s out;
      enough = λ room. enough_room (length (shortest_file s)) (length out) (omega (arith, size s out));
      unmarked = unmarked s out;
    }
