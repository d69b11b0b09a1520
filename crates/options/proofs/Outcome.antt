-- What the call gives and leaves: 16 or 17, then 12, or the book, the charges for gamma and vega, and the report.
-- Assumes nothing.
use mathlib.Core.Path.{◌≡◌, refl, sym, ap, ◌∙◌}
use mathlib.Core.List.{List, [], ◌++◌, map, append-nil}
use mathlib.Core.List as list
use Prim.Native.Nat.{ℕ, ◌+◌, ◌*◌, ◌≤◌, ◌<◌}
use native.Mathlib.Omega.{arith}
use borrow.Author.Tests.{ne_eqb}
use lib.ListN.{length, get_or, take, drop, length-append}
use Rattle.std.specs.List.{flat_map}
use Rattle.std.proofs.lemmas.List.{take_more, flat_map_more}
use Rattle.std.proofs.lemmas.List.Folds.{length-flat_map-take}
use lib.Seq.{take_at}
use Rattle.book.specs.declared.Counts.{Counts}
use Rattle.book.specs.declared.Refusal.{Refusal}
use Rattle.book.specs.Counts.{contents_size, row_size, count_of_rows}
use Rattle.book.specs.Refusals.{refused}
use Rattle.book.specs.declared.reasons.Reason.TheVariants.{Room}
use Rattle.book.specs.declared.Refused.{Refused}
use Rattle.book.specs.Reasons.{number_of, numbers_of, at_start}
use Rattle.book.proofs.Numbers.{some_told}
use Rattle.std.proofs.Common.{Result, Ok, Err}
use Rattle.std.specs.Result.{IsErrAnd}
use Rattle.layout.specs.Written.{written}
use Rattle.layout.specs.Files.{contents_bytes, file_of, book_by, book_of}
use Rattle.layout.specs.Room.{room_refusal, figure_of, output_of}
use Rattle.layout.proofs.Room.{or_first, or_next_lem, no_room, enough_room, output_kept}
use Rattle.layout.proofs.Rows.{book_length}
use Rattle.layout.proofs.Whole.{contents_length}
use Rattle.layout.proofs.Writing.{written-more}
use Rattle.table.specs.Loaded.{standard_bytes}
use Rattle.charges.specs.declared.Report.{Report}
use Rattle.charges.specs.Report.{report_of}
use Rattle.options.specs.Table.{OptionRow, options_of}
use Rattle.options.specs.Refusals.{options_refusal}
use Rattle.options.specs.Delta.{delta_book}
use Rattle.options.specs.Greeks.{gamma_charge, vega_charge}
use Rattle.options.specs.declared.Priced.{Priced as Figures}
use Rattle.options.specs.Options.{option_classes, options_book, pricing_refusal, by_class, priced_of, pricing_output, refused_pricing, priced_answer}
use Rattle.options.specs.Inner.Writing.{delta_rows, delta_bytes, delta_counts}
use Rattle.options.proofs.Ranges.{accepted_options}
use Rattle.options.proofs.Whole.{legs_clean, no_interest_lem}

-- ---- the book
-- its length by the counts
pub size_is : (s : List ℕ) → length (options_book s) ≡ contents_size + row_size * count_of_rows (delta_counts (options_of s))
unfolding options_book delta_book book_of delta_counts delta_rows
size_is s = book_length (λ class. delta_rows class (options_of s))

-- the bytes of some classes
abbrev pub rows_of : List ℕ → List ℕ → List ℕ
rows_of s classes = flat_map (λ class. delta_bytes class (options_of s)) classes

-- its bytes: none are of interest
module _ (s : List ℕ) (taken : (options_refusal s).number ≡ 0) where
  pub rows_of_interest : delta_rows 1 (options_of s) ≡ []
  unfolding delta_rows
  rows_of_interest = no_interest_lem (legs_clean (accepted_options s taken).every)

  none_of_interest : delta_bytes 1 (options_of s) ≡ []
  unfolding delta_bytes list.flat_map
  none_of_interest = rw rows_of_interest

  pub book_bytes : options_book s ≡ contents_bytes (delta_counts (options_of s)) ++ rows_of s option_classes
  unfolding options_book delta_book book_of book_by file_of delta_counts delta_bytes delta_rows list.flat_map
  book_bytes = ap (λ (interest : List ℕ). contents_bytes (delta_counts (options_of s)) ++ (interest ++ rows_of s option_classes)) none_of_interest

-- written class by class
pub record Classes (s : List ℕ) (counts : Counts) (out₀ out : List ℕ) (end : ℕ) (classes : List ℕ) : Type 0 where
  pub is_end : end ≡ contents_size + length (rows_of s classes)
  pub so_far : out ≡ written out₀ 0 (contents_bytes counts ++ rows_of s classes)

module _ (s : List ℕ) (counts : Counts) (out₀ : List ℕ) where
  pub no_class : {out : List ℕ} → out ≡ written out₀ 0 (contents_bytes counts) → Classes s counts out₀ out contents_size []
  no_class head = record { is_end = refl; so_far = head ∙ rw append-nil }

  module _ {out : List ℕ} {end k : ℕ} (done : Classes s counts out₀ out end (take k option_classes)) where
    pub class_fits : (options_refusal s).number ≡ 0 → counts ≡ delta_counts (options_of s) → contents_size + row_size * count_of_rows counts ≤ length out₀
        → k < 3 → end + length (delta_bytes (get_or option_classes k 0) (options_of s)) ≤ length out₀
    class_fits taken own fits more =
        let some : k < length option_classes = more in
        let size = contents_length (delta_counts (options_of s)) in
        let whole : length (options_book s) ≡ length (contents_bytes (delta_counts (options_of s))) + length (rows_of s option_classes) =
        ap length (book_bytes s taken) ∙ length-append (contents_bytes (delta_counts (options_of s))) (rows_of s option_classes) in
        omega (arith, rw own at fits, done.is_end, size, whole, size_is s, length-flat_map-take (λ class. delta_bytes class (options_of s)) option_classes k 0 some)

    pub class_written : k < 3 → end + length (delta_bytes (get_or option_classes k 0) (options_of s)) ≤ length out₀
        → {out' : List ℕ} {end' : ℕ} → end' ≡ end + length (delta_bytes (get_or option_classes k 0) (options_of s))
        → out' ≡ written out end (delta_bytes (get_or option_classes k 0) (options_of s)) → Classes s counts out₀ out' end' (take (k + 1) option_classes)
    class_written more fits ends writes =
        let some : k < length option_classes = more in
        let next = take_more option_classes k 0 some in
        let bytes = flat_map_more (λ class. delta_bytes class (options_of s)) (contents_bytes counts) (take k option_classes) (get_or option_classes k 0) in
        let place : end ≡ 0 + length (contents_bytes counts ++ rows_of s (take k option_classes)) =
        omega (arith, done.is_end, contents_length counts, length-append (contents_bytes counts) (rows_of s (take k option_classes))) in
        let all = written-more out₀ _ _ 0 end done.so_far writes place fits in
        let total = simp length-append at (ap length bytes) in
        record { is_end = ends ∙ rw next (omega (arith, done.is_end, contents_length counts, total)); so_far = all ∙ rw (bytes, next) }

    pub book_written : (options_refusal s).number ≡ 0 → counts ≡ delta_counts (options_of s) → 3 ≤ k → k ≤ 3 → out ≡ written out₀ 0 (options_book s)
    book_written taken own past within = let last : k ≡ 3 = omega arith in done.so_far ∙ rw (own, last, book_bytes s taken)

-- ---- the call
-- the front of the output is what was written there
front : (out book : List ℕ) → take (length book) (written out 0 book) ≡ book
unfolding written
front out book = take_at book (drop (0 + length book) out) (length book) refl

-- a refused answer, and that of 12
refused_answer : (answer : Result Figures Refused) (r : Refused) → IsErrAnd answer (λ y. y ≡ r) → priced_answer answer ≡ refused_pricing (numbers_of r)
unfolding priced_answer
refused_answer (Ok priced) r is = absurd is
refused_answer (Err own) r is = rw is

room_told : refused 12 0 ≡ numbers_of (at_start Room)
unfolding refused numbers_of number_of
room_told = refl

-- a charge of each class that options may have
abbrev pub each_class : (ℕ → List OptionRow → ℕ) → List OptionRow → List ℕ
each_class charge options = map (λ class. charge class options) option_classes

module _ (s out : List ℕ) where
  -- refused, whatever the number
  told : (answer : Result Figures Refused) (r : Refused) → IsErrAnd answer (λ y. y ≡ r) → pricing_refusal s (length out) ≡ numbers_of r
      → (priced_answer answer ≡ priced_of s (length out)) × (out ≡ pricing_output s out)
  unfolding priced_of pricing_output by_class figure_of refused_pricing
  told answer r is tells =
      let some = some_told r refl in
      (refused_answer answer r is ∙ rw (tells, ne_eqb (numbers_of r).number 0 some), rw tells (sym (output_kept (numbers_of r) some (options_book s) out)))

  -- with 16 or 17
  pub outside : (answer : Result Figures Refused) (r : Refused) → IsErrAnd answer (λ y. y ≡ r) → numbers_of r ≡ options_refusal s
      → (priced_answer answer ≡ priced_of s (length out)) × (out ≡ pricing_output s out)
  unfolding pricing_refusal
  outside answer r is tells = told answer r is (or_first (options_refusal s) _ (some_told r tells) ∙ sym tells)

  module _ (none : (options_refusal s).number ≡ 0) where
    after : {refusal : Refusal} → room_refusal (contents_size + row_size * count_of_rows (delta_counts (options_of s))) (length out) ≡ refusal → pricing_refusal s (length out) ≡ refusal
    unfolding pricing_refusal
    after is = or_next_lem (options_refusal s) _ none ∙ rw (size_is s) is

    -- with 12
    pub too_short : length out < contents_size + row_size * count_of_rows (delta_counts (options_of s)) → {r : Refused} → r ≡ at_start Room
        → (priced_answer (Err r) ≡ priced_of s (length out)) × (out ≡ pricing_output s out)
    too_short short {r} is = told (Err r) r refl (after (no_room _ _ short) ∙ room_told ∙ ap numbers_of (sym is))

    pub wrote : contents_size + row_size * count_of_rows (delta_counts (options_of s)) ≤ length out → {out' : List ℕ} → out' ≡ written out 0 (options_book s)
        → {size : ℕ} {gammas vegas : List ℕ} {report : Report} → size ≡ contents_size + row_size * count_of_rows (delta_counts (options_of s))
        → gammas ≡ each_class gamma_charge (options_of s) → vegas ≡ each_class vega_charge (options_of s) → {table : List ℕ} → table ≡ standard_bytes → report ≡ report_of table (take size out')
        → (priced_answer (Ok (record { length = size; gammas = gammas; vegas = vegas; report = report })) ≡ priced_of s (length out)) × (out' ≡ pricing_output s out)
    unfolding priced_answer priced_of pricing_output by_class figure_of output_of refused
    wrote room {out'} writes {size} {gammas} {vegas} {report} is-size is-gammas is-vegas is_table is-report =
        let is = after (enough_room _ _ room) in
        let sized = is-size ∙ sym (size_is s) in
        let book : report ≡ report_of standard_bytes (options_book s) = is-report ∙ rw (is_table, sized, writes, front out (options_book s)) in
        (rw (sized, is-gammas, is-vegas, book, is), writes ∙ rw is)
