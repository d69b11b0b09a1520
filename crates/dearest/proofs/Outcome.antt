-- What the call gives and leaves: 22, then 12, or the book and its total.
-- Assumes nothing.
use mathlib.Core.Path.{◌≡◌, refl, sym, ap, ◌∙◌}
use mathlib.Core.Bool.{Bool, true, false, cond, ◌||◌}
use mathlib.Core.List.{List}
use Prim.Native.Nat.{ℕ, ◌+◌, ◌*◌, ◌≤◌, ◌<◌}
use native.Mathlib.Omega.{arith}
use borrow.Author.Tests.{ne_eqb}
use lib.Dec.{ltb, eqb}
use lib.ListN.{length}
use Rattle.std.proofs.Common.{Result, Ok, Err, IsErrAnd}
use Rattle.book.specs.declared.Counts.{Counts}
use Rattle.book.specs.declared.Refusal.{Refusal}
use Rattle.book.specs.declared.Row.{Row}
use Rattle.book.specs.declared.reasons.Reason.{Reason}
use Rattle.book.specs.declared.reasons.Reason.TheVariants.{Room}
use Rattle.book.specs.declared.reasons.Refused.{Refused}
use Rattle.book.specs.Counts.{contents_size, row_size}
use Rattle.book.specs.Refusals.{most_rows, most_amount, refused}
use Rattle.book.specs.Reasons.{number_of, numbers_of, told, figure_in, at_start}
use Rattle.layout.specs.Written.{written}
use Rattle.layout.specs.Files.{contents_bytes}
use Rattle.layout.specs.Room.{room_refusal, figure_of, output_of}
use Rattle.book.proofs.Numbers.{some_number, some_of}
use Rattle.layout.proofs.Room.{or_first, or_next_lem, no_room, enough_room}
use Rattle.layout.proofs.Writing.{written-more}
use Rattle.layout.proofs.Whole.{contents_length}
use Rattle.dearest.specs.declared.Costed.{Costed}
use Rattle.dearest.specs.Dearest.{dearest_row, dearest_book, limits_refusal, dearest_refusal, dearest_answer, dearest_of, dearest_output}
use Rattle.dearest.specs.Inner.Parts.{interest_alone, row_times}
use Rattle.dearest.proofs.Whole.{limits, dearest_bytes, dearest_length}
use Rattle.dearest.proofs.Times.{times_length}
use Rattle.dearest.proofs.Costs.{dearest_costs}

-- the contents and then the rows are the book
pub book_written : (rows most : ℕ) (out : List ℕ) {out' out'' : List ℕ} {counts : Counts} {row : Row} → contents_size + row_size * rows ≤ length out
    → counts ≡ interest_alone rows → row ≡ dearest_row most → out' ≡ written out 0 (contents_bytes counts) → out'' ≡ written out' contents_size (row_times rows row)
    → out'' ≡ written out 0 (dearest_book rows most)
book_written rows most out {counts} {row} room same-counts same_row head tail =
    written-more out (contents_bytes counts) (row_times rows row) 0 contents_size head tail (omega (arith, contents_length counts)) (omega (arith, times_length row rows))
    ∙ rw (same-counts, same_row, dearest_bytes rows most)

module _ (rows most : ℕ) (out : List ℕ) where
  -- no other number than 22 is given for them
  limits_told : ((limits_refusal rows most).number ≡ 0 → ⊥) → limits_refusal rows most ≡ refused 22 0
  unfolding limits_refusal refused
  limits_told = go (ltb most_rows rows || (eqb most 0 || ltb most_amount most))
    where
      go : (test : Bool) → ((cond test (refused 22 0) (refused 0 0)).number ≡ 0 → ⊥) → cond test (refused 22 0) (refused 0 0) ≡ refused 22 0
      go true some = refl
      go false some = absurd (some refl)

  -- refused: no figures, and the output as it was
  refused-with : (r : Refused) → numbers_of r ≡ dearest_refusal rows most (length out) → ((numbers_of r).number ≡ 0 → ⊥)
      → (answer : Result Costed Refused) → IsErrAnd answer (λ y. y ≡ r) → (dearest_answer answer ≡ dearest_of rows most (length out)) × (out ≡ dearest_output rows most out)
  unfolding dearest_answer dearest_of dearest_output told figure_in figure_of output_of
  refused-with r is some (Ok costed) e = absurd e
  refused-with r is some (Err own) e = (rw (e, ← is, ne_eqb _ _ some), rw (← is, ne_eqb _ _ some))

  -- 22, by its number
  pub outside : (reason : Reason) → number_of reason ≡ (limits_refusal rows most).number → (answer : Result Costed Refused) → IsErrAnd answer (λ y. y ≡ at_start reason)
      → (dearest_answer answer ≡ dearest_of rows most (length out)) × (out ≡ dearest_output rows most out)
  unfolding dearest_refusal numbers_of refused
  outside reason number answer e =
      let some = some_of reason number in
      let is = limits_told some in
      let told : numbers_of (at_start reason) ≡ dearest_refusal rows most (length out) =
      ap (λ (n : ℕ). refused n 0) (number ∙ ap (λ (r : Refusal). r.number) is) ∙ sym (or_first _ _ some ∙ is) in
      refused-with (at_start reason) told (some_number reason) answer e

  module _ (within : (limits_refusal rows most).number ≡ 0) where
    after : (refusal : Refusal) → room_refusal (contents_size + row_size * rows) (length out) ≡ refusal → dearest_refusal rows most (length out) ≡ refusal
    unfolding dearest_refusal
    after refusal is = or_next_lem (limits_refusal rows most) _ within ∙ rw (dearest_length rows most) is

    pub too_short : length out < contents_size + row_size * rows → {r : Refused} → r ≡ at_start Room
        → (dearest_answer (Err r) ≡ dearest_of rows most (length out)) × (out ≡ dearest_output rows most out)
    unfolding numbers_of number_of refused
    too_short short {r} why =
        refused-with (at_start Room) (sym (after (refused 12 0) (no_room _ _ short))) (some_number Room) (Err r) why

    pub wrote : contents_size + row_size * rows ≤ length out → {out' : List ℕ} → out' ≡ written out 0 (dearest_book rows most)
        → (dearest_answer (Ok (record { length = contents_size + row_size * rows; total = 205000 * (rows * most) })) ≡ dearest_of rows most (length out))
        × (out' ≡ dearest_output rows most out)
    unfolding dearest_answer dearest_of dearest_output told figure_in figure_of output_of refused
    wrote room writes =
        let is = after (refused 0 0) (enough_room _ _ room) in
        (rw (is, dearest_length rows most, dearest_costs rows most (limits rows most within)), rw is writes)
