-- A pass over legs: what holds after some of them, that there is room for the next, and what holds where the pass is left.
-- Assumes nothing.
use mathlib.Core.Path.{◌≡◌, refl, sym, ap, ◌∙◌}
use Rattle.std.proofs.Common.{Ok, Err}
use mathlib.Core.List.{List, [], ◌∷◌, ◌++◌}
use Prim.Native.Nat.{ℕ, ◌+◌, ◌*◌, ◌≤◌, ◌<◌}
use native.Mathlib.Nat.{mul-le-mul_left, mul-le-mul_right}
use native.Mathlib.Numerals.{add-one}
use native.Mathlib.Omega.{arith}
use mathlib.Core.Bool.{◌||◌}
use lib.Dec.{eqb}
use lib.ListN.{length, take, get_or, replicate, length-replicate}
use lib.Seq.{take-suc}
use borrow.Author.Tests.{ne_eqb}
use Rattle.sums.specs.Sums.{sum_of}
use Rattle.sums.specs.Inner.Tables.{tally, placed}
use Rattle.sums.proofs.Sums.{sum_of_append, sum_at≤}
use Rattle.sums.proofs.Cases.{either}
use Rattle.sums.proofs.Tables.{length_tally, tally_last, tallied}
use Rattle.book.specs.Refusals.{most_rows, most_amount, row_refusal, refused, first_refusal}
use Rattle.book.specs.declared.reasons.Reason.{Reason}
use Rattle.book.specs.Reasons.{number_of, numbers_of, told}
use Rattle.book.specs.Accepted.{Clean}
use Rattle.book.specs.Legs.{Leg}
use Rattle.book.proofs.Numbers.{some_of}
use Rattle.book.proofs.Passing.{passes_clean}
use Rattle.book.proofs.Searching.{Passed, none_passed, passes, leaves, all_passed}
use Rattle.ladder.specs.Inner.Steps.{longs_of, shorts_of}
use Rattle.ladder.proofs.Arrays.{longs_more, shorts_more, no_longs, no_shorts}
use Rattle.charges.specs.Charges.{eight_per_cent, specific_of}
use Rattle.charges.specs.Inner.Slots.{slot_count, leg_slot, group_slots, group_slot, leg_long, leg_short, leg_specific, leg_counted, amounts_of, Sums, LegSums, Clear, Roomy, Room, with_leg}
use Rattle.charges.specs.Inner.Pass.{Took, passed, PassOf}
use Rattle.charges.proofs.Legs.{amount_within, weight_within}

-- ---- one table
-- n legs are in a table, each adding at most so much
record Kept (size : ℕ) (index amount : Leg → ℕ) (most n : ℕ) (legs : List Leg) (table : List ℕ) : Type 0 where
  is : table ≡ tally index amount (replicate size 0) legs
  within : sum_of amount legs ≤ most * n

module _ (size : ℕ) (index amount : Leg → ℕ) (most : ℕ) where
  kept_none : (table : List ℕ) → table ≡ replicate size 0 → Kept size index amount most 0 [] table
  unfolding sum_of
  kept_none table zeros = record { is = zeros; within = omega arith }

  module _ (n : ℕ) (legs : List Leg) (table : List ℕ) (kept : Kept size index amount most n legs table) where
    kept_next : (leg : Leg) → amount leg ≤ most → Kept size index amount most (n + 1) (legs ++ (leg ∷ [])) (placed index amount table leg)
    unfolding sum_of
    kept_next leg fair =
        record {
          is = rw kept.is (sym (tally_last index amount (replicate size 0) legs leg));
          within = omega (arith, kept.within, sum_of_append amount legs (leg ∷ []), distributed);
        }
      where
        distributed : most * (n + 1) ≡ most * n + most
        distributed = omega arith

    -- room for one leg more
    kept_room : n < most_rows → Roomy size most table
    kept_room few =
        record {
          sized = rw kept.is (length_tally index amount (replicate size 0) legs ∙ length-replicate {A = ℕ} size 0);
          room = λ k h. rw kept.is (omega (arith, kept.within, tallied index amount size legs k h, sum_at≤ index amount k legs, mul-le-mul_left most few));
        }

-- what a leg that passes adds at most
pub most_specific : (leg : Leg) → Clean leg.class leg.row → leg_specific leg ≤ eight_per_cent * most_amount
unfolding specific_of
most_specific leg clean =
    omega (arith, amount_within leg.class leg.row clean, mul-le-mul_right (leg.row.long + leg.row.short) (weight_within leg.class leg.row))

most_counted : (leg : Leg) → leg_counted leg ≤ 1
unfolding leg_counted
most_counted leg = either (eqb leg.class 1 || eqb leg.class 4) 1 0 (omega arith) (omega arith)

-- ---- one row
-- refused, or added
module _ (leg : Leg) (number : ℕ) (found : number ≡ row_refusal leg.class leg.row) where
  pub took_none : (sums : Sums) → (number ≡ 0 → ⊥) → Took leg number sums sums
  took_none sums bad = record { is = found; added = λ e. absurd (bad e); kept = λ _. refl }

  pub took_one : {old new : Sums} → number ≡ 0 → new ≡ with_leg leg old → Took leg number old new
  took_one good added = record { is = found; added = λ _. added; kept = λ bad. absurd (bad good) }

-- ---- all of them
-- the first n of some legs passed and are in the sums
pub record Progress (legs : List Leg) (n : ℕ) (sums : Sums) : Type 0 where
  went_on : Passed legs n
  in_longs : Kept slot_count leg_slot leg_long most_amount n (take n legs) (longs_of sums.positions)
  in_shorts : Kept slot_count leg_slot leg_short most_amount n (take n legs) (shorts_of sums.positions)
  in_specifics : Kept group_slots group_slot leg_specific (eight_per_cent * most_amount) n (take n legs) sums.specifics
  in_rows : Kept group_slots group_slot leg_counted 1 n (take n legs) sums.rows

module _ (legs : List Leg) (sums : Sums) where
  pub none_taken : Clear sums → Progress legs 0 sums
  none_taken clear =
      record {
        went_on = none_passed legs;
        in_longs = kept_none slot_count leg_slot leg_long most_amount (longs_of sums.positions) (ap longs_of clear.no_positions ∙ no_longs slot_count);
        in_shorts = kept_none slot_count leg_slot leg_short most_amount (shorts_of sums.positions) (ap shorts_of clear.no_positions ∙ no_shorts slot_count);
        in_specifics = kept_none group_slots group_slot leg_specific (eight_per_cent * most_amount) sums.specifics clear.no_specifics;
        in_rows = kept_none group_slots group_slot leg_counted 1 sums.rows clear.no_rows;
      }

  module _ (n : ℕ) (so_far : Progress legs n sums) where
    -- there is room for one leg more
    pub leg-room : n < most_rows → Room sums
    leg-room few =
        record {
          in_longs = kept_room slot_count leg_slot leg_long most_amount n (take n legs) (longs_of sums.positions) so_far.in_longs few;
          in_shorts = kept_room slot_count leg_slot leg_short most_amount n (take n legs) (shorts_of sums.positions) so_far.in_shorts few;
          in_specifics = kept_room group_slots group_slot leg_specific (eight_per_cent * most_amount) n (take n legs) sums.specifics so_far.in_specifics few;
          in_rows = kept_room group_slots group_slot leg_counted 1 n (take n legs) sums.rows so_far.in_rows few;
        }

    sums_so_far : LegSums (take n legs) sums.positions sums.specifics sums.rows
    sums_so_far =
        record { is_longs = so_far.in_longs.is; is_shorts = so_far.in_shorts.is; is_specifics = so_far.in_specifics.is; is_rows = so_far.in_rows.is }

    module _ (leg none : Leg) (within : n < length legs) (is_leg : get_or legs n none ≡ leg) where
      next_legs : take (n + 1) legs ≡ take n legs ++ (leg ∷ [])
      next_legs = rw (add-one n, ← is_leg) (take-suc legs n none within)

      -- a leg that passes is added
      pub leg-taken : row_refusal leg.class leg.row ≡ 0 → Progress legs (n + 1) (with_leg leg sums)
      unfolding with_leg
      leg-taken good =
          let clean = passes_clean leg.class leg.row good in
          let before = take n legs in
          record {
            went_on = passes legs n leg none within is_leg so_far.went_on good;
            in_longs = rw (next_legs, longs_more sums.positions (leg_slot leg) (amounts_of leg.row)) (kept_next slot_count leg_slot leg_long most_amount n before (longs_of sums.positions) so_far.in_longs leg clean.long);
            in_shorts = rw (next_legs, shorts_more sums.positions (leg_slot leg) (amounts_of leg.row)) (kept_next slot_count leg_slot leg_short most_amount n before (shorts_of sums.positions) so_far.in_shorts leg clean.short);
            in_specifics = rw next_legs
                (kept_next group_slots group_slot leg_specific (eight_per_cent * most_amount) n before sums.specifics so_far.in_specifics leg (most_specific leg clean));
            in_rows = rw next_legs (kept_next group_slots group_slot leg_counted 1 n before sums.rows so_far.in_rows leg (most_counted leg));
          }

      -- a leg that is refused ends the pass
      pub leg-refused : (reason : Reason) → number_of reason ≡ row_refusal leg.class leg.row
          → PassOf (first_refusal 0 legs) legs (Err (record { reason = reason; row = n; book = 0 })) sums
      unfolding told numbers_of passed refused
      leg-refused reason found =
          let bad = some_of reason found in
          let at = leaves legs n leg none within is_leg so_far.went_on bad in
          let number = ne_eqb (row_refusal leg.class leg.row) 0 bad in
          record { is_refusal = rw (at, found); all = tt; sums_are = rw (at, number) sums_so_far }

    -- after the last leg the tables hold the sums of all
    pub all_taken : n ≡ length legs → PassOf (first_refusal 0 legs) legs (Ok n) sums
    unfolding told passed refused
    all_taken all =
        let found = all_passed legs n (omega arith) so_far.went_on in
        record { is_refusal = rw found; all = all; sums_are = rw (found, ← all) sums_so_far }
