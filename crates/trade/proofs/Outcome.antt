-- From the table and the sums that were read to the answer of the call.
-- Assumes nothing.
use mathlib.Core.Path.{◌≡◌, refl, sym, ap, ◌∙◌, fun_ext}
use mathlib.Core.List.{List}
use Prim.Native.Nat.{ℕ, ◌*◌, ◌≤◌}
use native.Mathlib.Omega.{arith}
use borrow.Author.Tests.{ltb-false, eq-eqb, ne_eqb}
use Rattle.std.proofs.Common.{Option, Result, Ok, Err, IsErrAnd}
use Rattle.sums.proofs.Cases.{neither, untaken}
use Rattle.book.specs.declared.reasons.Refused.{Refused}
use Rattle.book.specs.Refusals.{refused, refusal_of}
use Rattle.book.specs.Reasons.{numbers_of}
use Rattle.book.proofs.Numbers.{some_told, none_told}
use Rattle.ladder.specs.declared.InterestFigures.{InterestFigures}
use Rattle.ladder.specs.declared.positions.Position.{Position}
use Rattle.ladder.specs.declared.Table.{Table}
use Rattle.ladder.specs.Position.{◌⊕◌, at_band}
use Rattle.ladder.specs.Table.{weight_in}
use Rattle.ladder.specs.Inner.Steps.{TableBounds, band_count}
use Rattle.ladder.proofs.Agreeing.{interest_agree}
use Rattle.table.specs.Loaded.{table_refusal, table_of}
use Rattle.charges.specs.Report.{class_rows, ladder_refusal}
use Rattle.charges.specs.Inner.Answers.{SumsGiven}
use Rattle.charges.proofs.Figures.{weighted_agree, given_sized, given_agree, given_fits}
use Rattle.charges.proofs.Reading.{number_none}
use Rattle.trade.specs.Trade.{on_side, charge_with, least_of, least_within, last_band, place_refusal, trade_refusal, trade_answer, least_trade_of}
use Rattle.trade.specs.Inner.Searching.{Opening, open_charge, OpenOf, CanOpen}
use Rattle.trade.specs.declared.side.Side.{Side}
use Rattle.trade.specs.Inner.Sides.{side_number}

-- a band and a side that are not refused
band_within : (band side : ℕ) → place_refusal band side ≡ 0 → band ≤ last_band
unfolding place_refusal
band_within band side e = ltb-false _ _ (neither _ _ (untaken (_) 20 0 e).0).0

module _ (table s : List ℕ) (group band side limit : ℕ) where
  -- refused: none
  pub refused-trade : (answer : Result (Option ℕ) Refused) (r : Refused) → IsErrAnd answer (λ y. y ≡ r) → numbers_of r ≡ trade_refusal table s group band side
      → trade_answer answer ≡ least_trade_of table s group band side limit
  unfolding trade_answer least_trade_of
  refused-trade (Ok least) r e is = absurd e
  refused-trade (Err own) r e is = rw (e, ← is, ne_eqb _ _ (some_told r refl))

  -- past the table and the place the book decides
  pub book_decides : table_refusal table ≡ 0 → place_refusal band side ≡ 0 → ladder_refusal (refusal_of s) group ≡ trade_refusal table s group band side
  unfolding trade_refusal
  book_decides no_table no_place =
      ap (λ refusal. ladder_refusal refusal group) (number_none _ _ no_place ∙ number_none _ _ no_table)

  module _ {positions : List Position} (given : SumsGiven s 1 group positions) (by : Table) where
    pub can_open : TableBounds by → place_refusal band side ≡ 0 → CanOpen by positions band
    can_open bounds no_place =
        record {
          bounds = bounds;
          sized = given_sized given;
          fits = given_fits given band_count (omega arith);
          in_range = band_within band side no_place;
        }

    module _ (is : Side) (number : side_number is ≡ side) {opened : Opening} (open_of : OpenOf by positions band is opened) where
      same_charge : (amount : ℕ) → open_charge opened amount ≡ charge_with by group band side (class_rows s 1) amount
      unfolding charge_with
      same_charge amount =
          let weighted = weighted_agree positions 0 group (class_rows s 1) by (given_agree given band_count (omega arith)) in
          rw (← number)
          (open_of.charges amount
          ∙ ap (λ (figures : InterestFigures). figures.charge)
          (interest_agree by.percents
          (record { below = λ k h. ap (λ (a : Position). a ⊕ at_band band (on_side (side_number is) (weight_in by band * amount)) k) (weighted.below k h) })))

      pub given_trade : by ≡ table_of table → refused 0 0 ≡ trade_refusal table s group band side → (least : Option ℕ) → least_of least ≡ least_within (open_charge opened) limit
          → trade_answer (Ok least) ≡ least_trade_of table s group band side limit
      unfolding trade_answer least_trade_of
      given_trade by-table none least found =
          let same = found ∙ ap (λ (charge : ℕ → ℕ). least_within charge limit) (fun_ext same_charge)
          ∙ ap (λ (by : Table). least_within (charge_with by group band side (class_rows s 1)) limit) by-table
          ∙ sym (simp (eq-eqb _ _ (none_told none))) in
          λ i. record { refusal = none i; least = same i }
