-- The least trade (P13): the search of the definition finds what is claimed of it, and with nothing added there is the currency's ladder.
-- Assumes nothing.
use mathlib.Core.Path.{◌≡◌, refl, ap, ◌∙◌, fun_ext}
use mathlib.Core.Bool.{Bool, true, false, cond}
use mathlib.Core.List.{List}
use Prim.Native.Nat.{ℕ, ◌+◌, ◌*◌}
use native.Mathlib.Nat.{mul-zero}
use native.Mathlib.Omega.{arith}
use borrow.Author.Tests.{eq-eqb, eqb-true, eqb-false}
use lib.Dec.{ltb, eqb}
use Rattle.book.specs.declared.Refusal.{Refusal}
use Rattle.book.specs.Refusals.{last_group, refused, refusal_of}
use Rattle.ladder.specs.declared.positions.Position.{Position}
use Rattle.ladder.specs.Position.{Bands, ◌⊕◌, empty, at_band}
use Rattle.ladder.specs.Interest.{interest_figures}
use Rattle.ladder.specs.Table.{weight_in}
use Rattle.ladder.specs.Rows.{weighing, ladder_of}
use Rattle.ladder.proofs.Matching.{same_position}
use Rattle.sums.proofs.Cases.{cond_same}
use Rattle.table.specs.Loaded.{table_refusal, table_of}
use Rattle.charges.specs.Charges.{reading, interest_figures_of}
use Rattle.charges.specs.Report.{class_rows, before, ladder_refusal, interest_ladder_of}
use Rattle.trade.specs.Trade.{Least, on_side, charge_with, most_trade, least_within, place_refusal, trade_refusal, least_trade_of}
use Rattle.trade.proofs.Searching.{FoundFrom, found_from}
use Rattle.claims.specs.Trade.{charge_at, LeastAmount, LeastTradeHolds, NothingAddedHolds}

-- what is found among all amounts
found_least : {charge : ℕ → ℕ} {limit : ℕ} {least : Least} → FoundFrom charge limit 0 (most_trade + 1) least → LeastAmount charge limit least
found_least found =
    record {
      in_range = λ e. omega (arith, found.high e);
      within = found.within;
      smaller = λ e amount h. found.over e amount (omega arith) h;
      none = λ e amount h. found.over_all e amount (omega arith) (omega arith);
    }

pub least_trade_lem : LeastTradeHolds
unfolding least_trade_of least_within
least_trade_lem table s group band side limit passes =
    let charge = charge_at table s group band side in
    rw (eq-eqb _ _ passes) (found_least (found_from charge limit 0 (most_trade + 1)))

-- ---- nothing added
-- nothing on either side of a band, in any band
no_trade : (side : ℕ) → on_side side 0 ≡ empty
no_trade side = cond_same (eqb side 0) empty

none_added : (f : Bands) (band side weight : ℕ) → ◌≡◌ {A = Bands} (λ k. f k ⊕ at_band band (on_side side (weight * 0)) k) f
none_added f band side weight =
    fun_ext (λ k. ap (λ (a : Position). f k ⊕ cond (eqb band k) a empty) (ap (on_side side) (mul-zero weight) ∙ no_trade side)
    ∙ ap (λ (a : Position). f k ⊕ a) (cond_same (eqb band k) empty) ∙ same_position (omega arith) (omega arith))

-- where the trade call is not refused neither the currency nor the table nor the book is
pub record TradePasses (table s : List ℕ) (group : ℕ) : Type 0 where
  pub in_range : ltb last_group group ≡ false
  pub fine : table_refusal table ≡ 0
  pub accepted : (refusal_of s).number ≡ 0

module _ (table s : List ℕ) (group band side : ℕ) where
  abbrev place : ℕ
  place = place_refusal band side

  pub trade_passes : (trade_refusal table s group band side).number ≡ 0 → TradePasses table s group
  unfolding trade_refusal ladder_refusal before refused
  trade_passes = go (ltb last_group group) refl (eqb (table_refusal table) 0) refl (eqb place 0) refl
    where
      after : (loaded placed : Bool) → Refusal
      after loaded placed =
          cond loaded (cond placed (refusal_of s) (refused place 0)) (refused (table_refusal table) 0)

      go : (over : Bool) → ltb last_group group ≡ over
          → (loaded : Bool) → eqb (table_refusal table) 0 ≡ loaded
          → (placed : Bool) → eqb place 0 ≡ placed
          → (cond over (refused 10 0) (after loaded placed)).number ≡ 0
          → TradePasses table s group
      go true o loaded l placed p e = let never : ⊥ = omega arith in absurd never
      go false o false l placed p e = absurd (eqb-false _ _ l e)
      go false o true l false p e = absurd (eqb-false _ _ p e)
      go false o true l true p e = record { in_range = o; fine = eqb-true _ _ l; accepted = e }

-- what the ladder call then gives of any book that is accepted
pub ladder_figures : (table s d : List ℕ) (group : ℕ) → TradePasses table s group
    → (refusal_of d).number ≡ 0
    → (interest_ladder_of table d group).figures
    ≡ interest_figures_of (table_of table) group (class_rows d 1)
unfolding interest_ladder_of ladder_refusal before
ladder_figures table s d group passes none = simp (passes.in_range, passes.fine, none)

pub nothing-added : NothingAddedHolds
unfolding charge_with interest_figures_of
nothing-added table s group band side e =
    let passes = trade_passes table s group band side e in
    rw (ladder_figures table s s group passes passes.accepted)
    (ap (λ (f : Bands). (interest_figures (table_of table).percents f).charge)
    (none_added (ladder_of (weighing (table_of table) (reading 1)) group (class_rows s 1)) band side (weight_in (table_of table) band)))
