-- The search up to the turn and after it: what the charge of one amount says of others.
-- Assumes nothing.
use mathlib.Core.Path.{◌≡◌, refl, ap, subst}
use mathlib.Core.Bool.{Bool, true, false}
use Prim.Native.Nat.{ℕ, zero, suc, ◌+◌, ◌*◌, ◌/◌, ◌≤◌, ◌<◌}
use native.Mathlib.Nat.{mul-le-mul_left, mul-div-le, mul_comm, div-lt_iff_lt-mul}
use native.Mathlib.Omega.{arith}
use borrow.Author.Tests.{ltb-true, ltb-false}
use lib.Dec.{ltb}
use Rattle.trade.specs.Trade.{none, most_trade, least_within, on_side}
use Rattle.trade.specs.Inner.Sides.{side_number}
use Rattle.trade.specs.Inner.Searching.{Opening, Searchable, TurnOf, open_charge, excess_of}
use Rattle.ladder.specs.Position.{◌⊕◌}
use Rattle.ladder.specs.Inner.Steps.{gathered_with, gathered_figures}
use Rattle.trade.proofs.Searching.{found_at, none_at}

-- ---- the turn
module _ (opened : Opening) (some : 0 < opened.weight) where
  pub turn_before : excess_of opened / opened.weight < most_trade → TurnOf opened (excess_of opened / opened.weight)
  turn_before inside =
      let amount = excess_of opened / opened.weight in
      record {
        in_range = omega arith;
        falls-to = mul-div-le (excess_of opened) opened.weight;
        rises_from = λ _. omega (arith, (div-lt_iff_lt-mul {x = excess_of opened} {y = amount + 1} some).0 (omega arith), mul_comm opened.weight (amount + 1));
      }

  pub turn_last : most_trade ≤ excess_of opened / opened.weight → TurnOf opened most_trade
  turn_last past =
      record {
        in_range = omega arith;
        falls-to = omega (arith, mul-le-mul_left opened.weight past, mul-div-le (excess_of opened) opened.weight);
        rises_from = λ h. omega arith;
      }

-- ---- amounts of weight 0 change nothing
pub no_weight : (opened : Opening) → opened.weight ≡ 0 → (limit : ℕ) → limit < open_charge opened 0 → least_within (open_charge opened) limit ≡ none
unfolding open_charge
no_weight opened weightless limit over =
    none_at (open_charge opened) limit (λ j _. subst (λ (charge : ℕ). limit < charge) (ap charged (same j)) over)
  where
    charged : ℕ → ℕ
    charged added = (gathered_figures opened.percents (gathered_with opened.zones opened.band (opened.own ⊕ on_side (side_number opened.side) added))).charge

    same : (j : ℕ) → opened.weight * 0 ≡ opened.weight * j
    same j = omega (arith, ap (λ (n : ℕ). n * j) weightless)

-- ---- before the turn the charge falls, after it it rises
module _ (opened : Opening) (ok : Searchable opened) {turn : ℕ} (is : TurnOf opened turn) (limit : ℕ) where
  -- an amount over the limit, and all before it
  over_before : (over : ℕ) → over ≤ turn → limit < open_charge opened over → (j : ℕ) → j ≤ over → limit < open_charge opened j
  over_before over h beyond j k =
      omega (arith, beyond, ok.falling j over k (omega (arith, is.falls-to, mul-le-mul_left opened.weight h)))

  -- a turn within the limit comes after nothing
  pub after_nothing : limit < open_charge opened 0 → open_charge opened turn ≤ limit → 0 < turn
  after_nothing over within = go turn within
    where
      go : (amount : ℕ) → open_charge opened amount ≤ limit → 0 < amount
      go zero within = omega arith
      go (suc amount) within = omega arith

  -- of two amounts next to one another the first is over the limit, and the second within it
  pub found_between : (over within : ℕ) → over < within → within ≤ over + 1 → within ≤ turn → limit < open_charge opened over → open_charge opened within ≤ limit
      → least_within (open_charge opened) limit ≡ record { found = true; amount = within }
  found_between over within near next h beyond fits =
      found_at (open_charge opened) limit within (omega (arith, is.in_range)) fits (λ j k. over_before over (omega arith) beyond j (omega arith))

  module _ (beyond : limit < open_charge opened turn) where
    pub found_after_turn : turn < most_trade → open_charge opened (turn + 1) ≤ limit → least_within (open_charge opened) limit ≡ record { found = true; amount = turn + 1 }
    found_after_turn h fits = found_at (open_charge opened) limit (turn + 1) (omega arith) fits (λ j k. over_before turn (omega arith) beyond j (omega arith))

    pub none_past : most_trade ≤ turn → least_within (open_charge opened) limit ≡ none
    none_past past = none_at (open_charge opened) limit (λ j k. over_before turn (omega arith) beyond j (omega arith))

    pub none_after : turn < most_trade → limit < open_charge opened (turn + 1) → least_within (open_charge opened) limit ≡ none
    none_after h over = none_at (open_charge opened) limit (λ j k. go j (ltb turn j) refl)
      where
        go : (j : ℕ) (later : Bool) → ltb turn j ≡ later → limit < open_charge opened j
        go j true t = omega (arith, over, ok.rising (turn + 1) j (omega (arith, ltb-true turn j t)) (is.rises_from h))
        go j false t = over_before turn (omega arith) beyond j (ltb-false turn j t)
