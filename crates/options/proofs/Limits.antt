-- What machine numbers must hold: the sums of gamma and of vega over at most 1,000 options, and their charges.
-- Assumes nothing.
use mathlib.Core.Bool.{Bool, true, false, cond, not, ◌&&◌}
use mathlib.Core.List.{List}
use Prim.Native.Nat.{ℕ, ◌+◌, ◌*◌, ◌≤◌, ◌<◌}
use native.Mathlib.Nat.{mul-le-mul}
use native.Mathlib.Omega.{arith}
use lib.Dec.{eqb}
use Rattle.sums.specs.Sums.{sum_of}
use Rattle.sums.proofs.Cases.{either}
use Rattle.sums.proofs.Sums.{sum_of≤, sum_of_plus}
use Rattle.ladder.specs.declared.positions.Position.{Position}
use Rattle.ladder.specs.Position.{gross, total}
use Rattle.ladder.proofs.Totals.{gross-sum}
use Rattle.ladder.proofs.Bounds.{groups-within}
use Rattle.charges.specs.Charges.{groups}
use Rattle.charges.specs.Inner.Slots.{group_count}
use Rattle.options.specs.Table.{OptionRow}
use Rattle.options.specs.Greeks.{is_bought, bought_in, sold_in, sides_in, move_of, twice_gamma, half_short, gamma_charge, vega_of}
use Rattle.options.specs.Accepted.{Allowed}
use Rattle.options.specs.Inner.Sums.{most_twice_gamma, most_vega, Fields}
use Rattle.options.proofs.Together.{sided}

-- ---- one option
-- two fields of two bytes
pub two_fields : (a b : ℕ) → a < 65536 → b < 65536 → a * b ≤ most_vega
two_fields a b h k =
    let most-a : a ≤ 65535 = omega arith in
    let most-b : b ≤ 65535 = omega arith in
    mul-le-mul most-a most-b

module _ (option : OptionRow) (ok : Allowed option) (narrow : option.gamma < 65536) where
  pub of_gamma : option.amount * option.gamma ≤ 65535000000
  of_gamma = let most : option.gamma ≤ 65535 = omega arith in mul-le-mul ok.amount_to most

  pub of_moves : {by : ℕ} → by ≤ 15 → option.amount * option.gamma * (by * by) ≤ most_twice_gamma
  of_moves small = mul-le-mul of_gamma (mul-le-mul small small)

module _ (option : OptionRow) (fields : Fields option) where
  pub vega_within : vega_of option ≤ most_vega
  unfolding vega_of
  vega_within = two_fields option.vega option.volatility fields.vega fields.volatility

  pub gamma_within : twice_gamma option ≤ most_twice_gamma
  unfolding twice_gamma move_of
  gamma_within = of_moves option fields.allowed fields.gamma (either (eqb option.class 4) 15 8 (omega arith) (omega arith))

-- an option counts on one side at most
one_side : (amount : OptionRow → ℕ) (class : ℕ) (option : OptionRow) → bought_in amount class option + sold_in amount class option ≤ amount option
unfolding bought_in sold_in
one_side amount class option = go (eqb option.class class) (is_bought option) (amount option)
  where
    go : (own bought : Bool) (n : ℕ) → cond (own && bought) n 0 + cond (own && not bought) n 0 ≤ n
    go true true n = omega arith
    go true false n = omega arith
    go false bought n = omega arith

-- ---- all options
module _ (amount : OptionRow → ℕ) (class : ℕ) (options : List OptionRow) where
  pub sides_within : sum_of (bought_in amount class) options + sum_of (sold_in amount class) options ≤ sum_of amount options
  sides_within =
      omega (
        arith,
        sum_of_plus (bought_in amount class) (sold_in amount class) options,
        sum_of≤ (λ option. bought_in amount class option + sold_in amount class option) amount options (λ option m. one_side amount class option),
      )

  pub groups-sum : gross (total (sides_in amount class options) groups) ≤ sum_of amount options
  unfolding sides_in
  groups-sum = omega (arith, groups-within (sided amount class) group_count options, sides_within, sum_of_plus (bought_in amount class) (sold_in amount class) options)

-- ---- the charges
half_within : (sides : Position) → half_short sides ≤ gross sides
unfolding half_short
half_within sides = omega arith

pub gamma_charge_within : (class : ℕ) (options : List OptionRow) → gamma_charge class options ≤ sum_of twice_gamma options
unfolding gamma_charge
gamma_charge_within class options =
    omega (
      arith,
      sum_of≤ (λ group. half_short (sides_in twice_gamma class options group)) (λ group. gross (sides_in twice_gamma class options group)) groups
          (λ group m. half_within (sides_in twice_gamma class options group)),
      gross-sum (sides_in twice_gamma class options) groups,
      groups-sum twice_gamma class options,
    )
