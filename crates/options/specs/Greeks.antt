-- The charges for gamma and vega (P9; A.5, 7): each class and group is an underlying, with bought options on one side and sold ones on the other.
use Rattle.std.specs.Prelude.{ℕ, ◌+◌, ◌-◌, ◌*◌, ◌/◌, Bool, cond, not, ◌&&◌, List, leb, eqb}
use Rattle.sums.specs.Sums.{sum_of}
use Rattle.ladder.specs.declared.positions.Position.{Position}
use Rattle.ladder.specs.Position.{Bands}
use Rattle.ladder.specs.Nets.{absolute_nets}
use Rattle.ladder.specs.Rows.{positions_by}
use Rattle.charges.specs.Charges.{groups}
use Rattle.options.specs.Table.{OptionRow}

-- rights 0 and 1 are bought, 2 and 3 sold (P9)
unfoldable pub is_bought : OptionRow → Bool
is_bought option = leb option.right 1

-- what counts of an option for the bought side of a class (P9)
unfoldable pub bought_in : (OptionRow → ℕ) → ℕ → OptionRow → ℕ
bought_in amount class option = cond (eqb option.class class && is_bought option) (amount option) 0

-- and for the sold side (P9)
unfoldable pub sold_in : (OptionRow → ℕ) → ℕ → OptionRow → ℕ
sold_in amount class option = cond (eqb option.class class && not (is_bought option)) (amount option) 0

-- both sides of a class, by group (P9)
unfoldable pub sides_in : (OptionRow → ℕ) → ℕ → List OptionRow → Bands
sides_in amount class options = positions_by (λ option. option.group) (bought_in amount class) (sold_in amount class) options

-- ---- gamma
-- the move of the underlying, in per cent: 8, and 15 for commodities (P9; A.5, 7, ii)
unfoldable pub move_of : ℕ → ℕ
move_of class = cond (eqb class 4) 15 8

-- twice an option's gamma impact, in mils (P9)
unfoldable pub twice_gamma : OptionRow → ℕ
twice_gamma option = option.amount * option.gamma * (move_of option.class * move_of option.class)

-- where the sold side is greater, half of what it is greater by, rounded up once (P9; A.5, 7, iv and v)
unfoldable pub half_short : Position → ℕ
half_short sides = (sides.short - sides.long + 1) / 2

-- of each underlying of a class, summed (P9; A.5, 7, iv and v)
unfoldable pub gamma_charge : ℕ → List OptionRow → ℕ
gamma_charge class options = sum_of (λ group. half_short (sides_in twice_gamma class options group)) groups

-- ---- vega
-- a quarter of the volatility: 25% of a hundredth of a point is 2,500 mils for each unit of vega (P9; A.5, 7, vi)
abbrev pub quarter_shift : ℕ
quarter_shift = 2500

-- an option's vega times its volatility (P9)
unfoldable pub vega_of : OptionRow → ℕ
vega_of option = option.vega * option.volatility

-- each underlying's absolute sum (P9; A.5, 7, vii)
unfoldable pub vega_charge : ℕ → List OptionRow → ℕ
vega_charge class options = quarter_shift * absolute_nets groups (sides_in vega_of class options)
