-- The charges for gamma and vega of two tables' options put together: at most the two.
-- Assumes nothing.
use Prim.Native.Nat.{ℕ, ◌+◌, ◌≤◌}
use mathlib.Core.List.{List, ◌++◌}
use native.Mathlib.Omega.{arith}
use Rattle.sums.specs.Sums.{sum_of}
use Rattle.sums.proofs.Sums.{sum_of≤, sum_of_plus}
use Rattle.ladder.specs.declared.positions.Position.{Position}
use Rattle.ladder.specs.Position.{Bands, ◌⊕◌}
use Rattle.ladder.specs.Nets.{absolute_nets}
use Rattle.ladder.specs.Rows.{Reading}
use Rattle.ladder.proofs.Totals.{◌⊞◌}
use Rattle.ladder.proofs.Netting.{absolutes_joined}
use Rattle.ladder.proofs.Books.{nets-joined}
use Rattle.charges.specs.Charges.{groups}
use Rattle.options.specs.Table.{OptionRow}
use Rattle.options.specs.Greeks.{bought_in, sold_in, sides_in, twice_gamma, half_short, gamma_charge, vega_of, vega_charge}

-- an option read as a row: bought is long, sold is short
abbrev pub sided : (OptionRow → ℕ) → ℕ → Reading OptionRow
sided amount class = record { group = λ option. option.group; band = λ option. 0; long = bought_in amount class; short = sold_in amount class }

-- rounded up once they come to no more than rounded up twice
half_joined : (a b : Position) → half_short (a ⊕ b) ≤ half_short a + half_short b
unfolding half_short
half_joined a b = omega arith

abbrev halves : Bands → ℕ
halves f = sum_of (λ group. half_short (f group)) groups

halves_joined : (f g : Bands) → halves (f ⊞ g) ≤ halves f + halves g
halves_joined f g =
    omega (
      arith,
      sum_of≤ (λ group. half_short ((f ⊞ g) group)) (λ group. half_short (f group) + half_short (g group)) groups (λ group m. half_joined (f group) (g group)),
      sum_of_plus (λ group. half_short (f group)) (λ group. half_short (g group)) groups,
    )

module _ (class : ℕ) (options more : List OptionRow) where
  pub gamma_joined : gamma_charge class (options ++ more) ≤ gamma_charge class options + gamma_charge class more
  unfolding gamma_charge sides_in
  gamma_joined = nets-joined (sided twice_gamma class) halves halves_joined options more

  pub vega_joined : vega_charge class (options ++ more) ≤ vega_charge class options + vega_charge class more
  unfolding vega_charge sides_in
  vega_joined = omega (arith, nets-joined (sided vega_of class) (absolute_nets groups) (absolutes_joined groups) options more)
