-- Rows from which the same was taken off both sides bear no higher charge.
-- Assumes nothing.
use Prim.Native.Nat.{ℕ, ◌*◌, ◌≤◌}
use mathlib.Core.Path.{refl}
use mathlib.Core.List.{List}
use native.Mathlib.Omega.{arith}
use Rattle.book.specs.declared.Row.{Row}
use Rattle.ladder.specs.declared.Table.{Table}
use Rattle.issues.proofs.Counted.{Measure}
use Rattle.issues.proofs.Thinning.{Thins}
use Rattle.issues.proofs.Costs.{absolutes_fall, shorthand-falls, nets-thin, amounts_thin, general_thins, commodity-thins}
use Rattle.charges.specs.Bands.{low_coupon, interest_band, commodity_band, band_in}
use Rattle.charges.specs.Weights.{interest_weight, equity_weight, specific_weight}
use Rattle.charges.specs.Charges.{basis_point, groups, currencies, specific_of, specific_charge, interest_figures_of, commodity_figures_of, interest_general, equity_general, exchange_general, commodity_general}

specific_measure : (class : ℕ) → Measure (λ row n. basis_point * (specific_weight class row * n))
unfolding specific_weight interest_weight equity_weight
specific_measure class = record { adds = λ row m n. omega arith; blind = λ row n. refl }

module _ {rows rows' : List Row} (t : Thins rows rows') where
  pub specific_thins : (class : ℕ) → specific_charge class rows' ≤ specific_charge class rows
  unfolding specific_charge specific_of
  specific_thins class = amounts_thin t (specific_measure class)

  pub interest_thins : (table : Table) → interest_general table rows' ≤ interest_general table rows
  unfolding interest_general interest_figures_of band_in interest_band low_coupon
  interest_thins table = general_thins t (band_in 1) (λ row. refl) table groups

  pub equity-thins : equity_general rows' ≤ equity_general rows
  unfolding equity_general
  equity-thins = omega (arith, nets-thin t (band_in 2) (absolutes_fall groups))

  pub exchange_thins : exchange_general rows' ≤ exchange_general rows
  unfolding exchange_general
  exchange_thins = omega (arith, nets-thin t (band_in 3) (shorthand-falls currencies))

  pub commodities_thin : commodity_general rows' ≤ commodity_general rows
  unfolding commodity_general commodity_figures_of band_in commodity_band
  commodities_thin = commodity-thins t (band_in 4) (λ row. refl) groups
