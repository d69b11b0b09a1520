-- The charges of rows put together, permuted, and mirrored, and those of each currency, for every accepted table.
-- Assumes nothing.
use Prim.Native.Nat.{ℕ, ◌+◌, ◌*◌, ◌≤◌, ◌<◌}
use mathlib.Core.Path.{◌≡◌, refl, ap, ◌∙◌, fun_ext}
use mathlib.Core.List.Perm
use mathlib.Core.List.{List, ◌++◌, map, filter-append, filter-map, Perm, Memᴰ}
use native.Mathlib.Decide.{ℕ_discrete}
use native.Mathlib.Nat.{add_comm}
use native.Mathlib.Omega.{arith}
use Rattle.sums.proofs.Sums.{sum_of_append, sum_of_permuted, sum_of_map}
use Rattle.book.specs.declared.Row.{Row}
use Rattle.ladder.specs.Position.{Bands}
use Rattle.ladder.specs.declared.Table.{Table}
use Rattle.ladder.specs.Interest.{interest_figures}
use Rattle.ladder.specs.Commodity.{commodity_figures}
use Rattle.ladder.specs.Nets.{absolute_nets, shorthand, simplified}
use Rattle.ladder.specs.Rows.{weighing, AtMostTwoZones}
use Rattle.ladder.proofs.Netting.{absolutes_joined, absolutes_mirrored, shorthand-joined, shorthand-mirrored}
use Rattle.ladder.proofs.Netting as Netting
use Rattle.ladder.proofs.Books.{Exchanges, currency-joined, general_joined, commodity-joined, nets-joined, grouped_permuted, groups_of_permuted, general_mirrored, commodity-mirrored, nets-mirrored}
use Rattle.ladder.specs.Inner.Steps.{TableBounds}
use Rattle.charges.specs.Bands.{low_coupon, interest_band, commodity_band, band_in}
use Rattle.charges.specs.Weights.{interest_weight, equity_weight, specific_weight}
use Rattle.charges.specs.Charges.{eight_per_cent, groups, currencies, reading, specific_of, specific_charge, interest_figures_of, commodity_figures_of}
use Rattle.charges.specs.Charges.{interest_general, equity_general, exchange_general, commodity_general, simplified_commodity, interest_risk, equity_risk, of_group, by_currency}
use Rattle.charges.specs.Inner.Slots.{group_count}
use Rattle.charges.proofs.Currencies.{alone_general}

-- ---- put together
module _ (rows more : List Row) where
  pub specific_joined : (class : ℕ) → specific_charge class (rows ++ more) ≡ specific_charge class rows + specific_charge class more
  unfolding specific_charge
  specific_joined class = sum_of_append (specific_of class) rows more

  pub interest_joined : (table : Table) → TableBounds table → ((g : ℕ) → Memᴰ g groups → AtMostTwoZones (reading 1) (rows ++ more) g)
      → interest_general table (rows ++ more) ≤ interest_general table rows + interest_general table more
  unfolding interest_general interest_figures_of
  interest_joined table ok two = general_joined (reading 1) table ok groups rows more two

  pub equity-joined : equity_general (rows ++ more) ≤ equity_general rows + equity_general more
  unfolding equity_general
  equity-joined = omega (arith, nets-joined (reading 2) (absolute_nets groups) (absolutes_joined groups) rows more)

  pub exchange_joined : exchange_general (rows ++ more) ≤ exchange_general rows + exchange_general more
  unfolding exchange_general
  exchange_joined = omega (arith, nets-joined (reading 3) (shorthand currencies) (shorthand-joined currencies) rows more)

  pub commodities_joined : commodity_general (rows ++ more) ≤ commodity_general rows + commodity_general more
  unfolding commodity_general commodity_figures_of
  commodities_joined = commodity-joined (reading 4) groups rows more

  pub simplified-joined : simplified_commodity (rows ++ more) ≤ simplified_commodity rows + simplified_commodity more
  unfolding simplified_commodity
  simplified-joined = nets-joined (reading 4) (simplified groups) (Netting.simplified-joined groups) rows more

  -- and of one currency: the premise is its own
  pub specific_alone_joined : (class g : ℕ) → specific_charge class (of_group g (rows ++ more)) ≡ specific_charge class (of_group g rows) + specific_charge class (of_group g more)
  unfolding of_group specific_charge
  specific_alone_joined class g = rw (filter-append (λ row. ℕ_discrete row.group g) rows more) (sum_of_append (specific_of class) (of_group g rows) (of_group g more))

  pub general_alone_joined : (table : Table) → TableBounds table → (g : ℕ) → g < group_count → AtMostTwoZones (reading 1) (rows ++ more) g
      → interest_general table (of_group g (rows ++ more)) ≤ interest_general table (of_group g rows) + interest_general table (of_group g more)
  unfolding interest_figures_of
  general_alone_joined table ok g h two =
      rw (alone_general table g (rows ++ more) h, alone_general table g rows h, alone_general table g more h)
      (currency-joined (reading 1) table ok g rows more two)

-- ---- permuted, and mirrored
-- long and short of a row exchanged, and all else as it was
abbrev pub mirrored_leg : Row → Row
mirrored_leg row =
    record { group = row.group; kind = row.kind; days = row.days; coupon = row.coupon; issue = row.issue; long = row.short; short = row.long }

mirrored_exchanges : (class : ℕ) → Exchanges (reading class) mirrored_leg
unfolding band_in low_coupon interest_band commodity_band
mirrored_exchanges class =
    record { same_group = λ row. refl; same_band = λ row. refl; to_long = λ row. refl; to_short = λ row. refl }

-- what neither an order nor a mirror changes
pub record Invariant {A : Type 0} (cost : List Row → A) : Type 0 where
  pub permuted : {rows rows' : List Row} → Perm rows rows' → cost rows ≡ cost rows'
  pub mirrored : (rows : List Row) → cost (map mirrored_leg rows) ≡ cost rows

specific_mirrored : (class : ℕ) (row : Row) → specific_of class (mirrored_leg row) ≡ specific_of class row
unfolding specific_of specific_weight interest_weight equity_weight
specific_mirrored class row = rw (add_comm row.short row.long)

pub specific_invariant : (class : ℕ) → Invariant (specific_charge class)
unfolding specific_charge
specific_invariant class =
    record {
      permuted = sum_of_permuted (specific_of class);
      mirrored = λ rows. sum_of_map (specific_of class) mirrored_leg rows ∙ simp (specific_mirrored class);
    }

pub interest_invariant : (table : Table) → Invariant (interest_general table)
unfolding interest_general interest_figures_of
interest_invariant table =
    record {
      permuted = grouped_permuted (weighing table (reading 1)) (λ f. (interest_figures table.percents f).charge) groups;
      mirrored = general_mirrored (reading 1) table groups mirrored_leg (mirrored_exchanges 1);
    }

equity-invariant : Invariant equity_general
unfolding equity_general
equity-invariant =
    record {
      permuted = λ p. ap (λ (f : Bands). eight_per_cent * absolute_nets groups f) (groups_of_permuted (reading 2) p);
      mirrored = λ rows. ap (λ (n : ℕ). eight_per_cent * n) (nets-mirrored (reading 2) (absolute_nets groups) (absolutes_mirrored groups) mirrored_leg (mirrored_exchanges 2) rows);
    }

pub exchange_invariant : Invariant exchange_general
unfolding exchange_general
exchange_invariant =
    record {
      permuted = λ p. ap (λ (f : Bands). eight_per_cent * shorthand currencies f) (groups_of_permuted (reading 3) p);
      mirrored = λ rows. ap (λ (n : ℕ). eight_per_cent * n) (nets-mirrored (reading 3) (shorthand currencies) (shorthand-mirrored currencies) mirrored_leg (mirrored_exchanges 3) rows);
    }

pub commodity-invariant : Invariant commodity_general
unfolding commodity_general commodity_figures_of
commodity-invariant =
    record {
      permuted = grouped_permuted (reading 4) (λ f. (commodity_figures f).charge) groups;
      mirrored = commodity-mirrored (reading 4) groups mirrored_leg (mirrored_exchanges 4);
    }

pub simplified-invariant : Invariant simplified_commodity
unfolding simplified_commodity
simplified-invariant =
    record {
      permuted = λ p. ap (simplified groups) (groups_of_permuted (reading 4) p);
      mirrored = nets-mirrored (reading 4) (simplified groups) (Netting.simplified-mirrored groups) mirrored_leg (mirrored_exchanges 4);
    }

-- both parts of a class's charge
pub interest_risk_invariant : (table : Table) → Invariant (interest_risk table)
unfolding interest_risk
interest_risk_invariant table =
    record {
      permuted = λ p. rw ((specific_invariant 1).permuted p, (interest_invariant table).permuted p);
      mirrored = λ rows. rw ((specific_invariant 1).mirrored rows, (interest_invariant table).mirrored rows);
    }

pub equity-risk_invariant : Invariant equity_risk
unfolding equity_risk
equity-risk_invariant =
    record {
      permuted = λ p. rw ((specific_invariant 2).permuted p, equity-invariant.permuted p);
      mirrored = λ rows. rw ((specific_invariant 2).mirrored rows, equity-invariant.mirrored rows);
    }

-- and, of a charge that neither changes, its list by currency
pub currencies-invariant : (cost : List Row → ℕ) → Invariant cost → Invariant (by_currency cost)
unfolding of_group by_currency
currencies-invariant cost same =
    record {
      permuted = λ p. ap (λ (f : ℕ → ℕ). map f groups) (fun_ext (λ g. same.permuted (Perm.filter (λ row. ℕ_discrete row.group g) p)));
      mirrored = λ rows. ap (λ (f : ℕ → ℕ). map f groups)
          (fun_ext (λ g. ap cost (filter-map (λ row. ℕ_discrete row.group g) mirrored_leg rows) ∙ same.mirrored (of_group g rows)));
    }
