-- What is left when the same is taken off both sides costs no more: by any ladder table, for commodities, by nets, and by a weight of each row.
-- Assumes nothing.
use Prim.Native.Nat.{ℕ, ◌+◌, ◌-◌, ◌≤◌}
use mathlib.Core.Path.{◌≡◌, refl, ap, ◌∙◌, fun_ext}
use mathlib.Core.List.{List, [], ◌∷◌}
use native.Mathlib.Omega.{arith}
use Rattle.sums.specs.Sums.{sum_of}
use Rattle.sums.proofs.Sums.{sum_of_plus, sum_of≤}
use Rattle.book.specs.declared.Row.{Row}
use Rattle.ladder.specs.declared.positions.Position.{Position}
use Rattle.ladder.specs.declared.Table.{Table}
use Rattle.ladder.specs.Position.{Bands, gross, net, absolute_net, total, ◌⊕◌}
use Rattle.ladder.specs.Table.{weight_in}
use Rattle.ladder.specs.Interest.{zones}
use Rattle.ladder.specs.Commodity.{Carried, nothing, to_band, carry, commodity_bands}
use Rattle.ladder.specs.Nets.{greater, absolute_nets, shorthand}
use Rattle.ladder.specs.Rows.{Reading, weighing, groups_of}
use Rattle.ladder.proofs.Matching.{takes_net, takes_gross}
use Rattle.ladder.proofs.Totals.{zone_net_lem, gross-sum}
use Rattle.ladder.proofs.Taking.{TakesOff, charge-taken}
use Rattle.ladder.proofs.Carrying.{carry-charge}
use Rattle.ladder.proofs.Books.{interest_charge, commodity_charge, grouped}
use Rattle.issues.proofs.Counted.{bare, Measure, plain_measure, times_measure, index_measure, counted}
use Rattle.issues.proofs.Thinning.{Thins}

-- ---- costs that never rise when the same is taken off both sides of a band
pub record Falls (cost : Bands → ℕ) : Type 0 where
  pub falls : {taken : ℕ → ℕ} {before after : Bands} → TakesOff taken before after → cost after ≤ cost before

interest_falls : (table : Table) → Falls (interest_charge table)
interest_falls table = record { falls = λ t. omega (arith, charge-taken t table.percents zones) }

-- each band's net stays as it was
abbrev nets : Bands → Bands
nets f = λ k. net (f k)

nets-same : {taken : ℕ → ℕ} {before after : Bands} → TakesOff taken before after → nets before ≡ nets after
nets-same t = fun_ext (λ k. takes_net (t.each k))

pub absolutes_fall : (list : List ℕ) → Falls (absolute_nets list)
absolutes_fall list = record { falls = λ t. omega (arith, ap (λ (f : Bands). gross (total f list)) (nets-same t)) }

pub shorthand-falls : (list : List ℕ) → Falls (shorthand list)
shorthand-falls list =
    record { falls = λ t. omega (arith, ap (λ (f : Bands). greater (total f list)) (nets-same t), ap gross (takes_net (t.each 0))) }

-- what is carried from band to band depends on nets alone
carried_same : {taken : ℕ → ℕ} {before after : Bands} → TakesOff taken before after → (s s' : Carried) (bands : List ℕ)
    → s.position ≡ s'.position → s.carried ≡ s'.carried → (carry s before bands).carried ≡ (carry s' after bands).carried
unfolding carry to_band
carried_same t s s' [] e e' = e'
carried_same {taken} {before} {after} t s s' (k ∷ bands) e e' =
    carried_same t (to_band s (before k)) (to_band s' (after k)) bands
    (ap (λ (a : Position). net (a ⊕ before k)) e ∙ takes_net {m = taken k} (omega (arith, t.each k)))
    (omega (arith, e', ap gross e))

commodity-falls : Falls commodity_charge
commodity-falls =
    record {
      falls = λ {taken} {before} {after} t.
          omega (
            arith,
            carry-charge before commodity_bands,
            carry-charge after commodity_bands,
            gross-sum before commodity_bands,
            gross-sum after commodity_bands,
            sum_of≤ (λ k. gross (after k)) (λ k. gross (before k)) commodity_bands (λ k member. omega (arith, takes_gross (t.each k))),
            ap gross (zone_net_lem before commodity_bands),
            ap gross (zone_net_lem after commodity_bands),
            ap (λ (f : Bands). absolute_net (total f commodity_bands)) (nets-same t),
            carried_same t nothing nothing commodity_bands refl refl,
          );
    }

-- ---- rows read by a band that depends on bytes 0 to 7 alone
abbrev counting : (band : Row → ℕ) → (Row → ℕ → ℕ) → Reading Row
counting band counts =
    record { group = λ row. row.group; band = band; long = λ row. counts row row.long; short = λ row. counts row row.short }

abbrev pub read_by : (band : Row → ℕ) → Reading Row
read_by band = counting band (λ row n. n)

module _ {rows rows' : List Row} (t : Thins rows rows') where
  -- bands made of counted rows
  thinner : {counts : ℕ → Row → ℕ → ℕ} → ((k : ℕ) → Measure (counts k))
      → TakesOff (λ k. (counted (counts k) rows).long - (counted (counts k) rows').long) (λ k. counted (counts k) rows) (λ k. counted (counts k) rows')
  thinner measures = record { each = λ k. t.takes (measures k) }

  -- the net of each group
  pub nets-thin : (band : Row → ℕ) {cost : Bands → ℕ} → Falls cost → cost (groups_of (read_by band) rows') ≤ cost (groups_of (read_by band) rows)
  nets-thin band cost = cost.falls (thinner (λ g. index_measure (λ row. row.group) g (λ row. refl) plain_measure))

  -- the amounts of all rows
  pub amounts_thin : {counts : Row → ℕ → ℕ} → Measure counts
      → sum_of (λ row. counts row (row.long + row.short)) rows' ≤ sum_of (λ row. counts row (row.long + row.short)) rows
  amounts_thin {counts} m =
      simp m.adds
      (omega (
        arith,
        t.takes m,
        sum_of_plus (λ row. counts row row.long) (λ row. counts row row.short) rows,
        sum_of_plus (λ row. counts row row.long) (λ row. counts row row.short) rows',
      ))

  module _ (band : Row → ℕ) (blind : (row : Row) → band row ≡ band (bare row)) where
    -- the ladder of each group
    grouped_thins : {counts : Row → ℕ → ℕ} → Measure counts → {cost : Bands → ℕ} → Falls cost → (groups : List ℕ)
        → grouped (counting band counts) cost groups rows' ≤ grouped (counting band counts) cost groups rows
    grouped_thins m cost groups =
        sum_of≤ _ _ groups (λ g member. cost.falls (thinner (λ k. index_measure band k blind (index_measure (λ row. row.group) g (λ row. refl) m))))

    pub general_thins : (table : Table) (groups : List ℕ)
        → grouped (weighing table (read_by band)) (interest_charge table) groups rows' ≤ grouped (weighing table (read_by band)) (interest_charge table) groups rows
    general_thins table = grouped_thins (times_measure (λ row. weight_in table (band row)) (λ row. ap (weight_in table) (blind row))) (interest_falls table)

    pub commodity-thins : (groups : List ℕ) → grouped (read_by band) commodity_charge groups rows' ≤ grouped (read_by band) commodity_charge groups rows
    commodity-thins = grouped_thins plain_measure commodity-falls
