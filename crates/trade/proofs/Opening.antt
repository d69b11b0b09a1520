-- A currency's ladder with one band open: with what stood there put back it is the ladder again, nothing wraps, and its charge falls up to the turn and rises
-- after it.
-- Assumes nothing.
use mathlib.Core.Path.{◌≡◌, refl, sym, ap, subst, ◌∙◌}
use mathlib.Core.List.{List, [], ◌∷◌}
use Prim.Native.Nat.{ℕ, zero, suc, ◌+◌, ◌-◌, ◌*◌, ◌≤◌, ◌<◌}
use native.Mathlib.Nat.{mul-le-mul_left, mul-le-mul_right}
use native.Mathlib.Omega.{arith}
use lib.ListN.{get_or, set}
use lib.Seq.{get_or-set_other}
use Rattle.sums.specs.Sums.{span}
use Rattle.ladder.specs.declared.InterestFigures.{InterestFigures}
use Rattle.ladder.specs.declared.positions.Position.{Position}
use Rattle.ladder.specs.declared.Table.{Table}
use Rattle.ladder.specs.Position.{Bands, ◌⊕◌, empty, gross, net, absolute_net, total, vertical, band_nets, at_band}
use Rattle.ladder.specs.Table.{most_weight, weight_in}
use Rattle.ladder.specs.Interest.{all_bands, zones, interest_figures}
use Rattle.ladder.specs.declared.whole.Gathered.{Gathered}
use Rattle.ladder.specs.Inner.Steps.{GatheredOf, limit, bands, band_count}
use Rattle.ladder.proofs.Matching.{Takes, plus_assoc}
use Rattle.ladder.proofs.Totals.{◌⊞◌, takes_vertical, total-append, total-joined, band_within}
use Rattle.ladder.proofs.AddsUp.{charge_of, three_grosses}
use Rattle.ladder.proofs.Gathering.{gathered_summed}
use Rattle.ladder.proofs.Agreeing.{Agree, gross-agree, interest_agree}
use Rattle.ladder.proofs.Bounds.{weighted_gross}
use Rattle.ladder.proofs.OneBand.{figures_with, put_back}
use Rattle.ladder.proofs.Turning.{total-at, band_lowers, band_raises}
use Rattle.charges.specs.Inner.Tables.{most_gross, bands_from, weighted_from}
use Rattle.trade.specs.Trade.{on_side, most_trade}
use Rattle.trade.specs.declared.side.Side.{Side}
use Rattle.trade.specs.Inner.Sides.{side_number, excess_in}
use Rattle.trade.specs.Inner.Searching.{Opening, OpenOf, CanOpen, open_charge, open_nets, excess_of, Searchable}
use Rattle.trade.proofs.Sides.{side_plus, side_gross, side_one, side_less, side_more, excess_taken}

-- ---- an array with one entry cleared
cleared : (list : List Position) (k : ℕ) → get_or (set list k empty) k empty ≡ empty
cleared [] k = refl
cleared (position ∷ list) zero = refl
cleared (position ∷ list) (suc k) = cleared list k

-- ---- the ladder
module _ (table : Table) (positions : List Position) (band : ℕ) (can : CanOpen table positions band) where
  -- the weighted bands
  abbrev whole : Bands
  whole = weighted_from table positions 0

  in_range : band < 15
  in_range = omega (arith, can.in_range)

  pub whole_fits : gross (total whole (span 0 band_count)) ≤ most_weight * most_gross
  whole_fits =
      omega (
        arith,
        weighted_gross table most_weight can.bounds.weights (bands_from positions 0) (span 0 band_count),
        mul-le-mul_left most_weight can.fits,
      )

  pub each_fits : (k : ℕ) → k < band_count → gross (whole k) ≤ limit
  each_fits k h = omega (arith, whole_fits, band_within whole k band_count h)

  -- and the array that holds them
  module _ (weighted : List Position) (each : (k : ℕ) → k < band_count → bands weighted k ≡ whole k) where
    abbrev others : Bands
    others = bands (set weighted band empty)

    abbrev own : Position
    own = bands weighted band

    none : others band ≡ empty
    none = cleared weighted band

    same : (k : ℕ) → k < band_count → (band ≡ k → ⊥) → others k ≡ whole k
    same k h other = get_or-set_other weighted band k empty empty (λ e. other (sym e)) ∙ each k h

    own_is : own ≡ whole band
    own_is = each band in_range

    -- with the band put back, and more
    back : (position : Position) → Agree band_count (others ⊞ at_band band (own ⊕ position)) (whole ⊞ at_band band position)
    back position =
        subst (λ (stood : Position). Agree band_count (others ⊞ at_band band (stood ⊕ position)) (whole ⊞ at_band band position)) (sym own_is)
        (put_back others whole band none same position)

    -- what is left and what stood in the band are the whole
    pub parts_fit : gross (total others (all_bands zones)) + gross own ≡ gross (total whole (span 0 band_count))
    unfolding span
    parts_fit =
        omega (
          arith,
          gross-agree (back empty),
          ap gross (total-joined others (at_band band (own ⊕ empty)) (span 0 band_count)),
          ap gross (total-joined whole (at_band band empty) (span 0 band_count)),
          ap gross (total-at band in_range (own ⊕ empty)),
          ap gross (total-at band in_range empty),
        )

    -- the zones of what is left, and the side that is added to
    module _ (is : Side) {z : Gathered} (of : GatheredOf others z) where
      abbrev side : ℕ
      side = side_number is

      abbrev opened : Opening
      opened = record { zones = z; own = own; band = band; side = is; weight = weight_in table band; percents = table.percents }

      charge-at : (amount : ℕ) → open_charge opened amount ≡ charge_of table.percents zones (others ⊞ at_band band (own ⊕ on_side side (weight_in table band * amount)))
      unfolding open_charge
      charge-at amount =
          ap (λ (figures : InterestFigures). figures.charge)
          (figures_with table.percents others band (own ⊕ on_side side (weight_in table band * amount)) none in_range of)

      charge-is : (amount : ℕ) → open_charge opened amount ≡ (interest_figures table.percents (whole ⊞ at_band band (on_side side (weight_in table band * amount)))).charge
      charge-is amount =
          charge-at amount ∙ ap (λ (figures : InterestFigures). figures.charge) (interest_agree table.percents (back (on_side side (weight_in table band * amount))))

      -- the net of the whole ladder
      whole_net : Takes (vertical others (all_bands zones)) (total others (all_bands zones) ⊕ own) (open_nets opened)
      whole_net =
          let nets : band_nets others (all_bands zones) ≡ z.first.nets ⊕ (z.second.nets ⊕ z.third.nets) =
          rw (
            total-append (λ k. net (others k)) zones.first,
            total-append (λ k. net (others k)) zones.second,
            of.first.is_nets,
            of.second.is_nets,
            of.third.is_nets,
          ) in
          let bands = takes_vertical others (all_bands zones) in
          record {
            longs = omega (arith, bands.longs, ap (λ (a : Position). a.long) nets);
            shorts = omega (arith, bands.shorts, ap (λ (a : Position). a.short) nets);
          }

      excess_is : excess_in side (total others (all_bands zones) ⊕ own) ≡ excess_of opened
      excess_is = excess_taken side whole_net

      -- two amounts, the smaller of which is less by so much
      module _ (low more : ℕ) where
        abbrev weight : ℕ
        weight = weight_in table band

        on : own ⊕ on_side side (weight * low) ⊕ on_side side (weight * more) ≡ own ⊕ on_side side (weight * (low + more))
        on =
            plus_assoc own (on_side side (weight * low)) (on_side side (weight * more))
            ∙ ap (λ (a : Position). own ⊕ a) (side_plus side (weight * low) (weight * more) ∙ ap (on_side side) (omega arith))

        abbrev before : Position
        before = total others (all_bands zones) ⊕ own

        -- the whole net with the smaller and with the greater amount
        with_low : absolute_net (before ⊕ on_side side (weight * low)) ≡ absolute_net (total others (all_bands zones) ⊕ (own ⊕ on_side side (weight * low)))
        with_low = ap absolute_net (plus_assoc (total others (all_bands zones)) own (on_side side (weight * low)))

        with_high : absolute_net (before ⊕ on_side side (weight * low + weight * more))
            ≡ absolute_net (total others (all_bands zones) ⊕ (own ⊕ on_side side (weight * low) ⊕ on_side side (weight * more)))
        with_high =
            ap absolute_net (ap (λ (a : Position). before ⊕ a) (sym (side_plus side (weight * low) (weight * more)))
            ∙ plus_assoc (total others (all_bands zones)) own (on_side side (weight * low) ⊕ on_side side (weight * more))
            ∙ ap (λ (a : Position). total others (all_bands zones) ⊕ a) (sym (plus_assoc own (on_side side (weight * low)) (on_side side (weight * more)))))

        falls : weight * low + weight * more ≤ excess_of opened → open_charge opened (low + more) ≤ open_charge opened low
        falls fits =
            let less = side_less side before (weight * low) (weight * more) (omega (arith, fits, excess_is)) in
            let lowered = band_lowers band in_range table.percents can.bounds.percents others (own ⊕ on_side side (weight * low)) (on_side side (weight * more)) (side_one side (weight * more))
            (omega (arith, less, with_low, with_high, side_gross side (weight * more))) in
            rw (charge-at (low + more), charge-at low) (rw on at lowered)

        rises : excess_of opened ≤ weight * low → open_charge opened low ≤ open_charge opened (low + more)
        rises fits =
            let less = side_more side before (weight * low) (weight * more) (omega (arith, fits, excess_is)) in
            let raised = band_raises band in_range table.percents can.bounds.percents others (own ⊕ on_side side (weight * low)) (on_side side (weight * more)) (side_one side (weight * more))
            (omega (arith, less, with_low, with_high, side_gross side (weight * more))) in
            rw (charge-at (low + more), charge-at low) (rw on at raised)

      pub searchable_of : Searchable opened
      searchable_of =
          record {
            percents = can.bounds.percents;
            summed = gathered_summed of (omega (arith, parts_fit, whole_fits));
            room = omega (arith, of.first.is_gross, of.second.is_gross, of.third.is_gross, three_grosses zones others, parts_fit, whole_fits, mul-le-mul_right most_trade (can.bounds.weights band));
            falling = λ low high h fits.
                let same : low + (high - low) ≡ high = omega arith in
                subst (λ (amount : ℕ). open_charge opened amount ≤ open_charge opened low) same
                (falls low (high - low) (omega (arith, fits, ap (λ (n : ℕ). weight_in table band * n) same)));
            rising = λ low high h fits.
                let same : low + (high - low) ≡ high = omega arith in
                subst (λ (amount : ℕ). open_charge opened low ≤ open_charge opened amount) same (rises low (high - low) fits);
          }

      pub opened_of : OpenOf table positions band is opened
      opened_of = record { charges = charge-is }
