-- What the tables of an accepted book cost is what its rows cost, and no sum of it is too large.
-- Assumes nothing.
use mathlib.Core.Path.{◌≡◌, refl, sym, ap, ◌∙◌, fun_ext}
use mathlib.Core.List.{List, map}
use Prim.Native.Nat.{ℕ, ◌+◌, ◌*◌, ◌≤◌, ◌<◌}
use native.Mathlib.Omega.{arith}
use lib.ListN.{length, get_or, replicate, length-replicate}
use Rattle.sums.specs.Sums.{sum_of, sum_at, span}
use Rattle.sums.specs.Every.{Every}
use Rattle.sums.proofs.Every.{every_implied, every_all}
use Rattle.sums.proofs.Sums.{sum_of_map}
use Rattle.sums.proofs.Spans.{sum_same, slots_all}
use Rattle.sums.proofs.Tables.{length_tally}
use Rattle.sums.proofs.Filling.{listed_same}
use Rattle.book.specs.declared.Row.{Row}
use Rattle.book.specs.Counts.{counts_of}
use Rattle.book.specs.Legs.{legs_of}
use Rattle.book.specs.Accepted.{Accepted}
use Rattle.book.proofs.Acceptance.{class_clean, legs_every}
use Rattle.book.proofs.Placing.{before-within}
use Rattle.book.proofs.ClassRows.{class_size, rows_clean}
use Rattle.ladder.specs.declared.positions.Position.{Position}
use Rattle.ladder.specs.Position.{Bands, gross, total}
use Rattle.ladder.specs.declared.Table.{Table}
use Rattle.ladder.specs.Interest.{interest_figures}
use Rattle.ladder.specs.Commodity.{commodity_band_count, commodity_figures}
use Rattle.ladder.specs.Nets.{absolute_nets, shorthand, simplified}
use Rattle.ladder.specs.Rows.{in_group, ladder_of, groups_of}
use Rattle.ladder.specs.Inner.Steps.{band_count}
use Rattle.ladder.proofs.Matching.{same_position}
use Rattle.ladder.proofs.Arrays.{sized_by}
use Rattle.ladder.proofs.Agreeing.{Agree, total-agree, gross-agree, absolutes_agree, shorthand-agree, simplified-agree}
use Rattle.ladder.proofs.Bounds.{positions_by_within, positions_by_all, ladders_within}
use Rattle.charges.specs.Bands.{band_in}
use Rattle.charges.specs.Charges.{eight_per_cent, groups, currencies, reading, specific_of, specific_charge}
use Rattle.charges.specs.Charges.{interest_general, equity_general, exchange_general, commodity_general, simplified_commodity, by_currency}
use Rattle.charges.specs.Report.{class_rows}
use Rattle.charges.specs.Inner.Slots.{group_count, equity_first, exchange_first, slot_count, slot_at, leg_slot, leg_long, leg_counted, LegSums}
use Rattle.charges.specs.Inner.Tables.{most_gross, bands_from, gross_from, weighted_from, currency_at, commodity_at, commodity_groups}
use Rattle.charges.proofs.Legs.{amounts, amounts_within}
use Rattle.charges.proofs.Rates.{groups-rate}
use Rattle.charges.proofs.Currencies.{alone_specific, alone_general}
use Rattle.charges.proofs.Places.{bands_in, Placed, commodity-below}
use Rattle.charges.proofs.Figures.{interest_from, commodity-from}
use Rattle.charges.proofs.Sorting.{Holds, holds, none_counted}

-- ---- the rows of a class of an accepted book
module _ (s : List ℕ) (ok : Accepted s) where
  legs_placed : Every Placed (legs_of s)
  legs_placed = legs_every s (λ class low high. every_implied (λ bytes clean. record { low = low; high = high; group = clean.group }) (class_clean s ok class low high))

  module _ (class : ℕ) (low : 1 ≤ class) (high : class ≤ 4) where
    pub amounts_most : amounts (class_rows s class) ≤ most_gross
    amounts_most = omega (arith, amounts_within class (rows_clean s ok class low high), class_size s ok class low high, before-within (counts_of s) class, ok.few)

    -- each row is of one of the 32 groups
    pub rows_grouped : Every (λ row. row.group < group_count) (class_rows s class)
    rows_grouped = every_implied (λ row clean. omega (arith, clean.group)) (rows_clean s ok class low high)

-- ---- tables that agree with the ladders of a class
module _ (class n : ℕ) (rows : List Row) (table : ℕ → Bands) (agree : (g : ℕ) → g < group_count → Agree n (table g) (ladder_of (reading class) g rows)) where
  ladders_fit : sum_of (λ g. gross (total (table g) (span 0 n))) groups ≤ amounts rows
  unfolding amounts
  ladders_fit =
      omega (arith, sum_same (λ g. gross (total (table g) (span 0 n))) _ group_count (λ g h. gross-agree (agree g h)), ladders_within (reading class) n rows group_count)

  -- a group without rows has no amounts
  unused_none : (g : ℕ) → g < group_count → ((amount : Row → ℕ) → sum_at (λ row. row.group) amount g rows ≡ 0) → gross (total (table g) (span 0 n)) ≡ 0
  unused_none g h none =
      omega (
        arith,
        gross-agree (agree g h),
        positions_by_within (band_in class) (in_group (reading class) g (λ row. row.long)) (in_group (reading class) g (λ row. row.short)) n rows,
        none (λ row. row.long),
        none (λ row. row.short),
      )

-- ---- without bands a group's ladder is its sums
flat-sum : (class : ℕ) → ((row : Row) → band_in class row ≡ 0) → (amount : Row → ℕ) (g : ℕ) (rows : List Row)
    → sum_at (band_in class) (in_group (reading class) g amount) 0 rows ≡ sum_at (λ row. row.group) amount g rows
flat-sum class flat amount g rows = ap (λ (f : Row → ℕ). sum_of f rows) (fun_ext (λ row. simp (flat row)))

pub record Costs (s : List ℕ) (positions : List Position) (specifics rows : List ℕ) : Type 0 where
  pub sized : length positions ≡ slot_count
  pub interest_fits : sum_of (λ g. gross_from band_count positions (currency_at g)) groups ≤ most_gross
  pub currency-unused : (g : ℕ) → g < group_count → get_or rows (0 + g) 0 ≡ 0 → gross_from band_count positions (currency_at g) ≡ 0
  pub commodity-fits : sum_of (λ g. gross_from commodity_band_count positions (commodity_at g)) groups ≤ most_gross
  pub commodity-unused : (g : ℕ) → g < group_count → get_or rows (96 + g) 0 ≡ 0 → gross_from commodity_band_count positions (commodity_at g) ≡ 0
  pub equity-fits : gross_from group_count positions equity_first ≤ most_gross
  pub exchange_fits : gross_from group_count positions exchange_first ≤ most_gross
  pub specifics_are : map (λ g. get_or specifics (0 + g) 0) groups ≡ by_currency (specific_charge 1) (class_rows s 1)
  pub commodity-is : sum_of (λ g. (commodity_figures (bands_from positions (commodity_at g))).charge) groups ≡ commodity_general (class_rows s 4)
  pub equity-is : eight_per_cent * absolute_nets groups (bands_from positions equity_first) ≡ equity_general (class_rows s 2)
  pub exchange_is : eight_per_cent * shorthand currencies (bands_from positions exchange_first) ≡ exchange_general (class_rows s 3)
  pub groups-fit : gross (total (commodity_groups positions) groups) ≤ most_gross
  pub simplified-is : simplified groups (commodity_groups positions) ≡ simplified_commodity (class_rows s 4)
  pub equity-specific_is : sum_of (λ entry. entry) (map (λ g. get_or specifics (32 + g) 0) groups) ≡ specific_charge 2 (class_rows s 2)

module _ (s : List ℕ) (positions : List Position) (specifics rows : List ℕ) (ok : Accepted s) (sums : LegSums (legs_of s) positions specifics rows) where
  at : (class g : ℕ) → 1 ≤ class → class ≤ 4 → g < group_count → Holds (legs_of s) class g positions specifics rows
  at class g low high h = holds (legs_of s) (legs_placed s ok) class g low high (omega arith) positions specifics rows sums

  currency-agree : (g : ℕ) → g < group_count → Agree band_count (bands_from positions (currency_at g)) (ladder_of (reading 1) g (class_rows s 1))
  unfolding slot_at bands_in
  currency-agree g h = let held = at 1 g (omega arith) (omega arith) h in record { below = λ k h'. same_position (held.long k h') (held.short k h') }

  commodity-agrees : (g : ℕ) → g < group_count → Agree commodity_band_count (bands_from positions (commodity_at g)) (ladder_of (reading 4) g (class_rows s 4))
  unfolding slot_at bands_in
  commodity-agrees g h = let held = at 4 g (omega arith) (omega arith) h in record { below = λ k h'. same_position (held.long k h') (held.short k h') }

  -- a commodity's bands together are its position
  simplified-agrees : Agree group_count (commodity_groups positions) (groups_of (reading 4) (class_rows s 4))
  unfolding band_in
  simplified-agrees =
      record {
        below = λ g h.
            total-agree (commodity-agrees g h) (λ a. a) 0 commodity_band_count (omega arith)
            ∙ positions_by_all (band_in 4) _ _ commodity_band_count (every_all commodity-below (class_rows s 4));
      }

  equity-agree : Agree group_count (bands_from positions equity_first) (groups_of (reading 2) (class_rows s 2))
  unfolding slot_at bands_in band_in
  equity-agree =
      record {
        below = λ g h.
            let held = at 2 g (omega arith) (omega arith) h in
            same_position (held.long 0 (omega arith) ∙ flat-sum 2 (λ row. refl) (λ row. row.long) g _) (held.short 0 (omega arith) ∙ flat-sum 2 (λ row. refl) (λ row. row.short) g _);
      }

  exchange_agree : Agree group_count (bands_from positions exchange_first) (groups_of (reading 3) (class_rows s 3))
  unfolding slot_at bands_in band_in
  exchange_agree =
      record {
        below = λ g h.
            let held = at 3 g (omega arith) (omega arith) h in
            same_position (held.long 0 (omega arith) ∙ flat-sum 3 (λ row. refl) (λ row. row.long) g _) (held.short 0 (omega arith) ∙ flat-sum 3 (λ row. refl) (λ row. row.short) g _);
      }

  -- the charge of each currency's ladder, by a table
  pub generals_are : (table : Table)
      → map (λ g. (interest_figures table.percents (weighted_from table positions (currency_at g))).charge) groups ≡ by_currency (interest_general table) (class_rows s 1)
  unfolding by_currency
  generals_are table =
      listed_same _ _ group_count
      (λ g h.
      ap (λ figures. figures.charge) (interest_from positions (currency_at g) g (class_rows s 1) table (currency-agree g h))
      ∙ sym (alone_general table g (class_rows s 1) h))

  pub costs : Costs s positions specifics rows
  unfolding specific_charge commodity_general simplified_commodity equity_general exchange_general leg_counted by_currency
  costs =
      record {
        sized = sized_by positions sums.is_longs (length_tally leg_slot leg_long (replicate slot_count 0) (legs_of s) ∙ length-replicate {A = ℕ} slot_count 0);
        interest_fits = omega (arith, ladders_fit 1 band_count (class_rows s 1) _ currency-agree, amounts_most s ok 1 (omega arith) (omega arith));
        currency-unused = λ g h none. unused_none 1 band_count (class_rows s 1) _ currency-agree g h
            (none_counted 1 g (class_rows s 1) (λ row. refl) (sym (at 1 g (omega arith) (omega arith) h).counted ∙ none));
        commodity-fits = omega (arith, ladders_fit 4 commodity_band_count (class_rows s 4) _ commodity-agrees, amounts_most s ok 4 (omega arith) (omega arith));
        commodity-unused = λ g h none. unused_none 4 commodity_band_count (class_rows s 4) _ commodity-agrees g h
            (none_counted 4 g (class_rows s 4) (λ row. refl) (sym (at 4 g (omega arith) (omega arith) h).counted ∙ none));
        equity-fits = omega (arith, gross-agree equity-agree, groups-rate 2 (class_rows s 2), amounts_most s ok 2 (omega arith) (omega arith));
        exchange_fits = omega (arith, gross-agree exchange_agree, groups-rate 3 (class_rows s 3), amounts_most s ok 3 (omega arith) (omega arith));
        specifics_are = listed_same _ _ group_count (λ g h. (at 1 g (omega arith) (omega arith) h).specific ∙ sym (alone_specific g (class_rows s 1)));
        commodity-is = sum_same _ _ group_count (λ g h. ap (λ figures. figures.charge) (commodity-from positions (commodity_at g) g (class_rows s 4) (commodity-agrees g h)));
        equity-is = ap (λ (n : ℕ). eight_per_cent * n) (absolutes_agree equity-agree);
        groups-fit = omega (arith, gross-agree simplified-agrees, groups-rate 4 (class_rows s 4), amounts_most s ok 4 (omega arith) (omega arith));
        simplified-is = simplified-agree simplified-agrees;
        exchange_is = ap (λ (n : ℕ). eight_per_cent * n) (shorthand-agree exchange_agree);
        equity-specific_is = sum_of_map (λ entry. entry) _ groups
            ∙ sum_same _ _ group_count (λ g h. (at 2 g (omega arith) (omega arith) h).specific)
            ∙ slots_all (λ row. row.group) (specific_of 2) group_count (rows_grouped s ok 2 (omega arith) (omega arith));
      }
