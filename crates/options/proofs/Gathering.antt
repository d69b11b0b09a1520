-- The sums of a class by group: one option more, room for it, and what the whole is.
-- Assumes nothing.
use mathlib.Core.Path.{◌≡◌, refl, sym, ap, ◌∙◌}
use mathlib.Core.Bool.{true, false}
use mathlib.Core.List.{List, [], ◌∷◌, ◌++◌}
use Prim.Native.Nat.{ℕ, ◌+◌, ◌*◌, ◌≤◌, ◌<◌}
use native.Mathlib.Omega.{arith}
use borrow.Author.Tests.{eq-eqb, ne_eqb}
use lib.Dec.{eqb}
use lib.ListN.{length, get_or, set, replicate, length-replicate}
use Rattle.sums.specs.Sums.{sum_of, span}
use Rattle.sums.specs.Inner.Tables.{tally}
use Rattle.sums.proofs.Sums.{sum_of_append}
use Rattle.sums.proofs.Spans.{sum_same}
use Rattle.sums.proofs.Tables.{length_tally, placed-none, tallied, tally_last, tally_room}
use Rattle.ladder.specs.declared.positions.Position.{Position}
use Rattle.ladder.specs.Position.{empty, gross, total}
use Rattle.ladder.specs.Inner.Steps.{bands, longs_of, shorts_of}
use Rattle.ladder.proofs.Arrays.{long_at, short_at, bands_by, sized_by, no_longs, no_shorts}
use Rattle.std.proofs.lemmas.List.{map-set}
use Rattle.std.proofs.Math.Seq.{map-set_same}
use Rattle.ladder.proofs.Matching.{same_position}
use Rattle.ladder.proofs.Agreeing.{Agree, gross-agree, absolutes_agree}
use Rattle.ladder.specs.Nets.{absolute_nets}
use Rattle.charges.specs.Charges.{groups}
use Rattle.charges.specs.Inner.Slots.{group_count}
use Rattle.options.specs.Table.{OptionRow, option_count, option_at, options_of}
use Rattle.options.specs.Refusals.{most_options}
use Rattle.options.specs.Greeks.{is_bought, bought_in, sold_in, sides_in, half_short, gamma_charge, quarter_shift, vega_of, vega_charge}
use Rattle.options.specs.Inner.Reading.{options_to}
use Rattle.options.specs.Inner.Sums.{most_twice_gamma, most_vega, Measure, gamma_measure, vega_measure, group_of, Gathered, half_shorts}
use Rattle.options.proofs.Walking.{to_next, to_all}
use Rattle.options.proofs.Limits.{sides_within, groups-sum, gamma_charge_within}

-- one side of a position with more
module _ (positions : List Position) (at more : ℕ) where
  long_set : longs_of (set positions at (record (bands positions at) { long = (bands positions at).long + more }))
      ≡ set (longs_of positions) at (get_or (longs_of positions) at 0 + more)
  long_set =
      map-set (λ (a : Position). a.long) positions at _
      ∙ ap (λ (n : ℕ). set (longs_of positions) at (n + more)) (sym (long_at positions at))

  short_set : shorts_of (set positions at (record (bands positions at) { short = (bands positions at).short + more }))
      ≡ set (shorts_of positions) at (get_or (shorts_of positions) at 0 + more)
  short_set =
      map-set (λ (a : Position). a.short) positions at _
      ∙ ap (λ (n : ℕ). set (shorts_of positions) at (n + more)) (sym (short_at positions at))

module _ (measure : Measure) (class : ℕ) where
  abbrev amount : OptionRow → ℕ
  amount = measure.amount

  module _ (s : List ℕ) where
    pub gathered_none : {positions : List Position} → positions ≡ replicate group_count empty → Gathered measure class 0 (options_to s 0) positions
    unfolding span sum_of
    gathered_none none =
        record {
          is_bought_lem = ap longs_of none ∙ no_longs group_count;
          is_sold = ap shorts_of none ∙ no_shorts group_count;
          within = omega arith;
        }

    module _ {row : ℕ} {positions : List Position} (before : Gathered measure class row (options_to s row) positions)
        {option : OptionRow} (own : option ≡ option_at s row) (at_most : amount option ≤ measure.most) where
      -- with this option
      next_sum : sum_of amount (options_to s row ++ (option ∷ [])) ≤ measure.most * row + measure.most
      unfolding sum_of
      next_sum = omega (arith, before.within, sum_of_append amount (options_to s row) (option ∷ []), at_most)

      -- a side that takes it, and one that does not
      module _ (side : OptionRow → ℕ) {table : List ℕ} (is : table ≡ tally group_of side (replicate group_count 0) (options_to s row)) where
        side_more : side option ≡ amount option → set table option.group (get_or table option.group 0 + amount option) ≡ tally group_of side (replicate group_count 0) (options_to s (row + 1))
        side_more takes = rw (to_next s row, ← own, is, ← takes) (sym (tally_last group_of side (replicate group_count 0) (options_to s row) option))

        side_same : side option ≡ 0 → table ≡ tally group_of side (replicate group_count 0) (options_to s (row + 1))
        side_same none =
            rw (to_next s row, ← own) (is ∙ sym (placed-none group_of side _ option none) ∙ sym (tally_last group_of side (replicate group_count 0) (options_to s row) option))

      more : sum_of amount (options_to s (row + 1)) ≤ measure.most * (row + 1)
      more = rw (to_next s row, ← own) (omega (arith, next_sum))

      -- of another class
      pub gathered_other : (option.class ≡ class → ⊥) → Gathered measure class (row + 1) (options_to s (row + 1)) positions
      unfolding bought_in sold_in
      gathered_other other =
          let no : eqb option.class class ≡ false = ne_eqb option.class class other in
          record { is_bought_lem = side_same (bought_in amount class) before.is_bought_lem (rw no); is_sold = side_same (sold_in amount class) before.is_sold (rw no); within = more }

      module _ (its : option.class ≡ class) where
        same : eqb option.class class ≡ true
        same = eq-eqb option.class class its

        -- bought
        module _ (is : is_bought option ≡ true) where
          takes_bought : bought_in amount class option ≡ amount option
          unfolding bought_in
          takes_bought = rw (same, is)

          pub bought_room : option.group < group_count → (bands positions option.group).long + amount option ≤ measure.most * row + measure.most
          bought_room grouped =
              rw (bands_by positions before.is_bought_lem before.is_sold option.group)
              (omega (
                arith,
                takes_bought,
                tally_room group_of (bought_in amount class) group_count (options_to s row) option [] option.group grouped,
                sides_within amount class (options_to s row ++ (option ∷ [])),
                next_sum,
              ))

          pub gathered_bought : Gathered measure class (row + 1) (options_to s (row + 1)) (set positions option.group (record (bands positions option.group) { long = (bands positions option.group).long + amount option }))
          unfolding sold_in
          gathered_bought =
              record {
                is_bought_lem = long_set positions option.group (amount option) ∙ side_more (bought_in amount class) before.is_bought_lem takes_bought;
                is_sold = map-set_same (λ (a : Position). a.short) positions option.group _ empty refl ∙ side_same (sold_in amount class) before.is_sold (rw (same, is));
                within = more;
              }

        -- sold
        module _ (is : is_bought option ≡ false) where
          takes_sold : sold_in amount class option ≡ amount option
          unfolding sold_in
          takes_sold = rw (same, is)

          pub sold_room : option.group < group_count → (bands positions option.group).short + amount option ≤ measure.most * row + measure.most
          sold_room grouped =
              rw (bands_by positions before.is_bought_lem before.is_sold option.group)
              (omega (
                arith,
                takes_sold,
                tally_room group_of (sold_in amount class) group_count (options_to s row) option [] option.group grouped,
                sides_within amount class (options_to s row ++ (option ∷ [])),
                next_sum,
              ))

          pub gathered_sold : Gathered measure class (row + 1) (options_to s (row + 1)) (set positions option.group (record (bands positions option.group) { short = (bands positions option.group).short + amount option }))
          unfolding bought_in
          gathered_sold =
              record {
                is_bought_lem = map-set_same (λ (a : Position). a.long) positions option.group _ empty refl ∙ side_same (bought_in amount class) before.is_bought_lem (rw (same, is));
                is_sold = short_set positions option.group (amount option) ∙ side_more (sold_in amount class) before.is_sold takes_sold;
                within = more;
              }

    pub gathered_all : {row : ℕ} {positions : List Position} → row ≡ option_count s → Gathered measure class row (options_to s row) positions
        → Gathered measure class (option_count s) (options_of s) positions
    gathered_all last all = rw (← last, ← to_all s last) all

  -- ---- the sums are the definition's
  module _ {many : ℕ} {options : List OptionRow} {positions : List Position} (all : Gathered measure class many options positions) where
    sides_read : Agree group_count (bands positions) (sides_in amount class options)
    unfolding sides_in
    sides_read =
        record {
          below = λ k h. bands_by positions all.is_bought_lem all.is_sold k
              ∙ (same_position (tallied group_of (bought_in amount class) group_count options k h) (tallied group_of (sold_in amount class) group_count options k h));
        }

    halves_read : half_shorts positions ≡ sum_of (λ group. half_short (sides_in amount class options group)) groups
    halves_read = sum_same _ _ group_count (λ k h. ap half_short (sides_read.below k h))

    pub sized : length positions ≡ group_count
    sized =
        sized_by positions all.is_bought_lem
        (length_tally group_of (bought_in amount class) (replicate group_count 0) options ∙ length-replicate {A = ℕ} group_count 0)

-- ---- gamma
module _ {class many : ℕ} {options : List OptionRow} {positions : List Position} (all : Gathered gamma_measure class many options positions) where
  pub gamma_is : half_shorts positions ≡ gamma_charge class options
  unfolding gamma_charge
  gamma_is = halves_read gamma_measure class all

  pub gamma_fits : many ≤ most_options → half_shorts positions ≤ most_options * most_twice_gamma
  gamma_fits few = omega (arith, all.within, gamma_is, gamma_charge_within class options)

-- ---- vega
module _ {class many : ℕ} {options : List OptionRow} {positions : List Position} (all : Gathered vega_measure class many options positions) where
  pub vega_fits : many ≤ most_options → gross (total (bands positions) groups) ≤ most_options * most_vega
  vega_fits few =
      let same : gross (total (bands positions) groups) ≡ gross (total (sides_in vega_of class options) groups) = gross-agree (sides_read vega_measure class all) in
      omega (arith, same, all.within, groups-sum vega_of class options)

  pub vega_is : {r : ℕ} → r ≡ absolute_nets groups (bands positions) → quarter_shift * r ≡ vega_charge class options
  unfolding vega_charge
  vega_is e = ap (λ (n : ℕ). quarter_shift * n) (e ∙ absolutes_agree (sides_read vega_measure class all))
