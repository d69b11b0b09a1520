-- The sums of gamma or vega of a class, as the code keeps them: a position for each group, bought long and sold short.
use Rattle.std.specs.Prelude.{ℕ, ◌*◌, ◌<◌, ◌≤◌, ◌≡◌, List, replicate}
use Rattle.sums.specs.Sums.{sum_of}
use Rattle.sums.specs.Inner.Tables.{tally}
use Rattle.ladder.specs.declared.positions.Position.{Position}
use Rattle.ladder.specs.Inner.Steps.{bands, longs_of, shorts_of}
use Rattle.charges.specs.Charges.{groups}
use Rattle.charges.specs.Inner.Slots.{group_count}
use Rattle.options.specs.Table.{OptionRow, option_count, options_of}
use Rattle.options.specs.Accepted.{Allowed}
use Rattle.options.specs.Greeks.{bought_in, sold_in, twice_gamma, half_short, vega_of}

-- ---- one option
-- 1,000,000 times 65,535 times 15 squared, and 65,535 squared
abbrev pub most_twice_gamma : ℕ
most_twice_gamma = 14745375000000

abbrev pub most_vega : ℕ
most_vega = 4294836225

-- what options count for, and the most that it may be
pub record Measure : Type 0 where
  pub amount : OptionRow → ℕ
  pub most : ℕ

abbrev pub gamma_measure : Measure
gamma_measure = record { amount = twice_gamma; most = most_twice_gamma }

abbrev pub vega_measure : Measure
vega_measure = record { amount = vega_of; most = most_vega }

-- fields that are in range and fit their bytes
pub record Fields (option : OptionRow) : Type 0 where
  pub allowed : Allowed option
  pub gamma : option.gamma < 65536
  pub vega : option.vega < 65536
  pub volatility : option.volatility < 65536

-- a closure that measures
pub record Measures (pre : OptionRow → Type 0) (post : OptionRow → ℕ → Type 0) (measure : Measure) : Type 0 where
  pub callable : (option : OptionRow) → Fields option → pre option
  pub own : (option : OptionRow) (r : ℕ) → Fields option → post option r → r ≡ measure.amount option
  pub within : (option : OptionRow) → Fields option → measure.amount option ≤ measure.most
  pub fits : measure.most ≤ most_twice_gamma

-- ---- some options
abbrev pub group_of : OptionRow → ℕ
group_of option = option.group

-- the sums of both sides by group, and a bound of them, for so many options
pub record Gathered (measure : Measure) (class many : ℕ) (options : List OptionRow) (positions : List Position) : Type 0 where
  pub is_bought_lem : longs_of positions ≡ tally group_of (bought_in measure.amount class) (replicate group_count 0) options
  pub is_sold : shorts_of positions ≡ tally group_of (sold_in measure.amount class) (replicate group_count 0) options
  pub within : sum_of measure.amount options ≤ measure.most * many

-- a closure that measures something, and the sums of whatever it measures over a table
abbrev pub Measurable : (OptionRow → Type 0) → (OptionRow → ℕ → Type 0) → Type 0
Measurable pre post = (measure : Measure) × Measures pre post measure

abbrev pub GatheredOf : (OptionRow → Type 0) → (OptionRow → ℕ → Type 0) → ℕ → List ℕ → List Position → Type 0
GatheredOf pre post class s positions =
    (measure : Measure) → Measures pre post measure → Gathered measure class (option_count s) (options_of s) positions

-- half of what the sold side of each group exceeds the bought by, rounded up, and summed
abbrev pub half_shorts : List Position → ℕ
half_shorts positions = sum_of (λ group. half_short (bands positions group)) groups
