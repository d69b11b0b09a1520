-- The tables of the interest ladder: a weight for each band and a per cent for each step.
use Rattle.std.specs.Prelude.{ℕ, ◌≤◌, get_or}
pub use Rattle.ladder.specs.declared.Percents.{Percents}
pub use Rattle.ladder.specs.declared.Table.{Table}

-- the weight of a band (document 01, Interest: bands and zones; P10)
unfoldable pub weight_in : Table → ℕ → ℕ
weight_in table band = get_or table.weights band 0

-- no weight is above this (P10)
abbrev pub most_weight : ℕ
most_weight = 2000

-- vertical at most each zone's, these at most adjacent, that at most apart, and that at most 100 (P10)
pub record AcceptedPercents (p : Percents) : Type 0 where
  pub vertical≤1 : p.vertical ≤ p.zone1
  pub vertical≤2 : p.vertical ≤ p.zone2
  pub vertical≤3 : p.vertical ≤ p.zone3
  pub zone1≤ : p.zone1 ≤ p.adjacent
  pub zone2≤ : p.zone2 ≤ p.adjacent
  pub zone3≤ : p.zone3 ≤ p.adjacent
  pub adjacent≤ : p.adjacent ≤ p.apart
  pub within : p.apart ≤ 100
