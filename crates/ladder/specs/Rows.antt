-- From rows to positions: each currency and each commodity has a ladder of its own, and each market and currency a net.
use Rattle.std.specs.Prelude.{ℕ, ◌*◌, ◌≡◌, cond, eqb}
use mathlib.Core.List.{List, Memᴰ}
use Rattle.sums.specs.Sums.{sum_at}
use Rattle.ladder.specs.Position.{Bands}
use Rattle.ladder.specs.Table.{Table, weight_in}
use Rattle.ladder.specs.Interest.{zones}

-- how a row is read: its group, its band, and its long and short amounts (document 01, The book file)
pub record Reading (Row : Type 0) : Type 0 where
  pub group : Row → ℕ
  pub band : Row → ℕ
  pub long : Row → ℕ
  pub short : Row → ℕ

-- an amount times its weight is a weighted position; the weight is the band's (document 01, The book file)
abbrev pub weighing : {Row : Type 0} → Table → Reading Row → Reading Row
weighing table read =
    record {
      group = read.group;
      band = read.band;
      long = λ row. weight_in table (read.band row) * read.long row;
      short = λ row. weight_in table (read.band row) * read.short row;
    }

module _ {Row : Type 0} where
  -- the rows' longs and shorts by an index (document 01, The book file)
  abbrev pub positions_by : (index long short : Row → ℕ) → List Row → Bands
  positions_by index long short rows = λ k. record { long = sum_at index long k rows; short = sum_at index short k rows }

  module _ (read : Reading Row) where
    -- a row's amount, if the row is of group g (document 01, The book file)
    abbrev pub in_group : ℕ → (Row → ℕ) → Row → ℕ
    in_group g amount row = cond (eqb (read.group row) g) (amount row) 0

    -- the ladder of a group: its longs and shorts by band (document 01, Interest: bands and zones; The commodities ladder)
    abbrev pub ladder_of : ℕ → List Row → Bands
    ladder_of g rows = positions_by read.band (in_group g read.long) (in_group g read.short) rows

    -- the longs and shorts of each group (document 01, Equity and foreign exchange)
    abbrev pub groups_of : List Row → Bands
    groups_of = positions_by read.group read.long read.short

    -- a zone is used in a currency when a row of that currency lies in it, also at weight 0 (document 01, Interest: bands and zones)
    pub record Used (rows : List Row) (currency : ℕ) (zone : List ℕ) : Type 0 where
      pub row : Row
      pub is_row : Memᴰ row rows
      pub of_currency : read.group row ≡ currency
      pub lies_in : Memᴰ (read.band row) zone

    -- of the three zones at most two are used: they are not all used (document 01, Interest: bands and zones)
    unfoldable pub AtMostTwoZones : List Row → ℕ → Type 0
    AtMostTwoZones rows currency = Used rows currency zones.first → Used rows currency zones.second → Used rows currency zones.third → ⊥
