-- A supervisor's own ladder table, as bytes (P10): fifteen weights of two bytes, low byte first, and six per cents of a byte each.
use Rattle.std.specs.Prelude.{ℕ, ◌+◌, ◌*◌, ◌≤◌, ◌<◌, ◌≡◌, Bool, true, cond, not, ◌&&◌, List, [], ◌∷◌, map, leb, eqb, length, get_or}
use Rattle.sums.specs.Sums.{span}
use Rattle.book.specs.Fields.{u16_at}
use Rattle.ladder.specs.declared.Percents.{Percents}
use Rattle.ladder.specs.declared.Table.{Table}
use Rattle.ladder.specs.Table.{AcceptedPercents, most_weight}

-- a table has so many bytes (P10)
abbrev pub table_size : ℕ
table_size = 36

-- and weights for so many bands (P10)
abbrev pub table_bands : ℕ
table_bands = 15

-- the weight of a band (P10)
unfoldable pub weight_at : List ℕ → ℕ → ℕ
weight_at bytes band = u16_at bytes (2 * band)

-- the six per cents (P10)
unfoldable pub percents_of : List ℕ → Percents
percents_of bytes =
    record {
      vertical = get_or bytes 30 0;
      zone1 = get_or bytes 31 0;
      zone2 = get_or bytes 32 0;
      zone3 = get_or bytes 33 0;
      adjacent = get_or bytes 34 0;
      apart = get_or bytes 35 0;
    }

-- what the bytes hold (P10)
unfoldable pub table_of : List ℕ → Table
table_of bytes = record { weights = map (weight_at bytes) (span 0 table_bands); percents = percents_of bytes }

-- no per cent is above this (P10)
abbrev pub most_percent : ℕ
most_percent = 100

-- ---- why a table is refused
-- weights never fall, from one that they may not fall below, and are at most 2,000 (P10)
unfoldable pub weights_hold : ℕ → List ℕ → Bool
weights_hold least [] = true
weights_hold least (weight ∷ weights) = leb least weight && (leb weight most_weight && weights_hold weight weights)

-- vertical is at most each zone's, each zone's at most adjacent, adjacent at most 1-3, and that at most 100 (P10)
unfoldable pub percents_hold : Percents → Bool
percents_hold p =
    (leb p.vertical p.zone1 && (leb p.vertical p.zone2 && leb p.vertical p.zone3))
    && ((leb p.zone1 p.adjacent && (leb p.zone2 p.adjacent && leb p.zone3 p.adjacent))
    && (leb p.adjacent p.apart && leb p.apart most_percent))

-- 18, not of 36 bytes; 19, a condition broken; or 0 (P10)
unfoldable pub table_refusal : List ℕ → ℕ
table_refusal bytes =
    cond (not (eqb (length bytes) table_size)) 18
    (cond (not (weights_hold 0 (table_of bytes).weights && percents_hold (table_of bytes).percents)) 19 0)

-- ---- the accepted tables, described directly (P10). A law says that these are the tables refused with 0
pub record AcceptedTable (bytes : List ℕ) : Type 0 where
  pub sized : length bytes ≡ table_size
  pub never_fall : (band : ℕ) → band + 1 < table_bands → weight_at bytes band ≤ weight_at bytes (band + 1)
  pub within : (band : ℕ) → band < table_bands → weight_at bytes band ≤ most_weight
  pub percents : AcceptedPercents (percents_of bytes)

-- document 01's table, as bytes (document 01, Interest: bands and zones; P10)
abbrev pub standard_bytes : List ℕ
standard_bytes =
    0 ∷ 0 ∷ 20 ∷ 0 ∷ 40 ∷ 0 ∷ 70 ∷ 0 ∷ 125 ∷ 0 ∷ 175 ∷ 0 ∷ 225 ∷ 0 ∷ 19 ∷ 1 ∷ 69 ∷ 1 ∷ 119 ∷ 1 ∷ 194 ∷ 1 ∷ 13 ∷ 2 ∷ 88 ∷ 2 ∷ 32 ∷ 3 ∷ 226 ∷ 4
    ∷ 10 ∷ 40 ∷ 30 ∷ 30 ∷ 40 ∷ 100 ∷ []
