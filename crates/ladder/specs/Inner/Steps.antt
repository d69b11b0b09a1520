-- What the code's functions promise: the value, and what follows of it for the sums that a caller makes.
use Rattle.std.specs.Prelude.{ℕ, ◌+◌, ◌*◌, ◌≤◌, ◌≡◌, cond, List, map, ltb, get_or}
use Rattle.ladder.specs.Position.{Position, Bands, empty, ◌⊕◌, gross, matched, net, total, vertical, band_nets}
use Rattle.ladder.specs.Table.{Percents, Table, AcceptedPercents, most_weight, weight_in}
use Rattle.ladder.specs.Interest.{Ladder, LadderStep, Matches, InterestFigures, against, left, together, crossing, charge, all_bands, zones, interest_figures}
use Rattle.ladder.specs.Commodity.{CommodityFigures, commodity_figures, commodity_bands}
use Rattle.ladder.specs.declared.positions.Step.{Step}
pub use Rattle.ladder.specs.declared.positions.Offset.{Offset}
pub use Rattle.ladder.specs.declared.bands.Zone.{Zone}
pub use Rattle.ladder.specs.declared.whole.Gathered.{Gathered}
pub use Rattle.ladder.specs.declared.zones.ZonesStep.{ZonesStep}

-- ---- what machine numbers must hold
-- no gross is above this: 4,000 rows of 1,000,000,000 at weights up to 2,000 come to 8 * 10 ^ 15
abbrev pub limit : ℕ
limit = 10000000000000000

-- no commodity's gross is above this: 4,000 rows of 1,000,000,000
abbrev pub commodity_limit : ℕ
commodity_limit = 4000000000000

-- a table of such weights, and per cents in their order
pub record TableBounds (table : Table) : Type 0 where
  pub weights : (band : ℕ) → weight_in table band ≤ most_weight
  pub percents : AcceptedPercents table.percents

-- the bands of the interest ladder
abbrev pub band_count : ℕ
band_count = 15

-- the bands whose positions stand in an array: nothing past its end
abbrev pub bands : List Position → Bands
bands positions = λ k. get_or positions k empty

-- its longs, and its shorts
abbrev pub longs_of : List Position → List ℕ
longs_of positions = map (λ position. position.long) positions

abbrev pub shorts_of : List Position → List ℕ
shorts_of positions = map (λ position. position.short) positions

-- ---- steps on one position
-- what a step leaves of a position, and its match
abbrev pub PositionStep : Type 0
PositionStep = Step Position

-- all longs against all shorts
unfoldable pub net_step : Position → PositionStep
net_step a = record { left = net a; matched = matched a }

-- the nets of some bands, and one band more
unfoldable pub band_step : Position → Position → PositionStep
band_step nets band = record { left = nets ⊕ net band; matched = matched band }

-- what is carried in joins the band's side
unfoldable pub carried_step : Position → Position → PositionStep
carried_step into band = record { left = net (into ⊕ band); matched = matched (into ⊕ band) }

-- a step's result, and that its match comes off both sides
pub record NetStep (before : Position) (step r : PositionStep) : Type 0 where
  pub is : r ≡ step
  pub sums : 2 * r.matched + gross r.left ≡ gross before

-- two positions against one another
pub record Offsets (a b : Position) (r : Offset) : Type 0 where
  pub is_one : r.one ≡ left a b
  pub is_other : r.other ≡ left b a
  pub is_matched : r.matched ≡ against a b
  pub sums : 2 * r.matched + (gross r.one + gross r.other) ≡ gross a + gross b

-- ---- steps on three zones
-- the gross of what is left of the zones
abbrev pub zones_gross : Ladder → ℕ
zones_gross x = gross (together x)

-- a step's result, and that its match comes off both sides
pub record LadderStepOf (before : Ladder) (step r : LadderStep) : Type 0 where
  pub is : r ≡ step
  pub sums : 2 * r.matched + zones_gross r.left ≡ zones_gross before

-- in each zone all longs against all shorts
unfoldable pub zones_step : Ladder → ZonesStep
zones_step x =
    record {
      left = record { zone1 = net x.zone1; zone2 = net x.zone2; zone3 = net x.zone3 };
      zone1 = matched x.zone1;
      zone2 = matched x.zone2;
      zone3 = matched x.zone3;
    }

pub record ZonesStepOf (before : Ladder) (r : ZonesStep) : Type 0 where
  pub is : r ≡ zones_step before
  pub sums : 2 * (r.zone1 + r.zone2 + r.zone3) + zones_gross r.left ≡ zones_gross before

-- ---- a zone's bands gathered: their gross, what they match within themselves, and their nets put together
unfoldable pub zone_of : Bands → List ℕ → Zone
zone_of f zone = record { gross = gross (total f zone); vertical = vertical f zone; nets = band_nets f zone }

pub record ZoneOf (f : Bands) (zone : List ℕ) (r : Zone) : Type 0 where
  pub is : r ≡ zone_of f zone
  pub is_gross : r.gross ≡ gross (total f zone)
  pub is_nets : r.nets ≡ band_nets f zone
  pub sums : 2 * r.vertical + gross r.nets ≡ r.gross

-- one band more
unfoldable pub zone_with : Zone → Position → Zone
zone_with zone band = record { gross = zone.gross + gross band; vertical = zone.vertical + matched band; nets = zone.nets ⊕ net band }

pub record ZoneWith (zone : Zone) (band : Position) (r : Zone) : Type 0 where
  pub is : r ≡ zone_with zone band
  pub sums : 2 * r.vertical + gross r.nets ≡ r.gross

-- the ladder of three zones whose bands are matched
unfoldable pub combined : Zone → Zone → Zone → Matches
combined a b c =
    let within = zones_step (record { zone1 = a.nets; zone2 = b.nets; zone3 = c.nets }) in
    let across = crossing within.left in
    record {
      gross = a.gross + b.gross + c.gross;
      vertical = a.vertical + b.vertical + c.vertical;
      zone1 = within.zone1;
      zone2 = within.zone2;
      zone3 = within.zone3;
      zones12 = across.zones12;
      zones23 = across.zones23;
      zones13 = across.zones13;
      residual = across.residual;
    }

-- ---- the three zones, gathered
pub record GatheredOf (f : Bands) (r : Gathered) : Type 0 where
  pub first : ZoneOf f zones.first r.first
  pub second : ZoneOf f zones.second r.second
  pub third : ZoneOf f zones.third r.third

-- their gross, and what is known of each: its matches and its nets make its gross
abbrev pub gathered_gross : Gathered → ℕ
gathered_gross z = z.first.gross + z.second.gross + z.third.gross

pub record Summed (z : Gathered) : Type 0 where
  pub first : 2 * z.first.vertical + gross z.first.nets ≡ z.first.gross
  pub second : 2 * z.second.vertical + gross z.second.nets ≡ z.second.gross
  pub third : 2 * z.third.vertical + gross z.third.nets ≡ z.third.gross
  pub within : gathered_gross z ≤ limit

-- a position more in a band: it goes to the band's zone
unfoldable pub gathered_with : Gathered → ℕ → Position → Gathered
gathered_with z band position =
    cond (ltb band 4) (record { first = zone_with z.first position; second = z.second; third = z.third })
    (cond (ltb band 7) (record { first = z.first; second = zone_with z.second position; third = z.third })
    (record { first = z.first; second = z.second; third = zone_with z.third position }))

pub record CanGather (z : Gathered) (position : Position) : Type 0 where
  pub summed : Summed z
  pub room : gathered_gross z + gross position ≤ limit

-- the figures of the ladder
unfoldable pub gathered_figures : Percents → Gathered → InterestFigures
gathered_figures p z = let matches = combined z.first z.second z.third in record { matches = matches; charge = charge p matches }

-- ---- what the crate's callers are promised
-- the interest ladder's figures, their gross, and a bound of the charge
pub record InterestOf (p : Percents) (f : Bands) (r : InterestFigures) : Type 0 where
  pub is : r ≡ interest_figures p f
  pub is_gross : r.matches.gross ≡ gross (total f (all_bands zones))
  pub within : r.charge ≤ 100 * r.matches.gross

-- the commodity ladder's figures, and a bound of the charge
pub record CommodityOf (f : Bands) (r : CommodityFigures) : Type 0 where
  pub is : r ≡ commodity_figures f
  pub within : r.charge ≤ 186000 * gross (total f commodity_bands)

-- a cost of the nets of some groups, and its bound
pub record NetsOf (f : Bands) (groups : List ℕ) (cost : Bands → ℕ) (r : ℕ) : Type 0 where
  pub is : r ≡ cost f
  pub within : r ≤ gross (total f groups)
