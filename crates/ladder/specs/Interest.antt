-- The interest ladder: bands, zones, zones against one another, and the charge. It gives the figures of the ladder call.
use Rattle.std.specs.Prelude.{ℕ, ◌+◌, ◌-◌, ◌*◌, min, List, ◌++◌}
use Rattle.sums.specs.Sums.{span}
use Rattle.ladder.specs.Position.{Position, Bands, ◌⊕◌, gross, matched, net, absolute_net, total, vertical, band_nets}
use Rattle.ladder.specs.Table.{Percents}
pub use Rattle.ladder.specs.declared.zones.Ladder.{Ladder}
use Rattle.ladder.specs.declared.positions.Step.{Step}
pub use Rattle.ladder.specs.declared.zones.Crossing.{Crossing}
pub use Rattle.ladder.specs.declared.zones.Matches.{Matches}
pub use Rattle.ladder.specs.declared.InterestFigures.{InterestFigures}

-- ---- zones against one another
-- what a step leaves of the zones, and its match
abbrev pub LadderStep : Type 0
LadderStep = Step Ladder

-- the longs of each against the shorts of the other (document 01, Interest: bands and zones, step 3)
unfoldable pub against : Position → Position → ℕ
against a b = min a.long b.short + min a.short b.long

-- what is left of a when it has been matched against b (document 01, Interest: bands and zones, step 3)
unfoldable pub left : Position → Position → Position
left a b = record { long = a.long - min a.long b.short; short = a.short - min a.short b.long }

-- zone 1 against zone 2 (document 01, Interest: bands and zones, step 3)
unfoldable pub zones12 : Ladder → LadderStep
zones12 x =
    record {
      left = record { zone1 = left x.zone1 x.zone2; zone2 = left x.zone2 x.zone1; zone3 = x.zone3 };
      matched = against x.zone1 x.zone2;
    }

-- zone 2 against zone 3 (document 01, Interest: bands and zones, step 3)
unfoldable pub zones23 : Ladder → LadderStep
zones23 x =
    record {
      left = record { zone1 = x.zone1; zone2 = left x.zone2 x.zone3; zone3 = left x.zone3 x.zone2 };
      matched = against x.zone2 x.zone3;
    }

-- zone 1 against zone 3 (document 01, Interest: bands and zones, step 3)
unfoldable pub zones13 : Ladder → LadderStep
zones13 x =
    record {
      left = record { zone1 = left x.zone1 x.zone3; zone2 = x.zone2; zone3 = left x.zone3 x.zone1 };
      matched = against x.zone1 x.zone3;
    }

-- what is left of the zones, put together (document 01, Interest: bands and zones, step 4)
abbrev pub together : Ladder → Position
together x = x.zone1 ⊕ (x.zone2 ⊕ x.zone3)

-- each match begins with what the one before it left, so that no zone's money is used twice (document 01, Interest: bands and zones, steps 3 and 4)
unfoldable pub crossing : Ladder → Crossing
crossing x =
    let step12 = zones12 x in
    let step23 = zones23 step12.left in
    let step13 = zones13 step23.left in
    record {
      zones12 = step12.matched;
      zones23 = step23.matched;
      zones13 = step13.matched;
      residual = absolute_net (together step13.left);
    }

-- ---- the whole ladder
-- the band numbers of each zone (document 01, Interest: bands and zones)
pub record Zones : Type 0 where
  pub first : List ℕ
  pub second : List ℕ
  pub third : List ℕ

-- zone 1 is bands 0 to 3, zone 2 bands 4 to 6, zone 3 bands 7 to 14 (document 01, Interest: bands and zones)
abbrev pub zones : Zones
zones = record { first = span 0 4; second = span 4 3; third = span 7 8 }

-- the bands of the three zones (document 01, Interest: bands and zones)
abbrev pub all_bands : Zones → List ℕ
all_bands z = z.first ++ (z.second ++ z.third)

-- in a zone the band nets, all longs against all shorts, leave this (document 01, Interest: bands and zones, step 2)
abbrev pub zone_net : Bands → List ℕ → Position
zone_net f zone = net (band_nets f zone)

-- the three zones after step 2 (document 01, Interest: bands and zones)
abbrev pub zone_nets : Zones → Bands → Ladder
zone_nets z f = record { zone1 = zone_net f z.first; zone2 = zone_net f z.second; zone3 = zone_net f z.third }

-- gross, the match of each of the four steps, and the residual (document 01, Interest: bands and zones)
unfoldable pub matches : Zones → Bands → Matches
matches z f =
    let across = crossing (zone_nets z f) in
    record {
      gross = gross (total f (all_bands z));
      vertical = vertical f (all_bands z);
      zone1 = matched (band_nets f z.first);
      zone2 = matched (band_nets f z.second);
      zone3 = matched (band_nets f z.third);
      zones12 = across.zones12;
      zones23 = across.zones23;
      zones13 = across.zones13;
      residual = across.residual;
    }

-- the match sums together, each match counted on one side (P8)
abbrev pub match_sum : Matches → ℕ
match_sum m = m.vertical + m.zone1 + m.zone2 + m.zone3 + m.zones12 + m.zones23 + m.zones13

-- the charge in mils: a per cent of a weighted position is one mil, and the residual bears 100% (document 01, Interest: bands and zones)
abbrev pub charge : Percents → Matches → ℕ
charge p m =
    p.vertical * m.vertical + (p.zone1 * m.zone1 + p.zone2 * m.zone2 + p.zone3 * m.zone3)
    + (p.adjacent * m.zones12 + p.adjacent * m.zones23 + p.apart * m.zones13)
    + 100 * m.residual

-- the figures of one currency, from its weighted bands (document 01, Interest: bands and zones)
abbrev pub interest_figures : Percents → Bands → InterestFigures
interest_figures p f = record { matches = matches zones f; charge = charge p (matches zones f) }
