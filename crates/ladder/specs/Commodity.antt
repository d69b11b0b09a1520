-- The commodities ladder: from the nearest band, what is carried in joins its side, and the whole net goes to the next band.
use Rattle.std.specs.Prelude.{ℕ, ◌+◌, ◌*◌, List, [], ◌∷◌}
use Rattle.sums.specs.Sums.{span}
use Rattle.ladder.specs.Position.{Position, Bands, ◌⊕◌, empty, gross, matched, net}
pub use Rattle.ladder.specs.declared.CommodityFigures.{CommodityFigures}

-- the sums of matches and of amounts carried so far, and the net that goes to the next band (document 01, The commodities ladder)
pub record Carried : Type 0 where
  pub matches : ℕ
  pub carried : ℕ
  pub position : Position

-- nothing matched, and nothing carried into the nearest band (document 01, The commodities ladder)
abbrev pub nothing : Carried
nothing = record { matches = 0; carried = 0; position = empty }

-- a net is carried into a band and joins its side; the net of both goes on (document 01, The commodities ladder)
unfoldable pub to_band : Carried → Position → Carried
to_band s band =
    record {
      matches = s.matches + matched (s.position ⊕ band);
      carried = s.carried + gross s.position;
      position = net (s.position ⊕ band);
    }

-- band after band, from the nearest (document 01, The commodities ladder)
unfoldable pub carry : Carried → Bands → List ℕ → Carried
carry s f [] = s
carry s f (k ∷ bands) = carry (to_band s (f k)) f bands

-- 1.5% of each side of a match, 0.6% of what is carried, 15% of the net after the last band (document 01, The commodities ladder)
abbrev pub carry_charge : Carried → ℕ
carry_charge s = 2 * (15000 * s.matches) + 6000 * s.carried + 150000 * gross s.position

-- the figures of the ladder call (document 01, The commodities ladder)
abbrev pub carry_figures : Carried → CommodityFigures
carry_figures s = record { matches = s.matches; carried = s.carried; residual = gross s.position; charge = carry_charge s }

-- seven bands (document 01, The commodities ladder)
abbrev pub commodity_band_count : ℕ
commodity_band_count = 7

-- from the nearest on (document 01, The commodities ladder)
abbrev pub commodity_bands : List ℕ
commodity_bands = span 0 commodity_band_count

-- one commodity's figures (document 01, The commodities ladder)
abbrev pub commodity_figures : Bands → CommodityFigures
commodity_figures f = carry_figures (carry nothing f commodity_bands)
