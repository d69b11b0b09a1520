-- Charges on nets: equity's general charge, foreign exchange by the shorthand method, and commodities by the simplified one. A group number stands for a band number.
use Rattle.std.specs.Prelude.{ℕ, ◌+◌, ◌*◌, max, List}
use Rattle.ladder.specs.Position.{Position, Bands, gross, absolute_net, total, band_nets}

-- the absolute nets of some groups, summed (document 01, Equity and foreign exchange)
abbrev pub absolute_nets : List ℕ → Bands → ℕ
absolute_nets list f = gross (band_nets f list)

-- the greater side (document 01, Equity and foreign exchange)
abbrev pub greater : Position → ℕ
greater a = max a.long a.short

-- the greater of the summed net longs and the summed net shorts of some currencies, and the absolute net of gold, which is group 0
-- (document 01, Equity and foreign exchange)
abbrev pub shorthand : List ℕ → Bands → ℕ
shorthand list f = greater (band_nets f list) + absolute_net (f 0)

-- 15% of each commodity's absolute net and 3% of its gross, summed (P11; A.4, 12 and 13)
abbrev pub simplified : List ℕ → Bands → ℕ
simplified list f = 150000 * absolute_nets list f + 30000 * gross (total f list)
