-- The bands of a row, by its days and, in interest, its coupon (document 01, Interest: bands and zones; The commodities ladder).
use Rattle.std.specs.Prelude.{ℕ, suc, Bool, cond, not, ◌&&◌, List, [], ◌∷◌, ltb, eqb}
use Rattle.book.specs.declared.Row.{Row}

-- the first band whose last day is not below the days; past all last days, the band after them (document 01, Interest: bands and zones)
unfoldable pub first_band : ℕ → List ℕ → ℕ
first_band days [] = 0
first_band days (last ∷ column) = cond (ltb last days) (suc (first_band days column)) 0

-- the last days of the bands at a coupon of 300 or more; band 12 is over 7200 (document 01, Interest: bands and zones)
abbrev pub high_column : List ℕ
high_column = 30 ∷ 90 ∷ 180 ∷ 360 ∷ 720 ∷ 1080 ∷ 1440 ∷ 1800 ∷ 2520 ∷ 3600 ∷ 5400 ∷ 7200 ∷ []

-- at a coupon below 300; band 14 is over 7200 (document 01, Interest: bands and zones)
abbrev pub low_column : List ℕ
low_column = 30 ∷ 90 ∷ 180 ∷ 360 ∷ 684 ∷ 1008 ∷ 1296 ∷ 1548 ∷ 2052 ∷ 2628 ∷ 3348 ∷ 3816 ∷ 4320 ∷ 7200 ∷ []

-- a coupon below 300; a floating-rate note, kind 4, takes the column of coupon 300 (document 01, Interest: bands and zones; P5)
unfoldable pub low_coupon : Row → Bool
low_coupon row = not (eqb row.kind 4) && ltb row.coupon 300

-- the band of an interest row, by its days to maturity or to the next fixing (document 01, Interest: bands and zones)
unfoldable pub interest_band : Row → ℕ
interest_band row = cond (low_coupon row) (first_band row.days low_column) (first_band row.days high_column)

-- the last days of a commodity's bands; band 6 is over 1080 (document 01, The commodities ladder)
abbrev pub commodity_column : List ℕ
commodity_column = 30 ∷ 90 ∷ 180 ∷ 360 ∷ 720 ∷ 1080 ∷ []

-- the band of a commodity row (document 01, The commodities ladder)
unfoldable pub commodity_band : Row → ℕ
commodity_band row = first_band row.days commodity_column

-- the band of a row of a class; equity and foreign exchange have none (document 01, Interest: bands and zones; The commodities ladder)
unfoldable pub band_in : ℕ → Row → ℕ
band_in class row = cond (eqb class 1) (interest_band row) (cond (eqb class 4) (commodity_band row) 0)
