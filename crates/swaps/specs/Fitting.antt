-- Which two swap legs fit (P2; A.1, 21).
use Rattle.std.specs.Prelude.{ℕ, ◌+◌, ◌-◌, min, Bool, cond, ◌&&◌, ltb, leb, eqb}
use Rattle.book.specs.declared.Row.{Row}

-- how far two numbers are apart (P2)
abbrev pub apart : ℕ → ℕ → ℕ
apart a b = (a - b) + (b - a)

-- coupons are at most 15 basis points apart (P2)
abbrev pub most_coupons_apart : ℕ
most_coupons_apart = 15

-- days are equal where the nearer leg has under 30, at most 7 apart from 30 to 360, and at most 30 apart beyond (P2)
unfoldable pub most_days_apart : (nearer : ℕ) → ℕ
most_days_apart nearer = cond (ltb nearer 30) 0 (cond (leb nearer 360) 7 30)

-- equal amounts on opposite sides (P2)
unfoldable pub opposite : Row → Row → Bool
opposite a b = eqb a.long b.short && eqb a.short b.long

-- a government row (document 01, The book file)
unfoldable pub government : Row → Bool
government row = eqb row.kind 1

-- government rows of one currency, with coupons and days that are near enough (P2)
unfoldable pub near : Row → Row → Bool
near a b =
    government a && (government b && (eqb a.group b.group && (leb (apart a.coupon b.coupon) most_coupons_apart
    && leb (apart a.days b.days) (most_days_apart (min a.days b.days)))))

-- two interest rows that fit (P2)
unfoldable pub fits : Row → Row → Bool
fits a b = opposite a b && near a b
