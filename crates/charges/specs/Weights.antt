-- Specific weights in basis points (document 01, Interest: bands and zones; Equity and foreign exchange).
use Rattle.std.specs.Prelude.{ℕ, cond, leb, eqb}
use Rattle.book.specs.declared.Row.{Row}

-- qualifying paper, by its days (document 01, Interest: bands and zones)
unfoldable pub qualifying_weight : ℕ → ℕ
qualifying_weight days = cond (leb days 180) 25 (cond (leb days 720) 100 160)

-- government, qualifying, other; and a floating-rate note, qualifying paper by its final maturity, which its bytes 4-5 hold (document 01,
-- Interest: bands and zones; P5)
unfoldable pub interest_weight : Row → ℕ
interest_weight row =
    cond (eqb row.kind 1) 0
    (cond (eqb row.kind 2) (qualifying_weight row.days)
    (cond (eqb row.kind 3) 800
    (cond (eqb row.kind 4) (qualifying_weight row.coupon) 0)))

-- ordinary, liquid and well diversified, index (document 01, Equity and foreign exchange)
unfoldable pub equity_weight : Row → ℕ
equity_weight row = cond (eqb row.kind 1) 800 (cond (eqb row.kind 2) 400 (cond (eqb row.kind 3) 200 0))

-- the specific weight of a row of a class; foreign exchange and commodities bear none (document 01, Interest: bands and zones; Equity and
-- foreign exchange)
unfoldable pub specific_weight : ℕ → Row → ℕ
specific_weight class row = cond (eqb class 1) (interest_weight row) (cond (eqb class 2) (equity_weight row) 0)
