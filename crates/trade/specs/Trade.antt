-- The trade that brings a currency under its limit (P13): the least amount that, added to a side of a band, brings the charge within it.
use Rattle.std.specs.Prelude.{ℕ, zero, suc, ◌+◌, ◌*◌, Bool, true, false, cond, ◌||◌, List, ltb, leb, eqb, Option, None, Some, Result, Ok, Err}
use Rattle.book.specs.declared.Refusal.{Refusal}
use Rattle.book.specs.declared.Row.{Row}
use Rattle.book.specs.declared.reasons.Refused.{Refused}
use Rattle.book.specs.Refusals.{refused, refusal_of}
use Rattle.book.specs.Reasons.{numbers_of}
use Rattle.ladder.specs.declared.positions.Position.{Position}
use Rattle.ladder.specs.declared.Table.{Table}
use Rattle.ladder.specs.Position.{◌⊕◌, at_band}
use Rattle.ladder.specs.Table.{weight_in}
use Rattle.ladder.specs.Interest.{interest_figures}
use Rattle.ladder.specs.Rows.{weighing, ladder_of}
use Rattle.table.specs.Loaded.{table_refusal, table_of}
use Rattle.charges.specs.Charges.{reading}
use Rattle.charges.specs.Report.{class_rows, before, ladder_refusal}

-- the least amount, in thousands, if there is one; else 0 (P13)
pub record Least : Type 0 where
  pub found : Bool
  pub amount : ℕ

-- why the call is refused, all zero where it is not, and the least amount, none where it is refused
-- (P13)
pub record Trade : Type 0 where
  pub refusal : Refusal
  pub least : Least

-- ---- the charge with an amount added
-- an amount on a side: 0 is long, 1 short (P13)
abbrev pub on_side : ℕ → ℕ → Position
on_side side amount = cond (eqb side 0) (record { long = amount; short = 0 }) (record { long = 0; short = amount })

-- the charge of a currency, by a table, with an amount added to a side of a band's sum; it bears the band's weight (P13)
unfoldable pub charge_with : Table → (group band side : ℕ) → List Row → ℕ → ℕ
charge_with table group band side rows amount =
    (interest_figures table.percents
    (λ k. ladder_of (weighing table (reading 1)) group rows k ⊕ at_band band (on_side side (weight_in table band * amount)) k)).charge

-- ---- the least amount
-- the largest amount, in thousands (P13)
abbrev pub most_trade : ℕ
most_trade = 1000000

-- there is no such amount (P13)
abbrev pub none : Least
none = record { found = false; amount = 0 }

-- an amount, or that there is none, as the call gives it (P13)
abbrev pub least_of : Option ℕ → Least
least_of None = none
least_of (Some amount) = record { found = true; amount = amount }

-- the first of so many amounts, one after the other, whose charge is at most the limit (P13)
unfoldable pub least_from : (ℕ → ℕ) → (limit amount many : ℕ) → Least
least_from charge limit amount zero = none
least_from charge limit amount (suc many) =
    cond (leb (charge amount) limit) (record { found = true; amount = amount }) (least_from charge limit (suc amount) many)

-- of all amounts from 0 to 1,000,000 (P13)
unfoldable pub least_within : (ℕ → ℕ) → ℕ → Least
least_within charge limit = least_from charge limit 0 (most_trade + 1)

-- ---- the call
-- the last band (document 01, Interest: bands and zones)
abbrev pub last_band : ℕ
last_band = 14

-- 21, a band over 14 or a side over 1; or 0 (P13)
unfoldable pub place_refusal : (band side : ℕ) → ℕ
place_refusal band side = cond (ltb last_band band || ltb 1 side) 21 0

-- 10, then 18 and 19, then 21, then the book (P13)
unfoldable pub trade_refusal : (table s : List ℕ) → (group band side : ℕ) → Refusal
trade_refusal table s group band side = ladder_refusal (before (table_refusal table) (before (place_refusal band side) (refusal_of s))) group

-- what the call's answer tells (P13)
unfoldable pub trade_answer : Result (Option ℕ) Refused → Trade
trade_answer (Ok least) = record { refusal = refused 0 0; least = least_of least }
trade_answer (Err r) = record { refusal = numbers_of r; least = none }

-- the refusal, and the least amount; none where the call is refused (P13)
unfoldable pub least_trade_of : (table s : List ℕ) → (group band side limit : ℕ) → Trade
least_trade_of table s group band side limit =
    let refusal = trade_refusal table s group band side in
    record {
      refusal = refusal;
      least = cond (eqb refusal.number 0) (least_within (charge_with (table_of table) group band side (class_rows s 1)) limit) none;
    }
