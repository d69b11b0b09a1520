-- The facts of the least trade: by the search's law, at whose amounts the definitions compute.
-- Assumes nothing.
use Prim.Native.Nat.{ℕ, zero, suc, ◌<◌}
use mathlib.Core.Path.{◌≡◌, refl, ap₂}
use mathlib.Core.Bool.{Bool, true, false, ◌&&◌}
use mathlib.Core.List.{List, [], ◌∷◌, ◌++◌, map}
use native.Mathlib.Omega.{arith}
use native.Mathlib.Decide.{ℕ_discrete}
use native.Mathlib.Numerals.{lt_of_le_of_ne}
use lib.Dec.{leb, ltb, eqb}
use borrow.Author.Tests.{leb-true, ltb-true}
use Rattle.std.proofs.lemmas.Bool.{and_parts}
use Rattle.book.specs.declared.Refusal.{Refusal}
use Rattle.book.specs.Refusals.{refused}
use Rattle.market_risk.specs.Entries.{refusal_entries, trade_entries}
use Rattle.trade.specs.Trade.{most_trade, charge_with, place_refusal, trade_refusal, least_trade_of}
use Rattle.trade.proofs.Searching.{found_at}
use Rattle.claims.specs.Trade.{charge_at, with_row}
use Rattle.worked.specs.Worked.{Hold, Worked}
use Rattle.worked.specs.Tables.{flat}
use Rattle.worked.specs.TradeFacts.{amount_of, one_bond, fifth, trade_facts, band_facts, turning_facts, added_facts, place_facts}
use Rattle.table.specs.Loaded.{standard_bytes}
use Rattle.worked.proofs.WorkedBooks.{computed}

-- every amount below one is over the limit
unfoldable all_over : (charge : ℕ → ℕ) (limit amount : ℕ) → Bool
all_over charge limit zero = true
all_over charge limit (suc amount) = ltb limit (charge amount) && all_over charge limit amount

-- what computes; the search through 1,000,001 amounts does not
unfoldable pub traded : List Worked → List (List ℕ)
unfolding computed trade_entries charge_with place_refusal trade_refusal with_row all_over
traded facts = map (λ w. w.given) facts

each_over : (charge : ℕ → ℕ) (limit amount : ℕ) → all_over charge limit amount ≡ true → (j : ℕ) → j < amount → limit < charge j
unfolding all_over
each_over charge limit zero over j h = absurd (omega arith)
each_over charge limit (suc amount) over j h = go (ℕ_discrete j amount) (each_over charge limit amount parts.1 j)
  where
    parts : (ltb limit (charge amount) ≡ true) × (all_over charge limit amount ≡ true)
    parts = and_parts _ _ over

    go : Dec (j ≡ amount) → (j < amount → limit < charge j) → limit < charge j
    go (yes own) below = rw own (ltb-true _ _ parts.0)
    go (no other) below = below (lt_of_le_of_ne (omega arith) other)

-- the answer of a call that is not refused
answered : (table book : List ℕ) (group band side limit amount : ℕ)
    → trade_refusal table book group band side ≡ refused 0 0
    → leb amount most_trade ≡ true
    → leb (charge_at table book group band side amount) limit ≡ true
    → all_over (charge_at table book group band side) limit amount ≡ true
    → trade_entries (least_trade_of table book group band side limit) ≡ amount_of amount
unfolding trade_entries least_trade_of refusal_entries refused
answered table book group band side limit amount is inside within over =
    rw (is, found_at (charge_at table book group band side) limit amount (leb-true _ _ inside) (leb-true _ _ within) (each_over _ limit amount over)) refl

-- facts one after the other
and_next : {a b : List ℕ} {l m : List (List ℕ)} → a ≡ b → l ≡ m → a ∷ l ≡ b ∷ m
and_next = ap₂ ◌∷◌

pub trade_facts_lem : traded trade_facts ≡ map (λ w. w.expected) trade_facts
unfolding traded trade_facts
trade_facts_lem =
    and_next (answered standard_bytes one_bond 7 5 0 1750000 0 refl refl refl refl)
    (and_next (answered standard_bytes one_bond 7 5 1 1749999 1 refl refl refl refl)
    (and_next (answered standard_bytes one_bond 7 5 1 1734250 1 refl refl refl refl)
    (and_next (answered standard_bytes one_bond 7 5 1 1734249 2 refl refl refl refl) refl)))

pub band_facts_lem : traded band_facts ≡ map (λ w. w.expected) band_facts
unfolding traded band_facts
band_facts_lem =
    and_next (answered standard_bytes one_bond 7 4 1 1741250 1 refl refl refl refl)
    (and_next (answered standard_bytes one_bond 7 3 1 1745800 1 refl refl refl refl)
    (and_next (answered standard_bytes one_bond 7 7 1 1733500 1 refl refl refl refl)
    (and_next (answered standard_bytes one_bond 8 5 1 0 0 refl refl refl refl) refl)))

pub turn_facts : traded turning_facts ≡ map (λ w. w.expected) turning_facts
unfolding traded turning_facts
turn_facts = and_next refl (and_next (answered standard_bytes fifth 31 5 1 84000 6 refl refl refl refl) refl)

pub added_facts_lem : Hold added_facts
unfolding traded added_facts
added_facts_lem = refl

-- a refused call: there is no amount
told : (table book : List ℕ) (group band side limit : ℕ) (refusal : Refusal) → trade_refusal table book group band side ≡ refusal
    → eqb refusal.number 0 ≡ false
    → trade_entries (least_trade_of table book group band side limit) ≡ refusal_entries refusal ++ (0 ∷ 0 ∷ [])
unfolding trade_entries least_trade_of refusal_entries
told table book group band side limit refusal is refused = rw (is, refused) refl

pub place_facts_lem : traded place_facts ≡ map (λ w. w.expected) place_facts
unfolding traded place_facts
place_facts_lem =
    and_next (told [] [] 32 15 2 0 _ refl refl)
    (and_next (told [] [] 31 15 2 0 _ refl refl)
    (and_next (told (flat 2001 0) [] 31 15 2 0 _ refl refl)
    (and_next (told standard_bytes [] 31 15 0 0 _ refl refl)
    (and_next (told standard_bytes [] 31 0 2 0 _ refl refl)
    (and_next (told standard_bytes [] 31 14 1 0 _ refl refl)
    (and_next (answered standard_bytes one_bond 31 14 1 0 0 refl refl refl refl) refl))))))
