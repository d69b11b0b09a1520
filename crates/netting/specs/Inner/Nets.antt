-- The sums at the numbers of the rows: the first whose net is over the limit, and their nets in their places.
use Rattle.std.specs.Prelude.{ℕ, zero, suc, ◌<◌, ◌≡◌, Bool, cond, List, ltb, Result, IfOk, OnOk}
use Rattle.book.specs.Legs.{legs_of}
use Rattle.book.specs.declared.Refusal.{Refusal}
use Rattle.book.specs.Refusals.{most_amount, refused}
use Rattle.book.specs.declared.Refused.{Refused}
use Rattle.book.specs.Reasons.{told}
use Rattle.ladder.specs.declared.positions.Position.{Position}
use Rattle.ladder.specs.Position.{net, absolute_net}
use Rattle.layout.specs.Room.{or_next}
use Rattle.amounts.specs.declared.positions.Amounts.{Amounts}
use Rattle.amounts.specs.Inner.Standing.{positions_in, Stands}
use Rattle.netting.specs.Netted.{differing_refusal, over_refusal, netted_class, comparisons_of}

-- a position that nets to more than the largest amount
abbrev pub is_over : Position → Bool
is_over position = ltb most_amount (absolute_net position)

-- a number at the first of so many rows, numbered from `row` on, that a test finds
unfoldable pub first_number : ℕ → (ℕ → Bool) → (row many : ℕ) → Refusal
first_number number test row zero = refused 0 0
first_number number test row (suc many) = cond (test row) (refused number row) (first_number number test (suc row) many)

-- the sums at so many numbers were replaced by their nets
pub record NetsAt (rows : ℕ) (amounts amounts' : Amounts) : Type 0 where
  pub each : (k : ℕ) → k < rows → positions_in amounts' k ≡ net (positions_in amounts k)

-- 13, then 14, or the comparisons made and the amounts, which make of the rows of the book the
-- netted rows
pub record Settled (s : List ℕ) (r : Result ℕ Refused) (amounts : Amounts) : Type 0 where
  pub is : told r ≡ or_next (differing_refusal (legs_of s)) (over_refusal (legs_of s))
  pub is_compared : IfOk r (λ compared. compared ≡ comparisons_of s)
  pub nets : OnOk r (Stands s (netted_class s) amounts)
