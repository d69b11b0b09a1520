-- The search for the least amount: what it may pass over, and what it finds.
-- Assumes nothing.
use mathlib.Core.Path.{◌≡◌, refl, subst, ◌∙◌}
use mathlib.Core.Bool.{Bool, true, false, cond, true≢false, false≢true}
use Prim.Native.Nat.{ℕ, zero, suc, ◌+◌, ◌-◌, ◌≤◌, ◌<◌}
use native.Mathlib.Nat.{zero-add, add-zero}
use native.Mathlib.Decide.{ℕ_discrete}
use native.Mathlib.Numerals.{lt_of_le_of_ne}
use native.Mathlib.Omega.{arith}
use borrow.Author.Tests.{leb-true, leb-false, le-leb, lt-leb}
use lib.Dec.{leb}
use Rattle.trade.specs.Trade.{Least, none, most_trade, least_from, least_within}

abbrev at : ℕ → Least
at amount = record { found = true; amount = amount }

module _ (charge : ℕ → ℕ) (limit : ℕ) where
  -- amounts over the limit are passed over
  passed : (amount more many : ℕ) → ((j : ℕ) → j < more → limit < charge (amount + j))
      → least_from charge limit amount many ≡ least_from charge limit (amount + more) (many - more)
  unfolding least_from
  passed amount zero many over =
      let start : amount + 0 ≡ amount = omega arith in
      let all : many - 0 ≡ many = omega arith in
      rw (start, all)
  passed amount (suc more) zero over = let end : 0 - suc more ≡ 0 = omega arith in rw end
  passed amount (suc more) (suc many) over =
      let here : limit < charge amount = subst (λ (k : ℕ). limit < charge k) (add-zero amount) (over 0 (omega arith)) in
      let next : suc amount + more ≡ amount + suc more = omega arith in
      let rest : suc many - suc more ≡ many - more = omega arith in
      rw (lt-leb _ _ here, rest, ← next)
      (passed (suc amount) more many (λ j h. subst (λ (k : ℕ). limit < charge k) (omega arith) (over (suc j) (omega arith))))

  -- ---- the search
  -- an amount within the limit, of which no smaller one is
  pub found_at : (amount : ℕ) → amount ≤ most_trade → charge amount ≤ limit → ((j : ℕ) → j < amount → limit < charge j) → least_within charge limit ≡ at amount
  unfolding least_within least_from
  found_at amount inside within over =
      let more : most_trade + 1 - amount ≡ suc (most_trade - amount) = omega arith in
      passed 0 amount (most_trade + 1) (λ j h. rw (zero-add j) (over j h)) ∙ rw (zero-add amount, more, le-leb _ _ within)

  -- no amount within the limit
  pub none_at : ((j : ℕ) → j ≤ most_trade → limit < charge j) → least_within charge limit ≡ none
  unfolding least_within least_from
  none_at over = passed 0 (most_trade + 1) (most_trade + 1) (λ j h. rw (zero-add j) (over j (omega arith)))

  -- ---- what is found
  -- an amount within the limit, and every smaller one over it; or every amount over it
  pub record FoundFrom (amount many : ℕ) (r : Least) : Type 0 where
    pub low : r.found ≡ true → amount ≤ r.amount
    pub high : r.found ≡ true → r.amount < amount + many
    pub within : r.found ≡ true → charge r.amount ≤ limit
    pub over : r.found ≡ true → (j : ℕ) → amount ≤ j → j < r.amount → limit < charge j
    pub over_all : r.found ≡ false → (j : ℕ) → amount ≤ j → j < amount + many → limit < charge j

  -- an amount that is over, and what is found after it
  found_after : (amount many : ℕ) (r : Least) → limit < charge amount → FoundFrom (suc amount) many r → FoundFrom amount (suc many) r
  found_after amount many r here later =
      record {
        low = λ e. omega (arith, later.low e);
        high = λ e. omega (arith, later.high e);
        within = later.within;
        over = λ e j h k. from j h (λ past. later.over e j past k);
        over_all = λ e j h k. from j h (λ past. later.over_all e j past (omega arith));
      }
    where
      from : (j : ℕ) → amount ≤ j → (suc amount ≤ j → limit < charge j) → limit < charge j
      from j h past = go (ℕ_discrete amount j)
        where
          go : Dec (amount ≡ j) → limit < charge j
          go (yes own) = subst (λ (k : ℕ). limit < charge k) own here
          go (no other) = past (lt_of_le_of_ne h other)

  pub found_from : (amount many : ℕ) → FoundFrom amount many (least_from charge limit amount many)
  unfolding least_from
  found_from amount zero =
      record {
        low = λ e. absurd (false≢true e);
        high = λ e. absurd (false≢true e);
        within = λ e. absurd (false≢true e);
        over = λ e. absurd (false≢true e);
        over_all = λ _ j h k. omega arith;
      }
  found_from amount (suc many) = go (found_from (suc amount) many) (leb (charge amount) limit) refl
    where
      go : FoundFrom (suc amount) many (least_from charge limit (suc amount) many) → (test : Bool) → leb (charge amount) limit ≡ test
          → FoundFrom amount (suc many) (cond test (at amount) (least_from charge limit (suc amount) many))
      go later true t =
          record {
            low = λ _. omega arith;
            high = λ _. omega arith;
            within = λ _. leb-true _ _ t;
            over = λ _ j h k. omega arith;
            over_all = λ e. absurd (true≢false e);
          }
      go later false t = found_after amount many _ (leb-false _ _ t) later
