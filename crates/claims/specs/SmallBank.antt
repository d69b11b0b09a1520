-- A bank with foreign exchange and commodities alone (P11): two such books joined, and order and mirror.
use Rattle.std.specs.Prelude.{ℕ, ◌≡◌, ◌⊎◌, List, length}
use Rattle.book.specs.Refusals.{refused}
use Rattle.charges.specs.SmallBank.{small_refusal, small_bank_of}
use Rattle.join.specs.Joined.{join_refusal}
use Rattle.market_risk.specs.Entries.{small_figures}
use Rattle.claims.specs.Orders.{ReorderedBook, MirroredBook}
use Rattle.claims.specs.Demands.{AtMost, joined_book}

-- joined they are such a book again, and each of its three figures is at most the two together
pub record SmallJoining (a b out : List ℕ) : Type 0 where
  pub accepted : small_refusal (joined_book a b out) ≡ refused 0 0
  pub no_dearer : AtMost (small_figures (small_bank_of (joined_book a b out))) (small_figures (small_bank_of a)) (small_figures (small_bank_of b))

-- for every two of them and every output that join accepts, with no premise on rows
abbrev pub SmallJoiningHolds : Type 0
SmallJoiningHolds =
    (a b out : List ℕ) → (join_refusal a b (length out)).number ≡ 0 → (small_refusal a).number ≡ 0 → (small_refusal b).number ≡ 0
    → SmallJoining a b out

-- in any order within their classes, mirrored all or none, the rows cost the same
abbrev pub SmallOrderHolds : Type 0
SmallOrderHolds = (c d : List ℕ) → (small_refusal c).number ≡ 0 → ReorderedBook c d ⊎ MirroredBook c d → small_bank_of d ≡ small_bank_of c
