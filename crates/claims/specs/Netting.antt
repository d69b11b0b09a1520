-- Netting one issue (P1): which books can be netted, what is written and what it costs, and two books joined and then netted.
use Rattle.std.specs.Prelude.{ℕ, ◌-◌, ◌*◌, ◌/◌, ◌≤◌, ◌≡◌, List, length, take}
use Rattle.sums.specs.Every.{Every}
use Rattle.book.specs.Counts.{classes}
use Rattle.book.specs.Legs.{legs_of}
use Rattle.book.specs.Refusals.{refused, refusal_of}
use Rattle.book.specs.Accepted.{Accepted}
use Rattle.issues.specs.Issues.{netted_rows}
use Rattle.issues.specs.Agreeing.{CanBeNetted}
use Rattle.issues.specs.Comparing.{Different}
use Rattle.table.specs.Loaded.{table_refusal}
use Rattle.charges.specs.Report.{class_rows, report_of}
use Rattle.join.specs.Joined.{join_refusal}
use Rattle.netting.specs.Netted.{issues_refusal, netting_refusal, netted_book, netted_of, netting_output}
use Rattle.offsetting.specs.NetOffset.{net_offset_of}
use Rattle.market_risk.specs.Entries.{report_figures}
use Rattle.claims.specs.Zones.{TwoZonesEach}
use Rattle.claims.specs.Demands.{Within, AtMost, joined_book}

-- ---- the books that can be netted, described directly: accepted, and the rows of each class can be netted
pub record Nettable (s : List ℕ) : Type 0 where
  pub accepted : Accepted s
  pub rows : Every (λ class. CanBeNetted (class_rows s class)) classes

-- they are those to which no refusal before 12 applies
pub record NettableBooks (s : List ℕ) : Type 0 where
  pub described : (issues_refusal s).number ≡ 0 → Nettable s
  pub taken : Nettable s → issues_refusal s ≡ refused 0 0

abbrev pub NettableHolds : Type 0
NettableHolds = (s : List ℕ) → NettableBooks s

-- ---- a book netted
-- the bytes that netting writes, up to the length that it gives, are the netted book; it is accepted, and has the netted rows of each class; netted
-- again it is the same; and none of its six charges, nor the total, is above that of the book
pub record Netting (table s out : List ℕ) : Type 0 where
  pub bytes : take (netted_of s (length out)).length (netting_output s out) ≡ netted_book s
  pub accepted : refusal_of (netted_book s) ≡ refused 0 0
  pub rows : Every (λ class. class_rows (netted_book s) class ≡ netted_rows (class_rows s class)) classes
  pub again : issues_refusal (netted_book s) ≡ refused 0 0
  pub unchanged : netted_book (netted_book s) ≡ netted_book s
  pub no_dearer : Within (report_figures (report_of table (netted_book s))) (report_figures (report_of table s))

-- for every book and every output that netting accepts, and every accepted table
abbrev pub NettingHolds : Type 0
NettingHolds = (table : List ℕ) → table_refusal table ≡ 0 → (s out : List ℕ) → (netting_refusal s (length out)).number ≡ 0 → Netting table s out

-- ---- how many comparisons (P7): of the n rows of a book at most n(n - 1)/2, in netting and in the one call that offsets too (P3)
pub record Comparing (s : List ℕ) (room : ℕ) : Type 0 where
  pub netting : (netted_of s room).comparisons ≤ length (legs_of s) * (length (legs_of s) - 1) / 2
  pub one_call : (net_offset_of s room).comparisons ≤ length (legs_of s) * (length (legs_of s) - 1) / 2

-- for every book and every output
abbrev pub ComparingHolds : Type 0
ComparingHolds = (s : List ℕ) (room : ℕ) → Comparing s room

-- and it is reached, by every book that is netted whose rows are all of one class and of different issues
abbrev pub ReachingHolds : Type 0
ReachingHolds =
    (s : List ℕ) (room : ℕ) → (netting_refusal s room).number ≡ 0 → (class : ℕ) → 1 ≤ class → class ≤ 4
    → length (class_rows s class) ≡ length (legs_of s) → Different (class_rows s class)
    → (netted_of s room).comparisons ≡ length (legs_of s) * (length (legs_of s) - 1) / 2

-- ---- two books joined and then netted: where they and the joined book can all be netted, and the joined book uses at most two zones in each currency
-- before it is netted, each figure is at most those of the two netted books together
abbrev pub NettedJoiningHolds : Type 0
NettedJoiningHolds =
    (table : List ℕ) → table_refusal table ≡ 0 → (a b out : List ℕ) → (join_refusal a b (length out)).number ≡ 0
    → (issues_refusal (joined_book a b out)).number ≡ 0 → (issues_refusal a).number ≡ 0 → (issues_refusal b).number ≡ 0
    → TwoZonesEach (joined_book a b out)
    → AtMost (report_figures (report_of table (netted_book (joined_book a b out)))) (report_figures (report_of table (netted_book a))) (report_figures (report_of table (netted_book b)))
