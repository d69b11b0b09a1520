-- The shortest file that shows a refusal (P12): it is refused as the book is, and nothing shorter is.
use Rattle.std.specs.Prelude.{ℕ, ◌≤◌, ◌<◌, ◌≡◌, false, List, length, take}
use Rattle.book.specs.Refusals.{refused, refusal_of}
use Rattle.table.specs.Loaded.{table_refusal}
use Rattle.charges.specs.Report.{report_of}
use Rattle.shortest.specs.Shortest.{shortest_file, shortest_refusal, shortest_of, shortest_output}

-- of a refused book: by every accepted table the charge call refuses the file with the same number, at row 0; it is no longer than the book; and no
-- bytes that are fewer give that number through the charge call, by whatever table
pub record Shortest (s : List ℕ) : Type 0 where
  pub same : (table : List ℕ) → table_refusal table ≡ 0 → (report_of table (shortest_file s)).refusal ≡ refused (refusal_of s).number 0
  pub no_longer : length (shortest_file s) ≤ length s
  pub least : (table t : List ℕ) → length t < length (shortest_file s) → (report_of table t).refusal.number ≡ (refusal_of s).number → ⊥

-- for every book that is refused
abbrev pub ShortestHolds : Type 0
ShortestHolds = (s : List ℕ) → ((refusal_of s).number ≡ 0 → ⊥) → Shortest s

-- the bytes that the call writes, up to the length that it gives, are that file; an output of 24 bytes is long enough for every book; and of a refused
-- call the mark is not set either
pub record ShortestCall (s out : List ℕ) : Type 0 where
  pub bytes : (shortest_refusal s (length out)).number ≡ 0 → take (shortest_of s (length out)).length (shortest_output s out) ≡ shortest_file s
  pub enough : 24 ≤ length out → shortest_refusal s (length out) ≡ refused 0 0
  pub unmarked : ((shortest_refusal s (length out)).number ≡ 0 → ⊥) → (shortest_of s (length out)).accepted ≡ false

abbrev pub ShortestCallHolds : Type 0
ShortestCallHolds = (s out : List ℕ) → ShortestCall s out
