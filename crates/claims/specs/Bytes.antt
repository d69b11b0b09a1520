-- What is written keeps the file's own bytes (P1, P2, P3, P12), for every list of bytes.
use Rattle.std.specs.Prelude.{ℕ, ◌+◌, ◌*◌, ◌≤◌, ◌≡◌, true, false, take, drop}
use mathlib.Core.List.{List, [], ◌∷◌, Sublistᴰ}
use Rattle.sums.specs.Every.{Every}
use Rattle.book.specs.Fields.{u16_at}
use Rattle.book.specs.Counts.{classes, counts_of, count_of_rows}
use Rattle.book.specs.Rows.{rows_of}
use Rattle.book.specs.Refusals.{refusal_of}
use Rattle.issues.specs.Issues.{has}
use Rattle.layout.specs.Files.{Bytes}
use Rattle.netting.specs.Netted.{netted_book}
use Rattle.offsetting.specs.Offset.{offset_book}
use Rattle.offsetting.specs.NetOffset.{net_offset_book}
use Rattle.shortest.specs.Shortest.{shortest_file}

-- the issue number in a row's bytes (P1)
abbrev pub issue_in : List ℕ → ℕ
issue_in row = u16_at row 6

-- the rows that are written for those of a class, after others whose issues were seen: a row
-- without an issue number stays, all its 16 bytes; for the first row of an issue one is written that
-- keeps its bytes 0 to 7, or none; a later row of it is gone (P1)
pub data Kept : (seen : List ℕ) (written rows : List (List ℕ)) → Type 0 where
  no_rows : {seen : List ℕ} → Kept seen [] []
  stays : {seen row : List ℕ} {written rows : List (List ℕ)} → issue_in row ≡ 0
      → Kept seen written rows → Kept seen (row ∷ written) (row ∷ rows)
  netted : {seen net row : List ℕ} {written rows : List (List ℕ)} → (issue_in row ≡ 0 → ⊥)
      → has seen (issue_in row) ≡ false → take 8 net ≡ take 8 row
      → Kept (issue_in row ∷ seen) written rows → Kept seen (net ∷ written) (row ∷ rows)
  dropped : {seen row : List ℕ} {written rows : List (List ℕ)} → (issue_in row ≡ 0 → ⊥)
      → has seen (issue_in row) ≡ false
      → Kept (issue_in row ∷ seen) written rows → Kept seen written (row ∷ rows)
  later : {seen row : List ℕ} {written rows : List (List ℕ)} → (issue_in row ≡ 0 → ⊥)
      → has seen (issue_in row) ≡ true → Kept seen written rows → Kept seen written (row ∷ rows)

-- so netting writes the rows of each class (P1)
abbrev pub NettingBytesHolds : Type 0
NettingBytesHolds =
    (s : List ℕ) → Bytes s
    → Every (λ class. Kept [] (rows_of (netted_book s) class) (rows_of s class)) classes

-- the interest rows that offsetting writes are some of those that lie in the file, in their order;
-- the rows of the other classes are all of them (P2)
pub record OffsettingBytes (s : List ℕ) : Type 0 where
  pub interest : Sublistᴰ (rows_of (offset_book s) 1) (rows_of s 1)
  pub others : Every (λ class. rows_of (offset_book s) class ≡ rows_of s class) (2 ∷ 3 ∷ 4 ∷ [])

abbrev pub OffsettingBytesHolds : Type 0
OffsettingBytesHolds = (s : List ℕ) → Bytes s → OffsettingBytes s

-- the same of the rows that the one call writes, and those that netting writes, of any list (P3)
pub record NetOffsetBytes (s : List ℕ) : Type 0 where
  pub interest : Sublistᴰ (rows_of (net_offset_book s) 1) (rows_of (netted_book s) 1)
  pub others
      : Every (λ class. rows_of (net_offset_book s) class ≡ rows_of (netted_book s) class) (2 ∷ 3 ∷ 4 ∷ [])

abbrev pub NetOffsetBytesHolds : Type 0
NetOffsetBytesHolds = (s : List ℕ) → NetOffsetBytes s

-- the shortest file has, for 2 and 3, the contents as they are, but where 3 has no row; for 4 to 9
-- and 15 the 16 bytes of the refused row (P12)
pub record ShortestBytes (s : List ℕ) : Type 0 where
  pub of-2 : (refusal_of s).number ≡ 2 → shortest_file s ≡ take 8 s
  pub of-3 : (refusal_of s).number ≡ 3 → (count_of_rows (counts_of s) ≡ 0 → ⊥) → shortest_file s ≡ take 8 s
  pub of_row : 4 ≤ (refusal_of s).number
      → drop 8 (shortest_file s) ≡ take 16 (drop (8 + 16 * (refusal_of s).row) s)

abbrev pub ShortestBytesHolds : Type 0
ShortestBytesHolds = (s : List ℕ) → Bytes s → ShortestBytes s
