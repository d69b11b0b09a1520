-- What holds of the definitions that the calls' promises cite: the accepted books and their parts, and demand 3.
use Rattle.std.specs.Prelude.{ℕ, ◌+◌, ◌≤◌, ◌<◌, ◌≡◌, ◌⊎◌, length, take, drop}
use mathlib.Core.List.{List, [], ◌∷◌, ◌++◌, flat_map}
use Rattle.sums.specs.Every.{Every}
use Rattle.book.specs.Counts.{contents_size, classes}
use Rattle.book.specs.Rows.{rows_of}
use Rattle.book.specs.Refusals.{refused, refusal_of}
use Rattle.book.specs.Accepted.{Accepted}
use Rattle.book.specs.Parts.{part_of, part_start, part_length}
use Rattle.table.specs.Loaded.{table_refusal, AcceptedTable, standard_bytes}
use Rattle.charges.specs.Report.{report_of}
use Rattle.join.specs.Joined.{join_refusal, joined_of, join_output}
use Rattle.market_risk.specs.Entries.{report_figures}
use Rattle.claims.specs.Zones.{TwoZonesEach}
use Rattle.claims.specs.Orders.{ReorderedBook, MirroredBook}

-- ---- the accepted books are those that are described directly (demand 2)
pub record Accepting (s : List ℕ) : Type 0 where
  pub described : (refusal_of s).number ≡ 0 → Accepted s
  pub taken : Accepted s → refusal_of s ≡ refused 0 0

abbrev pub AcceptingHolds : Type 0
AcceptingHolds = (s : List ℕ) → Accepting s

-- ---- the accepted tables are those that are described directly (P10)
pub record AcceptingTable (bytes : List ℕ) : Type 0 where
  pub described : table_refusal bytes ≡ 0 → AcceptedTable bytes
  pub taken : AcceptedTable bytes → table_refusal bytes ≡ 0

abbrev pub AcceptingTableHolds : Type 0
AcceptingTableHolds = (bytes : List ℕ) → AcceptingTable bytes

-- and document 01's is one of them
abbrev pub StandardHolds : Type 0
StandardHolds = table_refusal standard_bytes ≡ 0

-- ---- what each class is handed: of an accepted book the parts follow the contents and are the rest of the file; of a refused one each is empty
pub record Handing (s : List ℕ) : Type 0 where
  pub whole : (refusal_of s).number ≡ 0 → take contents_size s ++ flat_map (part_of s) classes ≡ s
  pub empty : ((refusal_of s).number ≡ 0 → ⊥) → Every (λ class. part_of s class ≡ []) classes

abbrev pub HandingHolds : Type 0
HandingHolds = (s : List ℕ) → Handing s

-- of any book and any number, the part is what lies from its start on, of its length, within the
-- file; both are 0 of a refused book, and of a number that is no class
pub record PartPlaces (s : List ℕ) : Type 0 where
  pub lies : (class : ℕ) → take (part_length s class) (drop (part_start s class) s) ≡ part_of s class
  pub within : (class : ℕ) → part_start s class + part_length s class ≤ length s
  pub of_refused : ((refusal_of s).number ≡ 0 → ⊥) → (class : ℕ)
      → (part_start s class ≡ 0) × (part_length s class ≡ 0)
  pub of_no_class : (class : ℕ) → (class ≡ 0) ⊎ (4 < class)
      → (part_start s class ≡ 0) × (part_length s class ≡ 0)

abbrev pub PartPlacesHolds : Type 0
PartPlacesHolds = (s : List ℕ) → PartPlaces s

-- ---- joining
-- each figure of a list is at most the one in its place
pub data Within : (figures most : List ℕ) → Type 0 where
  all_within : Within [] []
  one_within : {f m : ℕ} {more most : List ℕ} → f ≤ m → Within more most → Within (f ∷ more) (m ∷ most)

-- each figure is at most the two in its place together
pub data AtMost : (whole a b : List ℕ) → Type 0 where
  no_figures : AtMost [] [] []
  figure : {w a b : ℕ} {more more-a more-b : List ℕ} → w ≤ a + b → AtMost more more-a more-b → AtMost (w ∷ more) (a ∷ more-a) (b ∷ more-b)

-- the joined book: the bytes that join writes, up to the length that it gives (document 01, Joining)
unfoldable pub joined_book : List ℕ → List ℕ → List ℕ → List ℕ
joined_book a b out = take (joined_of a b (length out)).length (join_output a b out)

-- demand 3, joining, for every two books and every output that join accepts: the joined book is accepted and has A's rows and then B's
pub record Joining (a b out : List ℕ) : Type 0 where
  pub accepted : refusal_of (joined_book a b out) ≡ refused 0 0
  pub rows : Every (λ class. rows_of (joined_book a b out) class ≡ rows_of a class ++ rows_of b class) classes

abbrev pub JoiningHolds : Type 0
JoiningHolds = (a b out : List ℕ) → (join_refusal a b (length out)).number ≡ 0 → Joining a b out

-- and by one accepted table for all three books (P10) no charge and no total exceeds the sum, where the joined book uses at most two zones in each currency
abbrev pub NoDearerHolds : Type 0
NoDearerHolds =
    (table : List ℕ) → table_refusal table ≡ 0 → (a b out : List ℕ) → (join_refusal a b (length out)).number ≡ 0 → TwoZonesEach (joined_book a b out)
    → AtMost (report_figures (report_of table (joined_book a b out))) (report_figures (report_of table a)) (report_figures (report_of table b))

-- ---- order and mirror
-- demand 3, order and mirror, for every accepted book and every book that its rows make in any order, mirrored all or none
pub record Unchanged (table c d : List ℕ) : Type 0 where
  pub accepted : refusal_of d ≡ refused 0 0
  pub report : report_of table d ≡ report_of table c

abbrev pub OrderHolds : Type 0
OrderHolds = (table c d : List ℕ) → (refusal_of c).number ≡ 0 → ReorderedBook c d ⊎ MirroredBook c d → Unchanged table c d
