-- What the reader promises the crates above it of any bytes: its answer, its counts, and the parts by them, whose rows are clean.
use Rattle.std.specs.Prelude.{ℕ, ◌+◌, ◌*◌, ◌≤◌, ◌≡◌, List, [], map, cond, eqb, length, get_or}
use Rattle.sums.specs.Every.{Every}
use Rattle.book.specs.Counts.{Counts, contents_size, row_size, counts_of, count_in, count_of_rows, body_by}
use Rattle.book.specs.Rows.{Row, rows_in, decode}
use Rattle.book.specs.Legs.{legs_of, of_class}
use Rattle.book.specs.Refusals.{Refusal, most_rows, refusal_of}
use Rattle.book.specs.Accepted.{Clean}
use Rattle.book.specs.Parts.{part_of}

-- row i of a body; past the last row every field is zero
unfoldable pub row_of : List ℕ → ℕ → Row
row_of body i = decode (get_or (rows_in body) i [])

-- a file that is as long as its contents say, of at most 4,000 rows
pub record Sized (s : List ℕ) : Type 0 where
  pub contents : contents_size ≤ length s
  pub few : count_of_rows (counts_of s) ≤ most_rows
  pub sized : length s ≡ contents_size + row_size * count_of_rows (counts_of s)

-- the rows of a part, by their fields
abbrev pub part_rows : List ℕ → List Row
part_rows part = map decode (rows_in part)

-- of an accepted book, by its counts: the parts, how many rows they have, and that these are the book's, and clean
pub record ReadOf (s : List ℕ) (counts : Counts) : Type 0 where
  pub own : counts ≡ counts_of s
  pub few : count_of_rows counts ≤ most_rows
  pub parts : (class : ℕ) → body_by counts s class ≡ part_of s class
  pub sizes : (class : ℕ) → length (part_rows (part_of s class)) ≡ count_in counts class
  pub rows : (class : ℕ) → 1 ≤ class → class ≤ 4 → part_rows (part_of s class) ≡ of_class class (legs_of s)
  pub clean : (class : ℕ) → 1 ≤ class → class ≤ 4 → Every (Clean class) (part_rows (part_of s class))
