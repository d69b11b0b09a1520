-- The bytes of numbers, low byte first, of a row, and of a file (document 01, The book file).
use Rattle.std.specs.Prelude.{ℕ, ◌%◌, ◌/◌, ◌<◌, length}
use mathlib.Core.List.{List, [], ◌∷◌, ◌++◌, flat_map}
use Rattle.sums.specs.Every.{Every}
use Rattle.book.specs.declared.Counts.{Counts}
use Rattle.book.specs.declared.Row.{Row}
use Rattle.book.specs.Counts.{classes, count_in}
use Rattle.book.specs.Legs.{Leg, of_class}

-- a list of bytes: each element is below 256 (document 01, The book file)
abbrev pub Bytes : List ℕ → Type 0
Bytes = Every (λ (byte : ℕ). byte < 256)

-- a two-byte number (document 01, The book file)
unfoldable pub two_bytes_of : ℕ → List ℕ
two_bytes_of n = n % 256 ∷ n / 256 ∷ []

-- a four-byte number (document 01, The book file)
unfoldable pub four_bytes_of : ℕ → List ℕ
four_bytes_of n = two_bytes_of (n % 65536) ++ two_bytes_of (n / 65536)

-- the sixteen bytes of a row (document 01, The book file)
unfoldable pub row_bytes : Row → List ℕ
row_bytes row =
    (row.group ∷ row.kind ∷ []) ++ (two_bytes_of row.days ++ (two_bytes_of row.coupon ++ (two_bytes_of row.issue
    ++ (four_bytes_of row.long ++ four_bytes_of row.short))))

-- the contents of a file: four counts (document 01, The book file)
unfoldable pub contents_bytes : Counts → List ℕ
contents_bytes counts = flat_map (λ class. two_bytes_of (count_in counts class)) classes

-- a file: its contents, and then the body of each class (document 01, The book file)
unfoldable pub file_of : Counts → (ℕ → List ℕ) → List ℕ
file_of counts body = contents_bytes counts ++ flat_map body classes

-- how many rows each class has (document 01, The book file)
unfoldable pub counts_by : (ℕ → List Row) → Counts
counts_by rows = record { interest = length (rows 1); equity = length (rows 2); exchange = length (rows 3); commodity = length (rows 4) }

-- the book of the rows of each class (document 01, The book file)
unfoldable pub book_by : (ℕ → List Row) → List ℕ
book_by rows = file_of (counts_by rows) (λ class. flat_map row_bytes (rows class))

-- the book of some legs (document 01, The book file)
unfoldable pub book_of : List Leg → List ℕ
book_of legs = book_by (λ class. of_class class legs)
