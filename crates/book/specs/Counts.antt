-- The contents of a book, four row counts, and where they put the rows of each class (document 01, The book file).
use Rattle.std.specs.Prelude.{ℕ, zero, suc, ◌+◌, ◌*◌, cond, List, [], ◌∷◌, take, drop, eqb}
use Rattle.book.specs.Fields.{u16_at}
pub use Rattle.book.specs.declared.Counts.{Counts}

-- the bytes of the contents (document 01, The book file)
abbrev pub contents_size : ℕ
contents_size = 8

-- the bytes of a row (document 01, The book file)
abbrev pub row_size : ℕ
row_size = 16

-- the classes: interest, equity, foreign exchange, commodities (document 01, The book file)
abbrev pub classes : List ℕ
classes = 1 ∷ 2 ∷ 3 ∷ 4 ∷ []

-- the four counts at the head of a file (document 01, The book file)
unfoldable pub counts_of : List ℕ → Counts
counts_of s = record { interest = u16_at s 0; equity = u16_at s 2; exchange = u16_at s 4; commodity = u16_at s 6 }

-- the rows of a class; no other number is a class, and has none (document 01, The book file)
unfoldable pub count_in : Counts → ℕ → ℕ
count_in counts class =
    cond (eqb class 1) counts.interest
    (cond (eqb class 2) counts.equity
    (cond (eqb class 3) counts.exchange
    (cond (eqb class 4) counts.commodity 0)))

-- the rows of all classes before this one, which is the number of its first row (document 01, The book file)
unfoldable pub rows_before : Counts → ℕ → ℕ
rows_before counts zero = 0
rows_before counts (suc class) = rows_before counts class + count_in counts class

-- all rows (document 01, The book file)
unfoldable pub count_of_rows : Counts → ℕ
count_of_rows counts = counts.interest + counts.equity + counts.exchange + counts.commodity

-- the part of a file in which the rows of a class lie, by some counts (document 01, The book file)
unfoldable pub body_by : Counts → List ℕ → ℕ → List ℕ
body_by counts s class =
    take (row_size * count_in counts class) (drop (contents_size + row_size * rows_before counts class) s)

-- the body of a class as it lies in the file (document 01, The book file)
unfoldable pub body_of : List ℕ → ℕ → List ℕ
body_of s class = body_by (counts_of s) s class
