-- The part of the file that each class is handed (document 01, The book file).
use Rattle.std.specs.Prelude.{ℕ, ◌+◌, ◌*◌, Bool, cond, ◌&&◌, List, [], eqb, leb}
use Rattle.book.specs.Counts.{Counts, contents_size, row_size, counts_of, count_in, rows_before, body_of}
use Rattle.book.specs.Refusals.{refusal_of}
use Rattle.std.specs.Prelude.{Result}
use Rattle.book.specs.Refusals.{Refusal}
use Rattle.book.specs.Reasons.{Refused, told, figure_in}
use Rattle.book.specs.declared.Handed.{Handed as Place}

-- a refusal, and where the part of a class lies: both 0 where it is refused (document 01, The book file)
pub record Handed : Type 0 where
  pub refusal : Refusal
  pub start : ℕ
  pub length : ℕ

-- none of 1 to 9, nor 15, applies (document 01, Joining; P5)
unfoldable pub accepts : List ℕ → Bool
accepts s = eqb (refusal_of s).number 0

-- its body as it lies in the file, of a refused book nothing (document 01, The book file)
unfoldable pub part_of : List ℕ → ℕ → List ℕ
part_of s class = cond (accepts s) (body_of s class) []

-- where the rows of a class start, by some counts; 0 where the number is no class (document 01,
-- The book file)
unfoldable pub start_by : Counts → ℕ → ℕ
start_by counts class = cond (leb 1 class && leb class 4) (contents_size + row_size * rows_before counts class) 0

-- where it starts in the file; 0 of a refused book (document 01, The book file)
unfoldable pub part_start : List ℕ → ℕ → ℕ
part_start s class = cond (accepts s) (start_by (counts_of s) class) 0

-- its length; 0 of a refused book, and of no class, which has no rows (document 01, The book file)
unfoldable pub part_length : List ℕ → ℕ → ℕ
part_length s class = cond (accepts s) (row_size * count_in (counts_of s) class) 0

-- the refusal, and the part by its place in the lent file (document 01, The book file)
unfoldable pub handed_of : List ℕ → ℕ → Handed
handed_of s class = record { refusal = refusal_of s; start = part_start s class; length = part_length s class }

-- the answer of the call in numbers (document 01, The book file)
unfoldable pub handed_answer : Result Place Refused → Handed
handed_answer r = record { refusal = told r; start = figure_in (λ place. place.start) r; length = figure_in (λ place. place.length) r }
