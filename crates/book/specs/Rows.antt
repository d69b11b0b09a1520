-- The rows of a body, and their fields (document 01, The book file).
use Rattle.std.specs.Prelude.{ℕ, zero, suc, ◌/◌, List, [], ◌∷◌, length, take, drop, get_or}
use Rattle.book.specs.Fields.{u16_at, u32_at}
use Rattle.book.specs.Counts.{row_size, body_of}
pub use Rattle.book.specs.declared.Row.{Row}

-- the first n rows of a body, 16 bytes each (document 01, The book file)
unfoldable pub chunks : ℕ → List ℕ → List (List ℕ)
chunks zero body = []
chunks (suc n) body = take row_size body ∷ chunks n (drop row_size body)

-- the whole rows of a body (document 01, The book file)
unfoldable pub rows_in : List ℕ → List (List ℕ)
rows_in body = chunks (length body / row_size) body

-- the rows of a class as they lie in the file (document 01, The book file)
unfoldable pub rows_of : List ℕ → ℕ → List (List ℕ)
rows_of s class = rows_in (body_of s class)

-- the fields of a row's 16 bytes (document 01, The book file)
unfoldable pub decode : List ℕ → Row
decode bytes =
    record {
      group = get_or bytes 0 0;
      kind = get_or bytes 1 0;
      days = u16_at bytes 2;
      coupon = u16_at bytes 4;
      issue = u16_at bytes 6;
      long = u32_at bytes 8;
      short = u32_at bytes 12;
    }
