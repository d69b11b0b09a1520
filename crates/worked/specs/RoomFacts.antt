-- 11 and 12 (document 01, Who is told no, and why): books of 2,000 and 2,001 rows joined.
use Rattle.std.specs.Prelude.{ℕ, ◌≡◌, List}
use Rattle.book.specs.Refusals.{refused}
use Rattle.join.specs.Joined.{join_refusal}
use Rattle.dearest.specs.Dearest.{dearest_book}

-- so many rows, one unit in each
abbrev pub many : ℕ → List ℕ
many rows = dearest_book rows 1

-- 4,000 rows join into 64,008 bytes, and into one less they are refused with 12; 4,001 rows are
-- refused with 11, whatever the output
pub record RoomHolds : Type 0 where
  pub fits : join_refusal (many 2000) (many 2000) 64008 ≡ refused 0 0
  pub short : join_refusal (many 2000) (many 2000) 64007 ≡ refused 12 0
  pub too_many : (room : ℕ) → join_refusal (many 2001) (many 2000) room ≡ refused 11 0
