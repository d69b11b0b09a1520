-- The legs of a book: its rows in file order, each with its class (document 01, The book file).
use Rattle.std.specs.Prelude.{ℕ, cond, eqb}
use mathlib.Core.List.{List, [], ◌∷◌, map, flat_map}
use Rattle.book.specs.Counts.{classes}
use Rattle.book.specs.Rows.{Row, rows_of, decode}

-- a row and its class (document 01, The book file)
pub record Leg : Type 0 where
  pub class : ℕ
  pub row : Row

-- the row of some bytes, in a class (document 01, The book file)
abbrev pub leg_of : ℕ → List ℕ → Leg
leg_of class bytes = record { class = class; row = decode bytes }

-- all rows of a file, numbered from 0 in this order (document 01, The book file)
unfoldable pub legs_of : List ℕ → List Leg
legs_of s = flat_map (λ class. map (leg_of class) (rows_of s class)) classes

-- the rows of one class among some legs (document 01, The book file)
unfoldable pub of_class : ℕ → List Leg → List Row
of_class class [] = []
of_class class (leg ∷ legs) = cond (eqb leg.class class) (leg.row ∷ of_class class legs) (of_class class legs)
