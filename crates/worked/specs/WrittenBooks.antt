-- Facts of a call that writes a book: legs with an issue number, what is written, and what is answered.
use Rattle.std.specs.Prelude.{ℕ, List, [], ◌∷◌, ◌++◌, length, replicate}
use Rattle.book.specs.declared.Refusal.{Refusal}
use Rattle.book.specs.Legs.{Leg}
use Rattle.layout.specs.Files.{book_of}
use Rattle.market_risk.specs.Entries.{refusal_entries}
use Rattle.worked.specs.Worked.{Worked}

-- ---- legs with an issue number
abbrev pub issued : (class group kind days coupon issue long short : ℕ) → Leg
issued class group kind days coupon issue long short =
    record { class = class; row = record { group = group; kind = kind; days = days; coupon = coupon; issue = issue; long = long; short = short } }

abbrev pub bond_in : (group days issue long short : ℕ) → Leg
bond_in group days issue long short = issued 1 group 1 days 800 issue long short

abbrev pub bond : (days issue long short : ℕ) → Leg
bond = bond_in 9

abbrev pub share : (issue long short : ℕ) → Leg
share issue long short = issued 2 9 1 0 0 issue long short

-- ---- what a call does
-- by its output afterwards: some legs are not refused, and are written as others into an output that has just room for these
abbrev pub writes : (List ℕ → List ℕ → List ℕ) → (legs left : List Leg) → Worked
writes output legs left = record { given = output (book_of legs) (replicate (length (book_of left)) 5); expected = book_of left }

-- its answer: number, row, book, length
abbrev pub answered : Refusal → ℕ → List ℕ → Worked
answered refusal size expected = record { given = refusal_entries refusal ++ size ∷ []; expected = expected }
