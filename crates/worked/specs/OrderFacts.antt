-- Netting before offsetting (P3), worked by hand: the books of docs/ORDER.md in either order, with what is left and what it costs; and the one call.
use Rattle.std.specs.Prelude.{ℕ, List, [], ◌∷◌, ◌++◌, replicate}
use Rattle.book.specs.Legs.{Leg}
use Rattle.layout.specs.Files.{book_of}
use Rattle.netting.specs.Netted.{netted_book, netted_of}
use Rattle.offsetting.specs.Offset.{offset_book}
use Rattle.offsetting.specs.NetOffset.{net_offset_book, net_offset_of, net_offset_output}
use Rattle.market_risk.specs.Entries.{netted_entries}
use Rattle.worked.specs.Worked.{Worked, costs}
use Rattle.worked.specs.WrittenBooks.{bond_in, answered}

-- ---- the books: government rows of currency 7
-- a pair that fits, of which the short row shares its issue number with a third row
abbrev pub shared_issue : List Leg
shared_issue = bond_in 7 900 0 100 0 ∷ bond_in 7 910 7 0 100 ∷ bond_in 7 910 7 40 0 ∷ []

-- two rows of one issue that only together equal a third row
abbrev pub split_issue : List Leg
split_issue = bond_in 7 900 0 100 0 ∷ bond_in 7 910 7 0 60 ∷ bond_in 7 910 7 0 40 ∷ []

-- ---- either order
-- issues first is what the call does; this is the other order
abbrev pub offsetting_first : List ℕ → List ℕ
offsetting_first s = netted_book (offset_book s)

-- the rows that are left
abbrev pub leaves : List ℕ → List Leg → Worked
leaves book left = record { given = book; expected = book_of left }

-- all rows are in the band of 1.75 %, in zone 2: a unit weighs 175; what is matched in the band costs 10 a unit of weight, and the rest 100
unfoldable pub either_order_facts : List Worked
either_order_facts =
    -- as it is: 140 long and 100 short: 100 × 175 × 10 + 40 × 175 × 100 = 175,000 + 700,000
    costs (book_of shared_issue) 0 875000 0 0 0 0 875000 3
    -- issues first: 100 long and 60 short do not fit: 60 × 175 × 10 + 40 × 175 × 100 = 105,000 + 700,000
    ∷ leaves (net_offset_book (book_of shared_issue)) (bond_in 7 900 0 100 0 ∷ bond_in 7 910 7 0 60 ∷ [])
    ∷ costs (net_offset_book (book_of shared_issue)) 0 805000 0 0 0 0 805000 2
    -- offsetting first: 40 long: 40 × 175 × 100
    ∷ leaves (offsetting_first (book_of shared_issue)) (bond_in 7 910 7 40 0 ∷ [])
    ∷ costs (offsetting_first (book_of shared_issue)) 0 700000 0 0 0 0 700000 1
    -- as it is: 100 long and 100 short: 100 × 175 × 10
    ∷ costs (book_of split_issue) 0 175000 0 0 0 0 175000 3
    -- issues first: 100 long and 100 short fit, and nothing is left
    ∷ leaves (net_offset_book (book_of split_issue)) []
    ∷ costs (net_offset_book (book_of split_issue)) 0 0 0 0 0 0 0 0
    -- offsetting first: no two rows fit, and the short rows become one: 100 × 175 × 10
    ∷ leaves (offsetting_first (book_of split_issue)) (bond_in 7 900 0 100 0 ∷ bond_in 7 910 7 0 100 ∷ [])
    ∷ costs (offsetting_first (book_of split_issue)) 0 175000 0 0 0 0 175000 2
    ∷ []

-- ---- the one call
-- its answer, with so many bytes of room: number, row, book, length, comparisons
abbrev pub answers : List Leg → ℕ → List ℕ → Worked
answers legs room expected = record { given = netted_entries (net_offset_of (book_of legs) room); expected = expected }

-- two rows, byte by byte, and the bytes past them as they were; just room, and one byte less, which writes nothing; room for what is written in the end,
-- but not for the netted book of 40 bytes, and one byte less; 13 before 12, also of two rows that fit; 14 before 12; the refusal of a row before 13
unfoldable pub one_call_facts : List Worked
one_call_facts =
    record {
      given = net_offset_output (book_of shared_issue) (replicate 42 5);
      expected =
          2 ∷ 0 ∷ 0 ∷ 0 ∷ 0 ∷ 0 ∷ 0 ∷ 0
          ∷ 7 ∷ 1 ∷ 132 ∷ 3 ∷ 32 ∷ 3 ∷ 0 ∷ 0 ∷ 100 ∷ 0 ∷ 0 ∷ 0 ∷ 0 ∷ 0 ∷ 0 ∷ 0
          ∷ 7 ∷ 1 ∷ 142 ∷ 3 ∷ 32 ∷ 3 ∷ 7 ∷ 0 ∷ 0 ∷ 0 ∷ 0 ∷ 0 ∷ 60 ∷ 0 ∷ 0 ∷ 0
          ∷ 5 ∷ 5 ∷ [];
    }
    ∷ answers shared_issue 40 (0 ∷ 0 ∷ 0 ∷ 40 ∷ 1 ∷ [])
    ∷ answers shared_issue 39 (12 ∷ 0 ∷ 0 ∷ 0 ∷ 0 ∷ [])
    ∷ record { given = net_offset_output (book_of shared_issue) (replicate 39 5); expected = replicate 39 5 }
    ∷ answered (netted_of (book_of split_issue) 39).refusal (netted_of (book_of split_issue) 39).length (12 ∷ 0 ∷ 0 ∷ 0 ∷ [])
    ∷ record { given = net_offset_output (book_of split_issue) (replicate 39 5); expected = replicate 8 0 ++ replicate 31 5 }
    ∷ answers split_issue 8 (0 ∷ 0 ∷ 0 ∷ 8 ∷ 1 ∷ [])
    ∷ answers split_issue 7 (12 ∷ 0 ∷ 0 ∷ 0 ∷ 0 ∷ [])
    ∷ record { given = net_offset_output (book_of split_issue) (replicate 7 5); expected = replicate 7 5 }
    ∷ answers (bond_in 7 900 7 100 0 ∷ bond_in 7 910 7 0 100 ∷ []) 0 (13 ∷ 1 ∷ 0 ∷ 0 ∷ 0 ∷ [])
    ∷ answers (bond_in 7 900 7 1000000000 0 ∷ bond_in 7 900 7 1 0 ∷ []) 0 (14 ∷ 0 ∷ 0 ∷ 0 ∷ 0 ∷ [])
    ∷ answers (bond_in 7 900 7 100 0 ∷ bond_in 7 910 7 0 100 ∷ bond_in 7 36001 0 1 0 ∷ []) 0 (6 ∷ 2 ∷ 0 ∷ 0 ∷ 0 ∷ [])
    ∷ []
