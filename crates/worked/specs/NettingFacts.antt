-- Netting one issue (P1), worked by hand: what is written, what is told no and where, and E4 joined and netted.
use Rattle.std.specs.Prelude.{ℕ, List, [], ◌∷◌, replicate}
use Rattle.book.specs.Legs.{Leg}
use Rattle.layout.specs.Files.{book_of}
use Rattle.netting.specs.Netted.{issues_refusal, netted_book, netted_of, netting_output}
use Rattle.market_risk.specs.Entries.{refusal_entries}
use Rattle.claims.specs.Demands.{joined_book}
use Rattle.worked.specs.Worked.{Worked, costs}
use Rattle.worked.specs.WrittenBooks.{issued, bond, share, writes, answered}

-- ---- what netting does with some legs
-- they are not refused, and are written as others
abbrev pub nets : (legs left : List Leg) → Worked
nets = writes netting_output

-- its answer, with so many bytes of room
abbrev pub answers : List Leg → ℕ → List ℕ → Worked
answers legs room = answered (netted_of (book_of legs) room).refusal (netted_of (book_of legs) room).length

-- refused, whatever the room
abbrev pub tells : List Leg → (number row : ℕ) → Worked
tells legs number row = answers legs 1000 (number ∷ row ∷ 0 ∷ 0 ∷ [])

-- ---- what is written
-- the same bond long 100 and short 40
abbrev pub same_bond : List Leg
same_bond = bond 900 7 100 0 ∷ bond 900 7 0 40 ∷ []

-- one row of 60 long in the place of the first, byte by byte, and the bytes past it as they were; issue 0 stays; a net of zero is dropped; the same
-- number in two classes is two issues
unfoldable pub written_facts : List Worked
written_facts =
    record {
      given = netting_output (book_of same_bond) (replicate 26 5);
      expected = 1 ∷ 0 ∷ 0 ∷ 0 ∷ 0 ∷ 0 ∷ 0 ∷ 0 ∷ 9 ∷ 1 ∷ 132 ∷ 3 ∷ 32 ∷ 3 ∷ 7 ∷ 0 ∷ 60 ∷ 0 ∷ 0 ∷ 0 ∷ 0 ∷ 0 ∷ 0 ∷ 0 ∷ 5 ∷ 5 ∷ [];
    }
    ∷ answers same_bond 24 (0 ∷ 0 ∷ 0 ∷ 24 ∷ [])
    ∷ answers same_bond 23 (12 ∷ 0 ∷ 0 ∷ 0 ∷ [])
    ∷ record { given = netting_output (book_of same_bond) (replicate 23 5); expected = replicate 23 5 }
    ∷ nets (bond 900 0 100 0 ∷ bond 900 0 0 40 ∷ []) (bond 900 0 100 0 ∷ bond 900 0 0 40 ∷ [])
    ∷ nets (bond 900 7 100 0 ∷ bond 30 0 1 0 ∷ bond 900 7 0 100 ∷ []) (bond 30 0 1 0 ∷ [])
    ∷ nets (bond 900 7 100 0 ∷ bond 30 8 1 0 ∷ bond 900 7 0 140 ∷ bond 30 8 1 0 ∷ []) (bond 900 7 0 40 ∷ bond 30 8 2 0 ∷ [])
    ∷ nets (bond 900 7 100 0 ∷ share 7 0 40 ∷ []) (bond 900 7 100 0 ∷ share 7 0 40 ∷ [])
    ∷ nets [] []
    ∷ []

-- ---- E4 with its two 900-day rows as one issue
abbrev pub near_issue : List ℕ
near_issue = book_of (bond 270 0 75 0 ∷ bond 900 7 0 30 ∷ [])

abbrev pub far_issue : List ℕ
far_issue = book_of (bond 900 7 30 0 ∷ bond 6000 0 0 10 ∷ [])

abbrev pub joined_issue : List ℕ
joined_issue = joined_book near_issue far_issue (replicate 72 0)

-- both books, and the joined one, can be netted; the joined book uses three zones, netted it uses two, and costs more than the two netted
abbrev pub can_be_netted : List ℕ → Worked
can_be_netted book = record { given = refusal_entries (issues_refusal book); expected = 0 ∷ 0 ∷ 0 ∷ [] }

unfoldable pub able_facts : List Worked
able_facts = can_be_netted near_issue ∷ can_be_netted far_issue ∷ can_be_netted joined_issue ∷ []

unfoldable pub joined_facts : List Worked
joined_facts =
    costs (netted_book near_issue) 0 210000 0 0 0 0 210000 2
    ∷ costs (netted_book far_issue) 0 210000 0 0 0 0 210000 2
    ∷ costs (netted_book joined_issue) 0 525000 0 0 0 0 525000 2
    ∷ []

-- ---- who is told no
-- 13 at the row that differs in group, kind, days or coupon, not at the first; of notes the final maturity counts; rows of issue 0, and of another
-- class, may differ; 13 at the end of the file before 14 at its start; 14 at the first row, in the order of the rows, and by the whole sum, not by
-- what it passes through; another refusal of a row before both
unfoldable pub told_facts : List Worked
told_facts =
    tells (bond 30 0 1 0 ∷ bond 900 7 100 0 ∷ issued 1 8 1 900 800 7 0 40 ∷ []) 13 2
    ∷ tells (bond 900 7 100 0 ∷ issued 1 9 2 900 800 7 0 40 ∷ []) 13 1
    ∷ tells (bond 900 7 100 0 ∷ bond 900 7 1 0 ∷ bond 901 7 0 40 ∷ []) 13 2
    ∷ tells (bond 900 7 100 0 ∷ issued 1 9 1 900 801 7 0 40 ∷ []) 13 1
    ∷ tells (issued 1 9 4 90 2880 7 100 0 ∷ issued 1 9 4 90 2881 7 0 40 ∷ []) 13 1
    ∷ nets (bond 900 0 100 0 ∷ bond 901 0 0 40 ∷ share 7 1 0 ∷ issued 3 9 0 0 0 7 1 0 ∷ []) (bond 900 0 100 0 ∷ bond 901 0 0 40 ∷ share 7 1 0 ∷ issued 3 9 0 0 0 7 1 0 ∷ [])
    ∷ tells (bond 900 7 1000000000 0 ∷ bond 900 7 1 0 ∷ share 8 1 0 ∷ issued 2 9 2 0 0 8 1 0 ∷ []) 13 3
    ∷ tells (bond 30 0 1 0 ∷ bond 60 6 1 0 ∷ bond 900 7 1000000000 0 ∷ bond 900 7 1 0 ∷ bond 60 6 1000000000 0 ∷ []) 14 1
    ∷ tells (share 7 0 1000000000 ∷ share 7 0 1 ∷ []) 14 0
    ∷ nets (share 7 0 1000000000 ∷ []) (share 7 0 1000000000 ∷ [])
    ∷ nets (bond 900 7 1000000000 0 ∷ bond 900 7 1000000000 0 ∷ bond 900 7 0 1000000000 ∷ []) (bond 900 7 1000000000 0 ∷ [])
    ∷ tells (bond 900 7 1 0 ∷ bond 901 7 1 0 ∷ issued 4 0 0 36001 0 0 1 0 ∷ []) 6 2
    ∷ []

-- ---- how many comparisons (P7)
abbrev pub compares : List Leg → ℕ → Worked
compares legs number = record { given = (netted_of (book_of legs) 1000).comparisons ∷ []; expected = number ∷ [] }

-- five different issues in one class reach the bound, 5 × 4 / 2, and one row more of the first of them makes one comparison; the order counts; rows of issue 0 are not
-- compared, and other classes have issues of their own; an issue that nets to zero was kept; a refusal counts nothing, 12 too
unfoldable pub compared_facts : List Worked
compared_facts =
    compares (bond 900 1 1 0 ∷ bond 900 2 1 0 ∷ bond 900 3 1 0 ∷ bond 900 4 1 0 ∷ bond 900 5 1 0 ∷ []) 10
    ∷ compares (bond 900 1 1 0 ∷ bond 900 2 1 0 ∷ bond 900 3 1 0 ∷ bond 900 4 1 0 ∷ bond 900 5 1 0 ∷ bond 900 1 1 0 ∷ []) 11
    ∷ compares (bond 900 1 1 0 ∷ bond 900 1 1 0 ∷ bond 900 2 1 0 ∷ []) 2
    ∷ compares (bond 900 1 1 0 ∷ bond 900 2 1 0 ∷ bond 900 2 1 0 ∷ []) 3
    ∷ compares (bond 900 1 1 0 ∷ bond 900 0 1 0 ∷ bond 900 0 1 0 ∷ bond 900 1 1 0 ∷ []) 1
    ∷ compares (bond 900 1 1 0 ∷ share 1 1 0 ∷ share 2 1 0 ∷ []) 1
    ∷ compares (bond 900 1 1 0 ∷ bond 900 1 0 1 ∷ bond 900 2 1 0 ∷ []) 2
    ∷ compares [] 0
    ∷ compares (bond 900 1 1 0 ∷ bond 900 2 1 0 ∷ bond 901 2 1 0 ∷ []) 0
    ∷ record { given = (netted_of (book_of (bond 900 1 1 0 ∷ bond 900 2 1 0 ∷ [])) 39).comparisons ∷ []; expected = 0 ∷ [] }
    ∷ []
