-- Offsetting swap legs (P2), worked by hand: which rows fit, what is written, who is told no, and a book that costs more when it is offset.
use Rattle.std.specs.Prelude.{ℕ, List, [], ◌∷◌, replicate}
use Rattle.book.specs.Legs.{Leg}
use Rattle.layout.specs.Files.{book_of}
use Rattle.offsetting.specs.Offset.{offset_book, offset_of, offsetting_output}
use Rattle.worked.specs.Worked.{Worked, leg, government, costs}
use Rattle.worked.specs.WrittenBooks.{issued, bond, share, writes, answered}

-- ---- what offsetting does with some legs
-- they are not refused, and are written as others
abbrev pub leaves : (legs left : List Leg) → Worked
leaves = writes offsetting_output

-- all of them are dropped, or all of them stay
abbrev pub dropped : List Leg → Worked
dropped legs = leaves legs []

abbrev pub stay : List Leg → Worked
stay legs = leaves legs legs

-- its answer, with so many bytes of room
abbrev pub answers : List Leg → ℕ → List ℕ → Worked
answers legs room = answered (offset_of (book_of legs) room).refusal (offset_of (book_of legs) room).length

-- ---- which two rows fit
-- government rows of one currency, 100 long and 100 short: the days and the coupon of each
abbrev pub swap : (days coupon days-later coupon-later : ℕ) → List Leg
swap days coupon days-later coupon-later = leg 1 9 1 days coupon 100 0 ∷ leg 1 9 1 days-later coupon-later 0 100 ∷ []

-- days and coupons at each limit and one past it, in either order; amounts that differ; two longs; the kinds 2, 3 and 4, and two kinds; two currencies;
-- issue numbers, which are not looked at; the short row first
unfoldable pub fit_facts : List Worked
fit_facts =
    dropped (swap 29 800 29 800)
    ∷ stay (swap 29 800 30 800)
    ∷ dropped (swap 30 800 37 800)
    ∷ stay (swap 30 800 38 800)
    ∷ dropped (swap 360 800 367 800)
    ∷ stay (swap 360 800 368 800)
    ∷ dropped (swap 361 800 391 800)
    ∷ stay (swap 361 800 392 800)
    ∷ stay (swap 30 800 29 800)
    ∷ dropped (swap 367 800 360 800)
    ∷ stay (swap 368 800 360 800)
    ∷ dropped (swap 391 800 361 800)
    ∷ stay (swap 392 800 361 800)
    ∷ dropped (swap 900 800 900 815)
    ∷ stay (swap 900 800 900 816)
    ∷ dropped (swap 900 815 900 800)
    ∷ stay (swap 900 816 900 800)
    ∷ stay (government 9 900 100 0 ∷ government 9 900 0 99 ∷ [])
    ∷ stay (government 9 900 100 0 ∷ government 9 900 100 0 ∷ [])
    ∷ stay (leg 1 9 2 900 800 100 0 ∷ leg 1 9 2 900 800 0 100 ∷ [])
    ∷ stay (leg 1 9 3 900 800 100 0 ∷ leg 1 9 3 900 800 0 100 ∷ [])
    ∷ stay (leg 1 9 4 90 800 100 0 ∷ leg 1 9 4 90 800 0 100 ∷ [])
    ∷ stay (leg 1 9 1 900 800 100 0 ∷ leg 1 9 2 900 800 0 100 ∷ [])
    ∷ stay (leg 1 9 2 900 800 100 0 ∷ leg 1 9 1 900 800 0 100 ∷ [])
    ∷ stay (government 9 900 100 0 ∷ government 8 900 0 100 ∷ [])
    ∷ dropped (bond 900 7 100 0 ∷ bond 900 8 0 100 ∷ [])
    ∷ dropped (bond 900 0 0 100 ∷ bond 900 0 100 0 ∷ [])
    ∷ []

-- ---- what is written
-- a pair that fits, and a row between them
abbrev pub around_one : List Leg
around_one = bond 900 7 100 0 ∷ bond 30 4 1 0 ∷ bond 910 8 0 100 ∷ []

-- rows of other classes, also of equal amounts on opposite sides
abbrev pub other_classes : List Leg
other_classes = share 6 100 0 ∷ share 7 0 100 ∷ issued 3 9 0 0 0 8 100 0 ∷ issued 4 9 0 900 0 9 0 100 ∷ []

-- one row, byte by byte, and the bytes past it as they were; just room, and one byte less, which writes nothing; the first later row that fits, not the
-- nearest; of two rows that one fits the first has it; a row that was dropped is offered to none; a pair within a pair; other rows stay in their order,
-- those of other classes too; the refusal of the book before 12; no rows
unfoldable pub offset_facts : List Worked
offset_facts =
    record {
      given = offsetting_output (book_of around_one) (replicate 26 5);
      expected = 1 ∷ 0 ∷ 0 ∷ 0 ∷ 0 ∷ 0 ∷ 0 ∷ 0 ∷ 9 ∷ 1 ∷ 30 ∷ 0 ∷ 32 ∷ 3 ∷ 4 ∷ 0 ∷ 1 ∷ 0 ∷ 0 ∷ 0 ∷ 0 ∷ 0 ∷ 0 ∷ 0 ∷ 5 ∷ 5 ∷ [];
    }
    ∷ answers around_one 24 (0 ∷ 0 ∷ 0 ∷ 24 ∷ [])
    ∷ answers around_one 23 (12 ∷ 0 ∷ 0 ∷ 0 ∷ [])
    ∷ record { given = offsetting_output (book_of around_one) (replicate 23 5); expected = replicate 23 5 }
    ∷ leaves (bond 900 1 100 0 ∷ bond 910 2 0 100 ∷ bond 900 3 0 100 ∷ []) (bond 900 3 0 100 ∷ [])
    ∷ leaves (bond 900 1 100 0 ∷ bond 900 2 100 0 ∷ bond 900 3 0 100 ∷ []) (bond 900 2 100 0 ∷ [])
    ∷ leaves (bond 900 1 100 0 ∷ bond 930 2 0 100 ∷ bond 960 3 100 0 ∷ []) (bond 960 3 100 0 ∷ [])
    ∷ dropped (bond 900 1 100 0 ∷ bond 900 2 50 0 ∷ bond 900 3 0 50 ∷ bond 900 4 0 100 ∷ [])
    ∷ leaves
    (bond 30 1 1 0 ∷ bond 900 2 0 100 ∷ issued 1 9 2 900 800 3 100 0 ∷ bond 901 4 100 0 ∷ bond 30 5 2 0 ∷ other_classes)
    (bond 30 1 1 0 ∷ issued 1 9 2 900 800 3 100 0 ∷ bond 30 5 2 0 ∷ other_classes)
    ∷ answers (bond 900 1 100 0 ∷ bond 900 2 0 100 ∷ bond 36001 3 1 0 ∷ []) 0 (6 ∷ 2 ∷ 0 ∷ 0 ∷ [])
    ∷ stay []
    ∷ answers [] 8 (0 ∷ 0 ∷ 0 ∷ 8 ∷ [])
    ∷ []

-- ---- what it costs
-- the first two fit: 25 × 70 long in zone 1, 25 × 125 short and 11 × 125 long in zone 2 cost 1,375 × 10 + 1,750 × 40 = 83,750; without them 1,375 × 100 = 137,500
abbrev pub hedged : List ℕ
hedged = book_of (government 9 360 25 0 ∷ government 9 367 0 25 ∷ government 9 400 11 0 ∷ [])

unfoldable pub dearer_facts : List Worked
dearer_facts = costs hedged 0 83750 0 0 0 0 83750 3 ∷ costs (offset_book hedged) 0 137500 0 0 0 0 137500 1 ∷ []
