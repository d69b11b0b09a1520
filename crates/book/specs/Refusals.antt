-- Who is told no, and why: refusals 1 to 9 and 15 in their order (document 01, Who is told no, and why; P5).
use Rattle.std.specs.Prelude.{ℕ, suc, ◌+◌, ◌*◌, Bool, cond, not, ◌||◌, ◌&&◌, List, [], ◌∷◌, length, ltb, eqb}
use Rattle.std.specs.Bool.{beq}
use Rattle.book.specs.Counts.{contents_size, row_size, counts_of, count_of_rows}
use Rattle.book.specs.Rows.{Row}
use Rattle.book.specs.Legs.{Leg, legs_of}
pub use Rattle.book.specs.declared.Refusal.{Refusal}

-- ---- what a book and its fields may hold
-- a book has at most so many rows (document 01, The book file)
abbrev pub most_rows : ℕ
most_rows = 4000

-- groups are 0 to 31 (document 01, The book file)
abbrev pub last_group : ℕ
last_group = 31

-- the largest amount of a row, in thousands (document 01, The book file)
abbrev pub most_amount : ℕ
most_amount = 1000000000

-- kinds begin with 1 in interest and equity, and are else 0 (document 01, The book file)
unfoldable pub least_kind : ℕ → ℕ
least_kind class = cond (eqb class 1 || eqb class 2) 1 0

-- and end with 4 in interest, with 3 in equity (document 01, The book file; P5)
unfoldable pub most_kind : ℕ → ℕ
most_kind class = cond (eqb class 1) 4 (cond (eqb class 2) 3 0)

-- days are 0 to 36,000 in interest and commodities, else 0 (document 01, The book file)
unfoldable pub most_days : ℕ → ℕ
most_days class = cond (eqb class 1 || eqb class 4) 36000 0

-- coupons are 0 to 10,000 basis points in interest, else 0 (document 01, The book file)
unfoldable pub most_coupon : ℕ → ℕ
most_coupon class = cond (eqb class 1) 10000 0

-- interest kind 4 is a floating-rate note: its days run to the next fixing, and its bytes 4-5, the coupon of other rows, hold the days to its
-- final maturity (P5)
unfoldable pub floating : (class kind : ℕ) → Bool
floating class kind = eqb class 1 && eqb kind 4

-- a fixing is within 360 days (P5)
abbrev pub most_fixing : ℕ
most_fixing = 360

-- a final maturity is within 36,000 days (P5)
abbrev pub most_final : ℕ
most_final = 36000

-- ---- a row
-- 4 and 5: its group and its kind (document 01, Who is told no, and why)
unfoldable pub group_refusal : ℕ → Row → ℕ
group_refusal class row =
    cond (ltb last_group row.group) 4
    (cond (ltb row.kind (least_kind class) || ltb (most_kind class) row.kind) 5 0)

-- 6 and 7: its days and its coupon (document 01, Who is told no, and why)
unfoldable pub plain_refusal : ℕ → Row → ℕ
plain_refusal class row = cond (ltb (most_days class) row.days) 6 (cond (ltb (most_coupon class) row.coupon) 7 0)

-- 15: a note that fixes or ends too late, or ends before it fixes (P5)
unfoldable pub note_refusal : Row → ℕ
note_refusal row = cond (ltb most_fixing row.days || (ltb most_final row.coupon || ltb row.coupon row.days)) 15 0

-- of a floating-rate note 15 in the place of 6 and 7 (P5)
unfoldable pub terms_refusal : ℕ → Row → ℕ
terms_refusal class row = cond (floating class row.kind) (note_refusal row) (plain_refusal class row)

-- 8 and 9: its amounts (document 01, Who is told no, and why)
unfoldable pub amounts_refusal : Row → ℕ
amounts_refusal row =
    cond (beq (eqb row.long 0) (eqb row.short 0)) 8
    (cond (ltb most_amount row.long || ltb most_amount row.short) 9 0)

-- the first of two refusals that applies (document 01, Who is told no, and why)
unfoldable pub or_else : ℕ → ℕ → ℕ
or_else number next = cond (eqb number 0) next number

-- the refusal of a row, tried from 4 to 9, of a floating-rate note 4, 5, 15, 8, 9; or 0 (document 01, Who is told no, and why; P5)
unfoldable pub row_refusal : ℕ → Row → ℕ
row_refusal class row = or_else (group_refusal class row) (or_else (terms_refusal class row) (amounts_refusal row))

-- ---- a book
-- a refusal outside join: its number and its row (document 01, Who is told no, and why)
unfoldable pub refused : ℕ → ℕ → Refusal
refused number row = record { number = number; row = row; book = 0 }

-- the refusal of the contents, tried from 1 to 3, or 0 (document 01, Who is told no, and why)
unfoldable pub contents_refusal : List ℕ → ℕ
contents_refusal s =
    cond (ltb (length s) contents_size) 1
    (cond (ltb most_rows (count_of_rows (counts_of s))) 2
    (cond (not (eqb (length s) (contents_size + row_size * count_of_rows (counts_of s)))) 3 0))

-- the refusal of the first bad leg, the legs numbered from `row` on (document 01, Who is told no, and why)
unfoldable pub first_refusal : ℕ → List Leg → Refusal
first_refusal row [] = refused 0 0
first_refusal row (leg ∷ legs) =
    let number = row_refusal leg.class leg.row in
    cond (eqb number 0) (first_refusal (suc row) legs) (refused number row)

-- the refusal of a book: its contents, then its rows in file order (document 01, Who is told no, and why)
unfoldable pub refusal_of : List ℕ → Refusal
refusal_of s = cond (eqb (contents_refusal s) 0) (first_refusal 0 (legs_of s)) (refused (contents_refusal s) 0)
