-- Who is told no, and why: 16, then 17 (P9).
use Rattle.std.specs.Prelude.{ℕ, suc, ◌+◌, ◌*◌, Bool, cond, not, ◌||◌, ◌&&◌, List, [], ◌∷◌, ltb, leb, eqb, length}
use Rattle.book.specs.declared.Refusal.{Refusal}
use Rattle.book.specs.Refusals.{last_group, least_kind, most_kind, most_days, refused}
use Rattle.options.specs.Table.{OptionRow, count_size, option_size, option_count, options_of}

-- ---- what a table and its fields may hold
-- the most rows of a table (P9)
abbrev pub most_options : ℕ
most_options = 1000

-- the largest underlying amount, in thousands (P9)
abbrev pub most_underlying : ℕ
most_underlying = 1000000

-- a delta of one, in ten-thousandths (P9)
abbrev pub whole_delta : ℕ
whole_delta = 10000

-- ---- the table
-- 16: fewer bytes than the count, a count over 1,000, or another length than the rows have (P9)
unfoldable pub length_refused : List ℕ → Bool
length_refused s = ltb (length s) count_size || (ltb most_options (option_count s) || not (eqb (length s) (count_size + option_size * option_count s)))

-- ---- a row
-- classes 2 to 4, rights 0 to 3; group, kind and days as in a row of the class (P9)
unfoldable pub sort_allowed : OptionRow → Bool
sort_allowed option =
    (leb 2 option.class && leb option.class 4)
    && (leb option.group last_group && (leb option.right 3
    && ((leb (least_kind option.class) option.kind && leb option.kind (most_kind option.class)) && leb option.days (most_days option.class))))

-- an underlying of 1 to 1,000,000, a delta of at most one (P9)
unfoldable pub size_allowed : OptionRow → Bool
size_allowed option = (leb 1 option.amount && leb option.amount most_underlying) && leb option.delta whole_delta

-- every field is in its range (P9)
unfoldable pub allowed : OptionRow → Bool
allowed option = sort_allowed option && size_allowed option

-- 17: at the first row with a field out of its range, the rows numbered from `row` on (P9)
unfoldable pub first_outside : ℕ → List OptionRow → Refusal
first_outside row [] = refused 0 0
first_outside row (option ∷ options) = cond (allowed option) (first_outside (suc row) options) (refused 17 row)

-- the refusal of a table: 16, then 17 (P9)
unfoldable pub options_refusal : List ℕ → Refusal
options_refusal s = cond (length_refused s) (refused 16 0) (first_outside 0 (options_of s))
