-- The book of the options' deltas (P9; A.5, 4 and 6).
use Rattle.std.specs.Prelude.{ℕ, ◌+◌, ◌*◌, ◌/◌, Bool, cond, ◌||◌, List, [], ◌∷◌, eqb}
use Rattle.book.specs.Legs.{Leg}
use Rattle.layout.specs.Files.{book_of}
use Rattle.options.specs.Table.{OptionRow}
use Rattle.options.specs.Refusals.{whole_delta}

-- bought calls and sold puts gain when the underlying rises: they are long (P9)
unfoldable pub is_long : OptionRow → Bool
is_long option = eqb option.right 0 || eqb option.right 3

-- the amount times delta, rounded up to a whole unit (P9)
unfoldable pub delta_amount : OptionRow → ℕ
delta_amount option = (option.amount * option.delta + 9999) / whole_delta

-- the row of an option: its class, group, kind and days, no coupon and no issue (P9)
unfoldable pub delta_leg : OptionRow → Leg
delta_leg option =
    record {
      class = option.class;
      row = record {
        group = option.group;
        kind = option.kind;
        days = option.days;
        coupon = 0;
        issue = 0;
        long = cond (is_long option) (delta_amount option) 0;
        short = cond (is_long option) 0 (delta_amount option);
      };
    }

-- in the table's order, without options of delta 0 (P9)
unfoldable pub delta_legs : List OptionRow → List Leg
delta_legs [] = []
delta_legs (option ∷ options) = cond (eqb option.delta 0) (delta_legs options) (delta_leg option ∷ delta_legs options)

-- the book that they make (P9)
unfoldable pub delta_book : List OptionRow → List ℕ
delta_book options = book_of (delta_legs options)
