-- An option table as bytes (P9): a count of two bytes, and rows of eighteen.
use Rattle.std.specs.Prelude.{ℕ, ◌+◌, ◌*◌, List, map, take, drop, get_or}
use Rattle.sums.specs.Sums.{span}
use Rattle.book.specs.Fields.{u16_at, u32_at}
pub use Rattle.options.specs.declared.OptionRow.{OptionRow}

-- the bytes of the count (P9)
abbrev pub count_size : ℕ
count_size = 2

-- the bytes of a row (P9)
abbrev pub option_size : ℕ
option_size = 18

-- how many rows the table says that it has (P9)
unfoldable pub option_count : List ℕ → ℕ
option_count s = u16_at s 0

-- the fields of a row's eighteen bytes: class, group, right (0 bought call, 1 bought put, 2 sold call, 3 sold put), kind; the amount of the underlying;
-- delta, gamma, vega, volatility and days (P9)
unfoldable pub decode_option : List ℕ → OptionRow
decode_option bytes =
    record {
      class = get_or bytes 0 0;
      group = get_or bytes 1 0;
      right = get_or bytes 2 0;
      kind = get_or bytes 3 0;
      amount = u32_at bytes 4;
      delta = u16_at bytes 8;
      gamma = u16_at bytes 10;
      vega = u16_at bytes 12;
      volatility = u16_at bytes 14;
      days = u16_at bytes 16;
    }

-- the row of a number (P9)
unfoldable pub option_at : List ℕ → ℕ → OptionRow
option_at s n = decode_option (take option_size (drop (count_size + option_size * n) s))

-- all rows in the table's order (P9)
unfoldable pub options_of : List ℕ → List OptionRow
options_of s = map (option_at s) (span 0 (option_count s))
