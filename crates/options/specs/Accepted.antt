-- The option tables that are taken, described directly (P9). A law says that these are the tables refused with 0.
use Rattle.std.specs.Prelude.{ℕ, ◌+◌, ◌*◌, ◌≤◌, ◌≡◌, List, length}
use Rattle.sums.specs.Every.{Every}
use Rattle.book.specs.Refusals.{last_group, least_kind, most_kind, most_days}
use Rattle.options.specs.Table.{OptionRow, count_size, option_size, option_count, options_of}
use Rattle.options.specs.Refusals.{most_options, most_underlying, whole_delta}

-- an option whose fields are all in their ranges; gamma, vega and volatility may be anything (P9)
pub record Allowed (option : OptionRow) : Type 0 where
  pub class_from : 2 ≤ option.class
  pub class_to : option.class ≤ 4
  pub group : option.group ≤ last_group
  pub right : option.right ≤ 3
  pub kind_from : least_kind option.class ≤ option.kind
  pub kind_to : option.kind ≤ most_kind option.class
  pub days : option.days ≤ most_days option.class
  pub amount_from : 1 ≤ option.amount
  pub amount_to : option.amount ≤ most_underlying
  pub delta : option.delta ≤ whole_delta

-- a table that is taken (P9)
pub record AcceptedOptions (s : List ℕ) : Type 0 where
  pub counted : count_size ≤ length s
  pub few : option_count s ≤ most_options
  pub sized : length s ≡ count_size + option_size * option_count s
  pub every : Every Allowed (options_of s)
