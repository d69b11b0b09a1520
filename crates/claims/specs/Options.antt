-- Options by delta-plus (P9): the tables that are taken, the book that is written, two of them joined, and the gamma and vega of two tables together.
use Rattle.std.specs.Prelude.{ℕ, ◌+◌, ◌*◌, ◌≤◌, ◌<◌, ◌≡◌, List, ◌++◌, length, take}
use Rattle.sums.specs.Every.{Every}
use Rattle.book.specs.Counts.{classes}
use Rattle.book.specs.Legs.{of_class}
use Rattle.book.specs.Refusals.{refused, refusal_of}
use Rattle.table.specs.Loaded.{table_refusal}
use Rattle.charges.specs.Report.{class_rows, report_of}
use Rattle.join.specs.Joined.{join_refusal}
use Rattle.market_risk.specs.Entries.{report_figures}
use Rattle.options.specs.declared.OptionRow.{OptionRow}
use Rattle.options.specs.Table.{options_of}
use Rattle.options.specs.Refusals.{whole_delta, options_refusal}
use Rattle.options.specs.Accepted.{AcceptedOptions}
use Rattle.options.specs.Delta.{delta_amount, delta_legs}
use Rattle.options.specs.Greeks.{gamma_charge, vega_charge}
use Rattle.options.specs.Options.{options_book, pricing_refusal, priced_of, pricing_output}
use Rattle.claims.specs.Demands.{AtMost, joined_book}

-- ---- the tables that are taken are those that are described directly (P9)
pub record AcceptingOptions (s : List ℕ) : Type 0 where
  pub described : (options_refusal s).number ≡ 0 → AcceptedOptions s
  pub taken : AcceptedOptions s → options_refusal s ≡ refused 0 0

abbrev pub AcceptingOptionsHolds : Type 0
AcceptingOptionsHolds = (s : List ℕ) → AcceptingOptions s

-- ---- the book
-- an amount, in ten-thousandths, is not below the exact one and less than one unit above it (P9)
pub record RoundedUp (option : OptionRow) : Type 0 where
  pub least : option.amount * option.delta ≤ whole_delta * delta_amount option
  pub most : whole_delta * delta_amount option < option.amount * option.delta + whole_delta

-- it is accepted; in each class it has the rows of the options of that class, in the table's order; and each amount is rounded up (P9)
pub record OptionsBook (s : List ℕ) : Type 0 where
  pub accepted : refusal_of (options_book s) ≡ refused 0 0
  pub rows : Every (λ class. class_rows (options_book s) class ≡ of_class class (delta_legs (options_of s))) classes
  pub amounts : Every RoundedUp (options_of s)

-- for every option table that passes 16 and 17 (P9)
abbrev pub OptionsBookHolds : Type 0
OptionsBookHolds = (s : List ℕ) → (options_refusal s).number ≡ 0 → OptionsBook s

-- the bytes that the call writes, up to the length that it gives, are that book (P9)
abbrev pub OptionsBytesHolds : Type 0
OptionsBytesHolds =
    (s out : List ℕ) → (pricing_refusal s (length out)).number ≡ 0 → take (priced_of s (length out)).length (pricing_output s out) ≡ options_book s

-- ---- joining
-- two such books joined are accepted, and each charge and the total are at most the two together; there are no interest rows, so it asks nothing of
-- zones (P9)
pub record OptionsJoining (table s t out : List ℕ) : Type 0 where
  pub accepted : refusal_of (joined_book (options_book s) (options_book t) out) ≡ refused 0 0
  pub no_dearer : AtMost (report_figures (report_of table (joined_book (options_book s) (options_book t) out)))
      (report_figures (report_of table (options_book s))) (report_figures (report_of table (options_book t)))

-- for every accepted ladder table, every two option tables, and every output that join accepts (P9; P10)
abbrev pub OptionsJoiningHolds : Type 0
OptionsJoiningHolds =
    (table : List ℕ) → table_refusal table ≡ 0 → (s t out : List ℕ) → (options_refusal s).number ≡ 0 → (options_refusal t).number ≡ 0
    → (join_refusal (options_book s) (options_book t) (length out)).number ≡ 0 → OptionsJoining table s t out

-- ---- gamma and vega
-- of any options put together each is at most the two, in every class (P9)
pub record GreeksTogether (class : ℕ) (options more : List OptionRow) : Type 0 where
  pub gamma : gamma_charge class (options ++ more) ≤ gamma_charge class options + gamma_charge class more
  pub vega : vega_charge class (options ++ more) ≤ vega_charge class options + vega_charge class more

abbrev pub GreeksTogetherHolds : Type 0
GreeksTogetherHolds = (class : ℕ) (options more : List OptionRow) → GreeksTogether class options more
