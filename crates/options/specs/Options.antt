-- What the call gives of an option table (P9): the book of the deltas, gamma and vega by class, and what the book costs.
use Rattle.std.specs.Prelude.{ℕ, cond, List, [], ◌∷◌, map, eqb, length, replicate, Result, Ok, Err}
use Rattle.book.specs.declared.Refusal.{Refusal}
use Rattle.book.specs.Refusals.{refused}
use Rattle.book.specs.declared.Refused.{Refused}
use Rattle.book.specs.Reasons.{numbers_of}
use Rattle.layout.specs.Room.{or_next, room_refusal, figure_of, output_of}
use Rattle.table.specs.Loaded.{standard_bytes}
use Rattle.charges.specs.declared.Report.{Report}
use Rattle.charges.specs.Report.{refused_report, report_of}
use Rattle.options.specs.Table.{OptionRow, options_of}
use Rattle.options.specs.Refusals.{options_refusal}
use Rattle.options.specs.Delta.{delta_book}
use Rattle.options.specs.Greeks.{gamma_charge, vega_charge}
use Rattle.options.specs.declared.Priced.{Priced as Figures}

-- what the call tells: why it is refused, all zero where it is not; the length of the book, gamma and vega by class, and the report of the book (P9)
pub record Priced : Type 0 where
  pub refusal : Refusal
  pub length : ℕ
  pub gammas : List ℕ
  pub vegas : List ℕ
  pub report : Report

-- options are on equity, foreign exchange and commodities (P9)
abbrev pub option_classes : List ℕ
option_classes = 2 ∷ 3 ∷ 4 ∷ []

-- the book of the deltas of a table (P9)
unfoldable pub options_book : List ℕ → List ℕ
options_book s = delta_book (options_of s)

-- the refusal, into an output of so many bytes: 16, 17, then 12 (P9)
unfoldable pub pricing_refusal : List ℕ → ℕ → Refusal
pricing_refusal s room = or_next (options_refusal s) (room_refusal (length (options_book s)) room)

-- a charge of each of those classes, 0 where the call is refused (P9)
unfoldable pub by_class : Refusal → (ℕ → List OptionRow → ℕ) → List OptionRow → List ℕ
by_class refusal charge options = map (λ class. figure_of refusal (charge class options)) option_classes

-- the answer: the refusal, the length of the book, gamma and vega by class, and the report of the book by document 01's table (P9)
unfoldable pub priced_of : List ℕ → ℕ → Priced
priced_of s room =
    let refusal = pricing_refusal s room in
    record {
      refusal = refusal;
      length = figure_of refusal (length (options_book s));
      gammas = by_class refusal gamma_charge (options_of s);
      vegas = by_class refusal vega_charge (options_of s);
      report = cond (eqb refusal.number 0) (report_of standard_bytes (options_book s)) (refused_report refusal);
    }

-- the answer of a refused call: all zero but the refusal (P9)
unfoldable pub refused_pricing : Refusal → Priced
refused_pricing refusal =
    record { refusal = refusal; length = 0; gammas = replicate 3 0; vegas = replicate 3 0; report = refused_report refusal }

-- an answer as such a record (P9)
unfoldable pub priced_answer : Result Figures Refused → Priced
priced_answer (Ok priced) =
    record { refusal = refused 0 0; length = priced.length; gammas = priced.gammas; vegas = priced.vegas; report = priced.report }
priced_answer (Err r) = refused_pricing (numbers_of r)

-- the output afterwards (P9)
unfoldable pub pricing_output : List ℕ → List ℕ → List ℕ
pricing_output s out = output_of (pricing_refusal s (length out)) (options_book s) out
