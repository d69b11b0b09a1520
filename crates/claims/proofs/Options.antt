-- Options by delta-plus (P9): the tables that are taken, the book of the deltas, two of them joined, and gamma and vega of two tables together.
-- Assumes nothing.
use mathlib.Core.Path.{◌≡◌}
use mathlib.Core.List.{List, []}
use Prim.Native.Nat.{ℕ}
use native.Mathlib.Omega.{arith}
use lib.ListN.{length}
use borrow.Author.Tests.{eq-eqb}
use Rattle.sums.specs.Every.{none}
use Rattle.sums.proofs.Every.{every_member, every_all}
use Rattle.book.specs.Accepted.{Accepted}
use Rattle.book.proofs.Acceptance.{refused-with_none}
use Rattle.layout.specs.Room.{figure_of, output_of}
use Rattle.ladder.specs.Rows.{AtMostTwoZones}
use Rattle.charges.specs.Charges.{reading}
use Rattle.charges.specs.Report.{class_rows}
use Rattle.join.proofs.Settling.{joins}
use Rattle.options.specs.Table.{options_of}
use Rattle.options.specs.Refusals.{options_refusal}
use Rattle.options.specs.Options.{options_book, priced_of, pricing_output}
use Rattle.options.proofs.Ranges.{accepted_options, options_taken, options_length}
use Rattle.options.proofs.Rounding.{delta_least, delta_most}
use Rattle.options.proofs.Whole.{delta_rows_lem, delta_interest, delta_accepted}
use Rattle.options.proofs.Together.{gamma_joined, vega_joined}
use Rattle.claims.specs.Zones.{TwoZonesEach}
use Rattle.claims.specs.Demands.{joined_book}
use Rattle.claims.specs.Options.{AcceptingOptionsHolds, OptionsBookHolds, OptionsBytesHolds, OptionsJoiningHolds, GreeksTogetherHolds}
use Rattle.claims.proofs.Writing.{classes-each, book_bytes}
use Rattle.claims.proofs.Joining.{book_written, joined-legs, joining, no_dearer}

-- ---- the tables that are taken
pub accepting_options : AcceptingOptionsHolds
accepting_options s = record { described = accepted_options s; taken = options_taken s }

-- ---- the book
module _ (s : List ℕ) (passes : (options_refusal s).number ≡ 0) where
  book_accepted : Accepted (options_book s)
  unfolding options_book
  book_accepted =
      let ok = accepted_options s passes in
      delta_accepted (options_of s) ok.every (omega (arith, options_length s, ok.few))

  -- no rows of interest
  no_interest_lem : class_rows (options_book s) 1 ≡ []
  unfolding options_book
  no_interest_lem = delta_interest (options_of s) (accepted_options s passes).every

pub options_book_lem : OptionsBookHolds
unfolding options_book
options_book_lem s passes =
    record {
      accepted = refused-with_none (options_book s) (book_accepted s passes);
      rows = classes-each (delta_rows_lem (options_of s));
      amounts = every_all (λ option. record { least = delta_least option; most = delta_most option }) (options_of s);
    }

pub options_bytes : OptionsBytesHolds
unfolding priced_of pricing_output figure_of output_of
options_bytes s out e = rw (eq-eqb _ _ e) (book_bytes (options_book s) out)

-- ---- joining
-- where there are no rows no zone is used
no_zone : (currency : ℕ) → AtMostTwoZones (reading 1) [] currency
unfolding AtMostTwoZones
no_zone currency first second third = every_member {P = λ _. ⊥} none first.row first.is_row

pub options_joining : OptionsJoiningHolds
unfolding TwoZonesEach
options_joining table fine s t out of-s of-t e =
    let a = options_book s in
    let b = options_book t in
    let settled = joins a b (length out) e in
    let rows : class_rows (joined_book a b out) 1 ≡ [] =
    rw (book_written a b out settled) (rw (no_interest_lem s of-s, no_interest_lem t of-t) at (joined-legs a b settled.first settled.second 1 (omega arith) (omega arith))) in
    record {
      accepted = (joining a b out e).accepted;
      no_dearer = no_dearer table fine a b out e (λ currency within. rw rows (no_zone currency));
    }

-- ---- gamma and vega
pub greeks_together : GreeksTogetherHolds
greeks_together class options more = record { gamma = gamma_joined class options more; vega = vega_joined class options more }
