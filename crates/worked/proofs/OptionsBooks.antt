-- The facts of options: the definitions give them, by computation.
-- Assumes nothing.
use mathlib.Core.Path.{◌≡◌, refl}
use mathlib.Core.List.{List, map}
use Prim.Native.Nat.{ℕ}
use Rattle.layout.specs.Room.{or_next, room_refusal, figure_of, output_of}
use Rattle.options.specs.Table.{option_count, decode_option, option_at, options_of}
use Rattle.options.specs.Refusals.{length_refused, sort_allowed, size_allowed, allowed, first_outside, options_refusal}
use Rattle.options.specs.Delta.{is_long, delta_amount, delta_leg, delta_legs, delta_book}
use Rattle.options.specs.Greeks.{is_bought, bought_in, sold_in, sides_in, move_of, twice_gamma, half_short, gamma_charge, vega_of, vega_charge}
use Rattle.options.specs.Options.{options_book, pricing_refusal, by_class, priced_of, pricing_output}
use Rattle.market_risk.specs.Entries.{priced_entries}
use Rattle.worked.specs.Worked.{Worked}
use Rattle.worked.specs.OptionsFacts.{price_facts, delta_facts, refused_facts, greek_facts}
use Rattle.worked.proofs.WorkedBooks.{given}

unfoldable option_rows : List Worked → List Worked
unfolding option_count decode_option option_at options_of length_refused sort_allowed size_allowed allowed first_outside options_refusal
option_rows facts = facts

unfoldable greeks : List Worked → List Worked
unfolding is_bought bought_in sold_in sides_in move_of twice_gamma half_short gamma_charge vega_of vega_charge
greeks facts = facts

unfoldable pub priced : List Worked → List (List ℕ)
unfolding given option_rows greeks priced_entries or_next room_refusal figure_of output_of is_long delta_amount delta_leg delta_legs delta_book options_book pricing_refusal by_class priced_of pricing_output
priced facts = given (option_rows (greeks facts))

pub price_facts_lem : priced price_facts ≡ map (λ w. w.expected) price_facts
unfolding priced price_facts
price_facts_lem = refl

pub delta_facts_lem : priced delta_facts ≡ map (λ w. w.expected) delta_facts
unfolding priced delta_facts
delta_facts_lem = refl

pub refused-facts : priced refused_facts ≡ map (λ w. w.expected) refused_facts
unfolding priced refused_facts
refused-facts = refl

pub greek_facts_lem : priced greek_facts ≡ map (λ w. w.expected) greek_facts
unfolding priced greek_facts
greek_facts_lem = refl
