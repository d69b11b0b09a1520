-- `charges::general::interest_generals` meets its contract: a currency without rows costs nothing,
-- and is passed over.
use Prim.Native.Nat.{ℕ, ◌+◌, ◌*◌, ◌≤◌}
use native.Mathlib.Omega.{arith}
use borrow.Author.Rules.{rules}
use lib.ListN.{get_or}
use Rattle.sums.specs.Sums.{span}
use Rattle.sums.proofs.Spans.{Rated, rated_size}
use Rattle.ladder.specs.declared.Table.{Table}
use Rattle.ladder.specs.Table.{most_weight}
use Rattle.ladder.specs.Interest.{zones, matches, interest_figures}
use Rattle.ladder.specs.Inner.Steps.{band_count}
use Rattle.ladder.proofs.AddsUp.{charge-within}
use Rattle.ladder.proofs.Bounds.{weighted_gross}
use Rattle.charges.specs.Inner.Slots.{group_count}
use Rattle.charges.specs.Inner.Tables.{most_gross, bands_from, gross_from, weighted_from, currency_at}
use Rattle.charges.proofs.Listing.{costs_are}
use Rattle.charges.proofs.general.interest_generals.Goals.{Start}
use Rattle.charges.proofs.general.interest_generals.Goals as goal

abbrev by : Start → Table
by start = start.args.table.now

abbrev cost : Start → ℕ → ℕ
cost start g =
    (interest_figures start.args.table.now.percents
    (weighted_from (by start) start.args.sums.now.positions
    (currency_at g))).charge

abbrev size : Start → ℕ → ℕ
size start g = gross_from band_count start.args.sums.now.positions (currency_at g)

-- no weight is above 2,000, and no charge above 100%
rate : (start : Start) (g : ℕ) → cost start g ≤ 200000 * size start g
unfolding matches span
rate start g =
    omega (
      arith,
      charge-within start.args.table.now.percents start.requires.table_bounds.percents zones
          (weighted_from (by start) start.args.sums.now.positions (currency_at g)),
      weighted_gross (by start) most_weight start.requires.table_bounds.weights
          (bands_from start.args.sums.now.positions (currency_at g))
          (span 0 band_count),
    )

rated : (start : Start) → Rated (cost start) (size start) 200000 most_gross group_count
rated start = record { each = rate start; whole = start.requires.groups_bound }

pub charges_of-requires-clause-callable : goal.charges_of-requires-clause-callable
charges_of-requires-clause-callable c g h =
    let fits =
    rated_size _ _ _ _ _ (rated (goal.at.charges_of-requires-clause-callable c).Start) g h in
    search rules

pub returns : goal.returns
returns c =
    let start = (goal.at.returns c).Start in
    costs_are _ _ _ _ (rated start) (λ g. get_or c.args.sums.now.rows (0 + g) 0) c.requires.by_index _
    (record {
      sized = search rules;
      used = λ g h some. let call = c.charges_of.ensures.used g h some in search (rules, call);
      unused = c.charges_of.ensures.unused;
    })
