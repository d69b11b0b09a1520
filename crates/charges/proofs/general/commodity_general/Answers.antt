-- `charges::general::commodity_general` meets its contract: a commodity without rows costs
-- nothing, and is passed over.
use mathlib.Core.Path.{◌∙◌}
use Prim.Native.Nat.{ℕ, ◌+◌}
use native.Mathlib.Omega.{arith}
use borrow.Author.Rules.{rules}
use lib.ListN.{get_or}
use Rattle.sums.proofs.Spans.{Rated, rated_size}
use Rattle.ladder.specs.Commodity.{commodity_band_count, commodity_figures}
use Rattle.ladder.proofs.Carrying.{commodity-within}
use Rattle.charges.specs.Inner.Slots.{group_count}
use Rattle.charges.specs.Inner.Tables.{most_gross, bands_from, gross_from, commodity_at}
use Rattle.charges.proofs.Listing.{Passed, costs_sum, costs_within}
use Rattle.charges.proofs.general.commodity_general.Goals.{Start, After-charges_of-charges}
use Rattle.charges.proofs.general.commodity_general.Goals as goal

abbrev cost : Start → ℕ → ℕ
cost start g =
    (commodity_figures
    (bands_from start.args.sums.now.positions (commodity_at g))).charge

abbrev size : Start → ℕ → ℕ
size start g =
    gross_from commodity_band_count start.args.sums.now.positions (commodity_at g)

rated : (start : Start) → Rated (cost start) (size start) 186000 most_gross group_count
rated start = record { each = λ g. commodity-within (bands_from start.args.sums.now.positions (commodity_at g)); whole = start.requires.groups_bound }

passed : (c : After-charges_of-charges)
    → Passed (cost c.before) (λ g. get_or c.args.sums.now.rows (96 + g) 0) c.charges_of-charges.result
passed c =
    record {
      sized = search rules;
      used = λ g h some. let call = c.charges_of-charges.ensures.used g h some in
          search (rules, call);
      unused = c.charges_of-charges.ensures.unused;
    }

pub charges_of-charges-requires-clause-callable : goal.charges_of-charges-requires-clause-callable
charges_of-charges-requires-clause-callable c g h =
    let fits =
    rated_size _ _ _ _ _
    (rated (goal.at.charges_of-charges-requires-clause-callable c).Start) g h in
    search rules

pub group_total-requires : goal.group_total-requires
group_total-requires c =
    omega (
      arith,
      costs_within _ _ _ _ (rated (goal.at.group_total-requires c).Start) _ c.requires.by_index _
          (passed c),
    )

pub returns : goal.returns
returns c =
    c.group_total.ensures
    ∙ costs_sum _ _ _ _ (rated (goal.at.returns c).Start) _ c.requires.by_index _
    (passed (goal.at.returns c).After-charges_of-charges)
