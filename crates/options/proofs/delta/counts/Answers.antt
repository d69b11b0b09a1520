-- `options::delta::counts` meets its contract: one count for each class, and none of interest.
use Rattle.std.proofs.Common.{rules, ◌≡◌, length, sym, ap}
use lib.ListN.{get_or}
use Rattle.layout.specs.Files.{counts_by}
use Rattle.options.specs.Inner.Writing.{delta_rows, delta_counts}
use Rattle.options.specs.Table.{options_of}
use Rattle.options.proofs.Outcome.{rows_of_interest}
use Rattle.options.proofs.delta.counts.Goals as goal

pub returns : goal.returns
unfolding delta_counts counts_by
returns c =
    let each = c.map.ensures.items.each in
    let equity : get_or c.map.result 0 0 ≡ length (delta_rows 2 (options_of c.args.table.bytes.now)) = search rules in
    let exchange : get_or c.map.result 1 0 ≡ length (delta_rows 3 (options_of c.args.table.bytes.now)) = search rules in
    let commodity : get_or c.map.result 2 0 ≡ length (delta_rows 4 (options_of c.args.table.bytes.now)) = search rules in
    λ i. record {
      interest = sym (ap length (rows_of_interest c.args.table.bytes.now c.args.table.taken)) i;
      equity = equity i;
      exchange = exchange i;
      commodity = commodity i;
    }
