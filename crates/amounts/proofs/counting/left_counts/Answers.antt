-- `amounts::counting::left_counts` meets its contract: one count for each class.
use Rattle.amounts.specs.Inner.Counting.{left_counts}
use Rattle.amounts.proofs.counting.left_counts.Goals as goal

pub returns : goal.returns
unfolding left_counts
returns c =
    λ i. record {
      interest = c.class_left.ensures i;
      equity = c.class_left-2.ensures i;
      exchange = c.class_left-3.ensures i;
      commodity = c.class_left-4.ensures i;
    }
