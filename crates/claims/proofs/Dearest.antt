-- The dearest book (P14): no accepted book of as many rows of at most that amount costs more.
-- Assumes nothing.
use Prim.Native.Nat.{ℕ, ◌*◌, ◌≤◌}
use mathlib.Core.Path.{ap}
use mathlib.Core.List.{List}
use native.Mathlib.Omega.{arith}
use Rattle.sums.specs.Every.{Every}
use Rattle.sums.proofs.Every.{every_member, member_every}
use Rattle.book.specs.declared.Refusal.{Refusal}
use Rattle.book.specs.Legs.{legs_of}
use Rattle.book.specs.Refusals.{refused}
use Rattle.book.proofs.Acceptance.{accepted, refused-with_none}
use Rattle.table.specs.Loaded.{standard_bytes}
use Rattle.charges.specs.Report.{report_of}
use Rattle.charges.proofs.Legs.{one_amount}
use Rattle.charges.proofs.StandardRates.{leg_amount, most_each}
use Rattle.dearest.specs.Dearest.{dearest_row, dearest_book}
use Rattle.dearest.proofs.Whole.{Limits, limits, dearest_accepted, dearest_many, dearest_legs}
use Rattle.dearest.proofs.Costs.{dearest_costs}
use Rattle.claims.specs.Dearest.{BookWithin, DearestHolds}

-- ---- any book of so many rows of at most an amount each
module _ (rows most : ℕ) (s : List ℕ) (within : BookWithin rows most s) where
  amount_each : Every (λ leg. leg_amount leg ≤ most) (legs_of s)
  amount_each =
      member_every (legs_of s) (λ leg own.
      let amounts = every_member within.amounts leg own in
      one_amount most leg.class leg.row (every_member (accepted s within.accepted).clean leg own) amounts.0 amounts.1)

  within_costs : (report_of standard_bytes s).total ≤ 205000 * (rows * most)
  within_costs = rw (← within.many) (most_each s (accepted s within.accepted) most amount_each)

-- ---- the dearest of them
module _ (rows most : ℕ) (ok : Limits rows most) where
  dearest_within : BookWithin rows most (dearest_book rows most)
  unfolding refused dearest_row
  dearest_within =
      record {
        accepted = ap (λ (r : Refusal). r.number) (refused-with_none (dearest_book rows most) (dearest_accepted rows most ok));
        many = dearest_many rows most ok;
        amounts = dearest_legs rows most (λ row. (row.long ≤ most) × (row.short ≤ most)) (omega arith);
      }

pub dearest : DearestHolds
dearest rows most e =
    let ok = limits rows most e in
    record {
      within = dearest_within rows most ok;
      costs = dearest_costs rows most ok;
      dearest = λ s within. omega (arith, within_costs rows most s within, dearest_costs rows most ok);
    }
