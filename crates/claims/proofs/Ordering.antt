-- Demand 3, order and mirror: a book's rows in any order within their classes, mirrored all or none, are accepted and cost the same.
-- Assumes nothing.
use Prim.Native.Nat.{ℕ, ◌≤◌}
use mathlib.Core.Path.{◌≡◌, refl, sym, ap, ◌∙◌}
use mathlib.Core.Logic.{◌⊎◌, inl, inr}
use mathlib.Core.List.Perm
use mathlib.Core.List.{List, map, Perm, perm_iff_count, List-discrete}
use native.Mathlib.Decide.{ℕ_discrete}
use native.Mathlib.Omega.{arith}
use lib.ListN.{length}
use Rattle.sums.specs.Every.{Every}
use Rattle.sums.proofs.Every.{every_implied, every_mapped, mapped_every, every_permuted}
use Rattle.book.specs.declared.Row.{Row}
use Rattle.book.specs.Counts.{counts_of, count_of_rows}
use Rattle.book.specs.Rows.{rows_of, decode}
use Rattle.book.specs.Legs.{legs_of}
use Rattle.book.specs.Refusals.{row_refusal}
use Rattle.book.specs.Accepted.{Clean, Accepted}
use Rattle.book.proofs.Walking.{class_rows_lem, legs_length}
use Rattle.book.proofs.Passing.{passes_clean, clean_passes}
use Rattle.book.proofs.Acceptance.{accepted, refused-with_none, class_clean, clean_legs}
use Rattle.ladder.specs.declared.Table.{Table}
use Rattle.table.specs.Loaded.{table_of}
use Rattle.charges.specs.Charges.{specific_charge, interest_general, interest_risk, equity_risk, exchange_general, commodity_general, by_currency}
use Rattle.charges.specs.Report.{class_rows, charged_report, report_of}
use Rattle.claims.specs.Orders.{Reordered, Rearranged, ReorderedBook, MirroredBook}
use Rattle.claims.specs.Demands.{Unchanged, OrderHolds}
use Rattle.claims.proofs.Charging.{Invariant, mirrored_leg, specific_invariant, interest_invariant, interest_risk_invariant, equity-risk_invariant, exchange_invariant, commodity-invariant, currencies-invariant}
use Rattle.claims.proofs.Writing.{each_class_lem}
use Rattle.claims.proofs.Mirroring.{rows_whole, mirrored_legs, mirrored_clean}

-- ---- clean rows stay clean in any order
clean_permuted : (class : ℕ) {rows rows' : List Row} → Perm rows rows' → Every (Clean class) rows → Every (Clean class) rows'
clean_permuted class p clean =
    every_implied (passes_clean class) (every_permuted (row_refusal class) p (every_implied (clean_passes class) clean))

-- rows of which each is there as often are permuted, and so are their fields
pub fields_permuted : {rows rows' : List (List ℕ)} → Reordered rows rows' → Perm (map decode rows) (map decode rows')
fields_permuted {rows} {rows'} r = Perm.map decode {l₁ = rows} {l₂ = rows'} ((perm_iff_count (List-discrete ℕ_discrete)).1 r.each)

-- the body of one class
body_of : {c d : List ℕ} {rows : ℕ → List (List ℕ)} → Rearranged c d rows → (class : ℕ) → 1 ≤ class → class ≤ 4 → Reordered (rows class) (rows_of d class)
body_of r = each_class_lem r.bodies

-- ---- a book d of c's size and counts, whose rows are in some order clean rows that cost what c's do
pub record Ordered (c d : List ℕ) (legs : ℕ → List Row) : Type 1 where
  pub counts : counts_of d ≡ counts_of c
  pub size : length d ≡ length c
  pub order : (class : ℕ) → 1 ≤ class → class ≤ 4 → Perm (legs class) (map decode (rows_of d class))
  pub clean : (class : ℕ) → 1 ≤ class → class ≤ 4 → Every (Clean class) (legs class)
  pub same : {A : Type 0} (cost : List Row → A) → Invariant cost → (class : ℕ) → cost (legs class) ≡ cost (map decode (rows_of c class))

module _ (c d : List ℕ) (of_c : Accepted c) (legs : ℕ → List Row) (of : Ordered c d legs) where
  class_accepted : (class : ℕ) → 1 ≤ class → class ≤ 4 → Every (λ bytes. Clean class (decode bytes)) (rows_of d class)
  class_accepted class low high =
      every_mapped decode (λ bytes clean. clean) (rows_of d class) (clean_permuted class (of.order class low high) (of.clean class low high))

  pub still_accepted : Accepted d
  still_accepted =
      record {
        contents = omega (arith, of.size, of_c.contents);
        few = rw of.counts of_c.few;
        sized = of.size ∙ rw of.counts of_c.sized;
        clean = clean_legs d class_accepted;
      }

  pub same_cost : {A : Type 0} (cost : List Row → A) → Invariant cost → (class : ℕ) → 1 ≤ class → class ≤ 4 → cost (class_rows d class) ≡ cost (class_rows c class)
  same_cost cost invariant class low high =
      ap cost (class_rows_lem d class low high)
      ∙ sym (invariant.permuted (of.order class low high))
      ∙ of.same cost invariant class
      ∙ ap cost (sym (class_rows_lem c class low high))

  -- as many rows are taken
  same_taken : length (legs_of d) ≡ length (legs_of c)
  same_taken = legs_length d still_accepted.sized ∙ ap count_of_rows of.counts ∙ sym (legs_length c of_c.sized)

  same_report : (table : Table) → charged_report table d ≡ charged_report table c
  unfolding charged_report
  same_report table =
      rw (
        same_cost (interest_risk table) (interest_risk_invariant table) 1 (omega arith) (omega arith),
        same_cost equity_risk equity-risk_invariant 2 (omega arith) (omega arith),
        same_cost exchange_general exchange_invariant 3 (omega arith) (omega arith),
        same_cost commodity_general commodity-invariant 4 (omega arith) (omega arith),
        same_taken,
        same_cost (by_currency (specific_charge 1)) (currencies-invariant (specific_charge 1) (specific_invariant 1)) 1 (omega arith) (omega arith),
        same_cost (by_currency (interest_general table)) (currencies-invariant (interest_general table) (interest_invariant table)) 1 (omega arith) (omega arith),
      )

  -- also where the table is refused
  unchanged : (table : List ℕ) → Unchanged table c d
  unfolding report_of
  unchanged table =
      record {
        accepted = refused-with_none d still_accepted;
        report = rw (refused-with_none d still_accepted, refused-with_none c of_c, same_report (table_of table));
      }

-- ---- in any order, and mirrored in any order
legs_clean : (c : List ℕ) → Accepted c → (class : ℕ) → 1 ≤ class → class ≤ 4 → Every (Clean class) (map decode (rows_of c class))
legs_clean c of_c class low high = mapped_every decode (λ bytes clean. clean) (class_clean c of_c class low high)

reordered : (c d : List ℕ) → Accepted c → ReorderedBook c d → Ordered c d (λ class. map decode (rows_of c class))
unfolding ReorderedBook
reordered c d of_c same =
    record {
      counts = same.counts;
      size = same.size;
      order = λ class low high. fields_permuted (body_of same class low high);
      clean = legs_clean c of_c;
      same = λ cost invariant class. refl;
    }

mirrored : (c d : List ℕ) → Accepted c → MirroredBook c d → Ordered c d (λ class. map mirrored_leg (map decode (rows_of c class)))
unfolding MirroredBook
mirrored c d of_c same =
    record {
      counts = same.counts;
      size = same.size;
      order = λ class low high. rw (mirrored_legs (rows_whole c class)) at (fields_permuted (body_of same class low high));
      clean = λ class low high. mapped_every mirrored_leg (mirrored_clean class) (legs_clean c of_c class low high);
      same = λ cost invariant class. invariant.mirrored (map decode (rows_of c class));
    }

-- either way
pub rearranged : (c d : List ℕ) → Accepted c → ReorderedBook c d ⊎ MirroredBook c d → (legs : ℕ → List Row) × Ordered c d legs
rearranged c d of_c (inl order) = (_, reordered c d of_c order)
rearranged c d of_c (inr mirror) = (_, mirrored c d of_c mirror)

pub ordering : OrderHolds
ordering table c d e how = unchanged c d (accepted c e) _ (rearranged c d (accepted c e) how).1 table
