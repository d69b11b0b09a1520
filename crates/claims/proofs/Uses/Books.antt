-- Uses of the claims on one book and one table: who is accepted, the parts, order and mirror, the lists by currency, the ladders.
-- Assumes nothing.
use Prim.Native.Nat.{ℕ, ◌+◌, ◌*◌, ◌≤◌, ◌<◌}
use mathlib.Core.Path.{◌≡◌, refl}
use mathlib.Core.Logic.{inl, inr}
use mathlib.Core.List.{List, [], ◌++◌, map, flat_map, count, List-discrete}
use native.Mathlib.Decide.{ℕ_discrete}
use lib.ListN.{length, take, drop, get_or}
use Rattle.sums.specs.Sums.{sum_of}
use Rattle.sums.specs.Every.{Every}
use Rattle.book.specs.Counts.{counts_of, count_of_rows}
use Rattle.book.specs.Rows.{rows_of}
use Rattle.book.specs.Legs.{Leg, legs_of}
use Rattle.book.specs.Refusals.{refused, refusal_of}
use Rattle.book.specs.Accepted.{Clean}
use Rattle.book.specs.Parts.{part_of, part_start, part_length}
use Rattle.ladder.specs.Position.{absolute_net}
use Rattle.ladder.specs.Table.{AcceptedPercents, weight_in}
use Rattle.table.specs.Loaded.{table_refusal, weight_at, percents_of, table_of, standard_bytes}
use Rattle.charges.specs.Bands.{interest_band}
use Rattle.charges.specs.Charges.{of_group}
use Rattle.charges.specs.Report.{class_rows, report_of, interest_ladder_of, commodity_ladder_of}
use Rattle.charges.specs.SmallBank.{small_refusal, small_bank_of}
use Rattle.claims.specs.AddingUp.{weighted_sum, plain_sum}
use Rattle.claims.specs.Orders.{mirrored_row, ReorderedBook, MirroredBook}
use Rattle.claims.proofs.Writing.{classes-each, each_class_lem}
use Rattle.claims.proofs.Reader.{accepting, accepting_table, standard, handing, part_places}
use Rattle.claims.proofs.Ordering.{ordering}
use Rattle.claims.proofs.SmallBank.{small_ordering}
use Rattle.claims.proofs.Currencies.{splitting}
use Rattle.claims.proofs.AddingUp.{interest_adding_up, commodity-adding_up}

-- ---- who is accepted
pub described_says : (s : List ℕ) → (refusal_of s).number ≡ 0
    → (8 ≤ length s) × (count_of_rows (counts_of s) ≤ 4000) × (length s ≡ 8 + 16 * count_of_rows (counts_of s))
    × Every (λ (leg : Leg). Clean leg.class leg.row) (legs_of s)
described_says s e = let book = (accepting s).described e in (book.contents, book.few, book.sized, book.clean)

pub taken_says : (s : List ℕ) → 8 ≤ length s → count_of_rows (counts_of s) ≤ 4000
    → length s ≡ 8 + 16 * count_of_rows (counts_of s)
    → Every (λ (leg : Leg). Clean leg.class leg.row) (legs_of s) → refusal_of s ≡ refused 0 0
taken_says s contents few sized clean = (accepting s).taken record { contents = contents; few = few; sized = sized; clean = clean }

pub table_described_says : (bytes : List ℕ) → table_refusal bytes ≡ 0
    → (length bytes ≡ 36)
    × ((band : ℕ) → band + 1 < 15 → weight_at bytes band ≤ weight_at bytes (band + 1))
    × ((band : ℕ) → band < 15 → weight_at bytes band ≤ 2000) × AcceptedPercents (percents_of bytes)
table_described_says bytes e = let table = (accepting_table bytes).described e in (table.sized, table.never_fall, table.within, table.percents)

pub table_taken_says : (bytes : List ℕ) → length bytes ≡ 36
    → ((band : ℕ) → band + 1 < 15 → weight_at bytes band ≤ weight_at bytes (band + 1))
    → ((band : ℕ) → band < 15 → weight_at bytes band ≤ 2000) → AcceptedPercents (percents_of bytes)
    → table_refusal bytes ≡ 0
table_taken_says bytes sized never_fall within percents =
    (accepting_table bytes).taken record { sized = sized; never_fall = never_fall; within = within; percents = percents }

pub standard_says : table_refusal standard_bytes ≡ 0
standard_says = standard

pub whole_says : (s : List ℕ) → (refusal_of s).number ≡ 0
    → take 8 s ++ (part_of s 1 ++ (part_of s 2 ++ (part_of s 3 ++ (part_of s 4 ++ [])))) ≡ s
unfolding flat_map
whole_says s e = (handing s).whole e

pub empty-says : (s : List ℕ) → ((refusal_of s).number ≡ 0 → ⊥) → (class : ℕ) → 1 ≤ class → class ≤ 4
    → part_of s class ≡ []
empty-says s some = each_class_lem ((handing s).empty some)

pub lies_says : (s : List ℕ) (class : ℕ)
    → (take (part_length s class) (drop (part_start s class) s) ≡ part_of s class)
    × (part_start s class + part_length s class ≤ length s)
lies_says s class = ((part_places s).lies class, (part_places s).within class)

pub nowhere_says : (s : List ℕ) → ((refusal_of s).number ≡ 0 → ⊥) → (class : ℕ)
    → (part_start s class ≡ 0) × (part_length s class ≡ 0)
nowhere_says s = (part_places s).of_refused

pub no_class_says : (s : List ℕ) (class : ℕ)
    → (part_start s 0 ≡ 0) × (part_length s 0 ≡ 0)
    × (5 ≤ class → (part_start s class ≡ 0) × (part_length s class ≡ 0))
no_class_says s class =
    let zeroth = (part_places s).of_no_class 0 (inl refl) in
    (zeroth.0, zeroth.1, λ past. (part_places s).of_no_class class (inr past))

-- ---- order and mirror
-- each row of one list is as often in the other
abbrev AsOften : (rows rows' : List (List ℕ)) → Type 0
AsOften rows rows' = (row : List ℕ) → count (List-discrete ℕ_discrete) row rows ≡ count (List-discrete ℕ_discrete) row rows'

-- bytes 8 to 11 and 12 to 15 exchanged
abbrev exchanged : List ℕ → List ℕ
exchanged row = take 8 row ++ (take 4 (drop 12 row) ++ take 4 (drop 8 row))

module _ (c d : List ℕ) (counts : counts_of d ≡ counts_of c) (size : length d ≡ length c) where
  in_order : ((class : ℕ) → 1 ≤ class → class ≤ 4 → AsOften (rows_of c class) (rows_of d class))
      → ReorderedBook c d
  unfolding ReorderedBook
  in_order each = record { counts = counts; size = size; bodies = classes-each (λ class low high. record { each = each class low high }) }

  mirrored : ((class : ℕ) → 1 ≤ class → class ≤ 4
      → AsOften (map exchanged (rows_of c class)) (rows_of d class)) → MirroredBook c d
  unfolding MirroredBook mirrored_row
  mirrored each = record { counts = counts; size = size; bodies = classes-each (λ class low high. record { each = each class low high }) }

  pub order_says : (table : List ℕ) → (refusal_of c).number ≡ 0
      → ((class : ℕ) → 1 ≤ class → class ≤ 4 → AsOften (rows_of c class) (rows_of d class))
      → (refusal_of d ≡ refused 0 0) × (report_of table d ≡ report_of table c)
  order_says table e each = let same = ordering table c d e (inl (in_order each)) in (same.accepted, same.report)

  pub mirror_says : (table : List ℕ) → (refusal_of c).number ≡ 0
      → ((class : ℕ) → 1 ≤ class → class ≤ 4
      → AsOften (map exchanged (rows_of c class)) (rows_of d class)) → (refusal_of d ≡ refused 0 0)
      × (report_of table d ≡ report_of table c)
  mirror_says table e each = let same = ordering table c d e (inr (mirrored each)) in (same.accepted, same.report)

  pub small_order_says : (small_refusal c).number ≡ 0
      → ((class : ℕ) → 1 ≤ class → class ≤ 4 → AsOften (rows_of c class) (rows_of d class))
      → small_bank_of d ≡ small_bank_of c
  small_order_says e each = small_ordering c d e (inl (in_order each))

  pub small_mirror_says : (small_refusal c).number ≡ 0
      → ((class : ℕ) → 1 ≤ class → class ≤ 4
      → AsOften (map exchanged (rows_of c class)) (rows_of d class)) → small_bank_of d ≡ small_bank_of c
  small_mirror_says e each = small_ordering c d e (inr (mirrored each))

-- ---- the lists by currency
pub splitting_says : (table s : List ℕ)
    → (length (report_of table s).specifics ≡ 32) × (length (report_of table s).generals ≡ 32)
    × (sum_of (λ (entry : ℕ). entry) (report_of table s).specifics ≡ (report_of table s).interest.specific)
    × (sum_of (λ (entry : ℕ). entry) (report_of table s).generals ≡ (report_of table s).interest.general)
    × ((currency : ℕ) → currency ≤ 31
    → get_or (report_of table s).generals currency 0 ≡ (interest_ladder_of table s currency).figures.charge)
splitting_says table s = let lists = splitting table s in (lists.specifics_many, lists.generals_many, lists.specific, lists.general, lists.ladder)

-- ---- the ladders
-- the long and the short side of a currency's weighted positions, and of a commodity's amounts
module _ (s : List ℕ) (none : (refusal_of s).number ≡ 0) where
  pub interest_says : (table : List ℕ) → table_refusal table ≡ 0 → (currency : ℕ) → currency ≤ 31
      → let rows = of_group currency (class_rows s 1) in
      let long = sum_of (λ row. weight_in (table_of table) (interest_band row) * row.long) rows in
      let short = sum_of (λ row. weight_in (table_of table) (interest_band row) * row.short) rows in
      let charge = (interest_ladder_of table s currency).figures.charge in
      let m = (interest_ladder_of table s currency).figures.matches in
      (m.gross ≡ long + short)
      × (2 * (m.vertical + m.zone1 + m.zone2 + m.zone3 + m.zones12 + m.zones23 + m.zones13) + m.residual ≡ m.gross)
      × (m.residual ≡ absolute_net record { long = long; short = short })
      × (100 * m.residual ≤ charge) × (2 * charge ≤ 100 * (m.gross + m.residual))
  unfolding weighted_sum
  interest_says table fine currency h =
      let up = interest_adding_up table fine s none currency h in
      (up.is_gross, up.adds_up, up.is_residual, up.least, up.most)

  pub commodity-says : (commodity : ℕ) → commodity ≤ 31
      → let rows = of_group commodity (class_rows s 4) in
      let long = sum_of (λ row. row.long) rows in
      let short = sum_of (λ row. row.short) rows in
      let figures = (commodity_ladder_of s commodity).figures in
      (2 * figures.matches + figures.residual ≡ long + short)
      × (figures.residual ≡ absolute_net record { long = long; short = short })
      × (figures.charge ≡ 15000 * (long + short) + 135000 * figures.residual + 6000 * figures.carried)
  unfolding plain_sum
  commodity-says commodity h = let up = commodity-adding_up s none commodity h in (up.adds_up, up.is_residual, up.is_charge)
