-- Books joined, reordered and mirrored: from the ladder of one currency or commodity to all of them.
-- Assumes nothing.
use Prim.Native.Nat.{ℕ, ◌+◌, ◌*◌, ◌≤◌}
use mathlib.Core.Path.{◌≡◌, ap, ◌∙◌, fun_ext}
use mathlib.Core.List.{List, ◌++◌, map, Perm, Memᴰ}
use native.Mathlib.Omega.{arith}
use Rattle.sums.specs.Sums.{sum_of, sum_at}
use Rattle.sums.proofs.Cases.{counted_times}
use Rattle.sums.proofs.Sums.{sum_of_append, sum_of_permuted, sum_of_map, sum_of_plus, sum_of≤, sum_at_weighted}
use Rattle.ladder.specs.Position.{Bands}
use Rattle.ladder.specs.Table.{Table, weight_in}
use Rattle.ladder.specs.Interest.{zones, charge, interest_figures}
use Rattle.ladder.specs.Commodity.{CommodityFigures, commodity_bands, commodity_figures}
use Rattle.ladder.specs.Rows.{Reading, weighing, positions_by, in_group, ladder_of, groups_of, AtMostTwoZones}
use Rattle.ladder.proofs.Matching.{same_position}
use Rattle.ladder.proofs.Totals.{◌⊞◌, mirror}
use Rattle.ladder.proofs.Joined.{joined}
use Rattle.ladder.proofs.Unused.{one_empty}
use Rattle.ladder.proofs.Carrying.{carry-joined, carry_figures-mirrored}
use Rattle.ladder.proofs.Mirrored.{matches-mirrored}
use Rattle.ladder.specs.Inner.Steps.{TableBounds}

-- the bands times their weights
abbrev pub weighted : Table → Bands → Bands
weighted table f = λ k. record { long = weight_in table k * (f k).long; short = weight_in table k * (f k).short }

-- the charge of a currency's weighted bands, and of a commodity's bands
abbrev pub interest_charge : Table → Bands → ℕ
interest_charge table f = (interest_figures table.percents f).charge

abbrev pub commodity_charge : Bands → ℕ
commodity_charge f = (commodity_figures f).charge

-- long and short exchanged in a row, and all else as it was
pub record Exchanges {Row : Type 0} (read : Reading Row) (change : Row → Row) : Type 0 where
  pub same_group : (row : Row) → read.group (change row) ≡ read.group row
  pub same_band : (row : Row) → read.band (change row) ≡ read.band row
  pub to_long : (row : Row) → read.long (change row) ≡ read.short row
  pub to_short : (row : Row) → read.short (change row) ≡ read.long row

-- weights keep a row's group and band, so mirrored rows stay mirrored
pub weighing-exchanges : {Row : Type 0} {read : Reading Row} {change : Row → Row} (table : Table) → Exchanges read change → Exchanges (weighing table read) change
weighing-exchanges table ex =
    record {
      same_group = ex.same_group;
      same_band = ex.same_band;
      to_long = λ row. simp (ex.same_band, ex.to_long);
      to_short = λ row. simp (ex.same_band, ex.to_short);
    }

-- ---- the rows' positions by an index
module _ {Row : Type 0} (index long short : Row → ℕ) where
  positions_by_append : (rows more : List Row) → positions_by index long short (rows ++ more) ≡ positions_by index long short rows ⊞ positions_by index long short more
  positions_by_append rows more = fun_ext (λ k. same_position (sum_of_append _ rows more) (sum_of_append _ rows more))

  positions_by_permuted : {rows rows' : List Row} → Perm rows rows' → positions_by index long short rows ≡ positions_by index long short rows'
  positions_by_permuted p = fun_ext (λ k. same_position (sum_of_permuted _ p) (sum_of_permuted _ p))

  -- rows changed so that each keeps its index and has long and short exchanged
  positions_by_mirrored : (change : Row → Row) → ((row : Row) → index (change row) ≡ index row)
      → ((row : Row) → long (change row) ≡ short row) → ((row : Row) → short (change row) ≡ long row)
      → (rows : List Row) → positions_by index long short (map change rows) ≡ mirror (positions_by index long short rows)
  positions_by_mirrored change stays longs shorts rows =
      fun_ext (λ k. same_position (sum_of_map _ change rows ∙ simp (stays, longs)) (sum_of_map _ change rows ∙ simp (stays, shorts)))

module _ {Row : Type 0} (read : Reading Row) where
  -- a row's amounts, on either side
  abbrev pub amount_of : Row → ℕ
  amount_of row = read.long row + read.short row

  -- what all groups cost, each by its own ladder
  abbrev pub grouped : (Bands → ℕ) → List ℕ → List Row → ℕ
  grouped cost groups rows = sum_of (λ g. cost (ladder_of read g rows)) groups

  -- ---- the ladder of a group
  pub ladder_of_append : (g : ℕ) (rows more : List Row) → ladder_of read g (rows ++ more) ≡ ladder_of read g rows ⊞ ladder_of read g more
  ladder_of_append g rows more = positions_by_append read.band (in_group read g read.long) (in_group read g read.short) rows more

  pub ladder_of_permuted : (g : ℕ) {rows rows' : List Row} → Perm rows rows' → ladder_of read g rows ≡ ladder_of read g rows'
  ladder_of_permuted g p = positions_by_permuted read.band (in_group read g read.long) (in_group read g read.short) p

  pub ladder_of_mirrored : (g : ℕ) (change : Row → Row) → Exchanges read change → (rows : List Row) → ladder_of read g (map change rows) ≡ mirror (ladder_of read g rows)
  ladder_of_mirrored g change ex rows =
      positions_by_mirrored read.band (in_group read g read.long) (in_group read g read.short) change ex.same_band
      (λ row. simp (ex.same_group, ex.to_long)) (λ row. simp (ex.same_group, ex.to_short)) rows

  -- weights may be applied to the bands' sums
  pub ladder_of_weighted : (table : Table) (g : ℕ) (rows : List Row) → ladder_of (weighing table read) g rows ≡ weighted table (ladder_of read g rows)
  ladder_of_weighted table g rows = fun_ext (λ k. same_position (of k read.long) (of k read.short))
    where
      of : (k : ℕ) (amount : Row → ℕ)
          → sum_at read.band (in_group read g (λ row. weight_in table (read.band row) * amount row)) k rows
          ≡ weight_in table k * sum_at read.band (in_group read g amount) k rows
      of k amount = simp counted_times (simp counted_times at (sum_at_weighted read.band (in_group read g amount) (weight_in table) k rows))

  -- ---- each group's net alone: equity and foreign exchange
  pub groups_of_append : (rows more : List Row) → groups_of read (rows ++ more) ≡ groups_of read rows ⊞ groups_of read more
  groups_of_append rows more = positions_by_append read.group read.long read.short rows more

  pub groups_of_permuted : {rows rows' : List Row} → Perm rows rows' → groups_of read rows ≡ groups_of read rows'
  groups_of_permuted p = positions_by_permuted read.group read.long read.short p

  pub groups_of_mirrored : (change : Row → Row) → Exchanges read change → (rows : List Row) → groups_of read (map change rows) ≡ mirror (groups_of read rows)
  groups_of_mirrored change ex rows = positions_by_mirrored read.group read.long read.short change ex.same_group ex.to_long ex.to_short rows

  pub nets-joined : (cost : Bands → ℕ) → ((f g : Bands) → cost (f ⊞ g) ≤ cost f + cost g) → (rows more : List Row)
      → cost (groups_of read (rows ++ more)) ≤ cost (groups_of read rows) + cost (groups_of read more)
  nets-joined cost sub rows more = rw (groups_of_append rows more) (sub _ _)

  pub nets-mirrored : (cost : Bands → ℕ) → ((f : Bands) → cost (mirror f) ≡ cost f) → (change : Row → Row) → Exchanges read change → (rows : List Row)
      → cost (groups_of read (map change rows)) ≡ cost (groups_of read rows)
  nets-mirrored cost same change ex rows = ap cost (groups_of_mirrored change ex rows) ∙ same (groups_of read rows)

  -- ---- all groups: any cost of a group's ladder
  grouped_joined : (cost : Bands → ℕ) (groups : List ℕ) (rows more : List Row)
      → ((g : ℕ) → Memᴰ g groups → cost (ladder_of read g (rows ++ more)) ≤ cost (ladder_of read g rows) + cost (ladder_of read g more))
      → grouped cost groups (rows ++ more) ≤ grouped cost groups rows + grouped cost groups more
  grouped_joined cost groups rows more each =
      let of : List Row → ℕ → ℕ = λ part g. cost (ladder_of read g part) in
      omega (arith, sum_of≤ (of (rows ++ more)) (λ g. of rows g + of more g) groups each, sum_of_plus (of rows) (of more) groups)

  pub grouped_permuted : (cost : Bands → ℕ) (groups : List ℕ) {rows rows' : List Row} → Perm rows rows' → grouped cost groups rows ≡ grouped cost groups rows'
  grouped_permuted cost groups p = ap (λ (h : ℕ → ℕ). sum_of h groups) (fun_ext (λ g. ap cost (ladder_of_permuted g p)))

  pub grouped_mirrored : (cost : Bands → ℕ) → ((f : Bands) → cost (mirror f) ≡ cost f) → (groups : List ℕ)
      (change : Row → Row) → Exchanges read change → (rows : List Row) → grouped cost groups (map change rows) ≡ grouped cost groups rows
  grouped_mirrored cost same groups change ex rows =
      ap (λ (h : ℕ → ℕ). sum_of h groups) (fun_ext (λ g. ap cost (ladder_of_mirrored g change ex rows) ∙ same (ladder_of read g rows)))

  -- ---- commodities
  pub commodity-joined : (groups : List ℕ) (rows more : List Row)
      → grouped commodity_charge groups (rows ++ more) ≤ grouped commodity_charge groups rows + grouped commodity_charge groups more
  commodity-joined groups rows more =
      grouped_joined commodity_charge groups rows more (λ g m. rw (ladder_of_append g rows more) (carry-joined (ladder_of read g rows) (ladder_of read g more) commodity_bands))

  pub commodity-mirrored : (groups : List ℕ) (change : Row → Row) → Exchanges read change → (rows : List Row)
      → grouped commodity_charge groups (map change rows) ≡ grouped commodity_charge groups rows
  commodity-mirrored = grouped_mirrored commodity_charge (λ f. ap (λ (x : CommodityFigures). x.charge) (carry_figures-mirrored f commodity_bands))

-- ---- interest, for every accepted table: one currency, and all
module _ {Row : Type 0} (read : Reading Row) (table : Table) where
  pub currency-joined : TableBounds table → (g : ℕ) (rows more : List Row) → AtMostTwoZones read (rows ++ more) g
      → interest_charge table (ladder_of (weighing table read) g (rows ++ more))
      ≤ interest_charge table (ladder_of (weighing table read) g rows) + interest_charge table (ladder_of (weighing table read) g more)
  currency-joined ok g rows more most =
      let append = ladder_of_append (weighing table read) g rows more in
      let empty-zone = one_empty read g (weighing table read).long (weighing table read).short (rows ++ more) most in
      rw append (joined zones _ _ table.percents ok.percents (rw append at empty-zone))

  pub general_joined : TableBounds table → (groups : List ℕ) (rows more : List Row) → ((g : ℕ) → Memᴰ g groups → AtMostTwoZones read (rows ++ more) g)
      → grouped (weighing table read) (interest_charge table) groups (rows ++ more)
      ≤ grouped (weighing table read) (interest_charge table) groups rows + grouped (weighing table read) (interest_charge table) groups more
  general_joined ok groups rows more most =
      grouped_joined (weighing table read) (interest_charge table) groups rows more (λ g m. currency-joined ok g rows more (most g m))

  pub general_mirrored : (groups : List ℕ) (change : Row → Row) → Exchanges read change → (rows : List Row)
      → grouped (weighing table read) (interest_charge table) groups (map change rows) ≡ grouped (weighing table read) (interest_charge table) groups rows
  general_mirrored groups change ex rows =
      let same : (f : Bands) → interest_charge table (mirror f) ≡ interest_charge table f = λ f. ap (charge table.percents) (matches-mirrored f zones) in
      grouped_mirrored (weighing table read) (interest_charge table) same groups change (weighing-exchanges table ex) rows
