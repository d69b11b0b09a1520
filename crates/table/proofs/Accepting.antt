-- The accepted tables are those that are described directly, and the laws of the ladder hold for them; document 01's table is one of them.
-- Assumes nothing.
use Prim.Native.Nat.{ℕ, zero, suc, ◌+◌, ◌≤◌, ◌<◌}
use mathlib.Core.Path.{◌≡◌, refl, sym, ap, ◌∙◌}
use mathlib.Core.Bool.{Bool, true, false, not, true≢false}
use mathlib.Core.List.{List, [], ◌∷◌, map}
use native.Mathlib.Decide.{dec_lt, le_ind}
use native.Mathlib.Nat.{le_refl}
use native.Mathlib.Numerals.{add-one}
use native.Mathlib.Omega.{arith}
use lib.ListN.{length, get_or, get_or-eq_default}
use Rattle.std.proofs.Common.{Result, Ok, Err}
use borrow.Author.Tests.{leb-true, le-leb, eqb-true, eq-eqb}
use Rattle.sums.specs.Sums.{span}
use Rattle.sums.proofs.Cases.{both, untaken}
use Rattle.sums.proofs.Filling.{listed_at, listed_length}
use Rattle.book.specs.Fields.{u16_at}
use Rattle.book.specs.declared.Reason.{Reason}
use Rattle.book.specs.Reasons.{number_of, number_in}
use Rattle.ladder.specs.declared.Percents.{Percents}
use Rattle.ladder.specs.declared.Table.{Table}
use Rattle.ladder.specs.Table.{AcceptedPercents, most_weight, weight_in}
use Rattle.ladder.specs.Inner.Steps.{TableBounds}
use Rattle.table.specs.Loaded.{table_size, table_bands, weight_at, percents_of, table_of, weights_hold, percents_hold, table_refusal, AcceptedTable, standard_bytes}
use Rattle.table.specs.declared.RefusedTable.{RefusedTable}
use Rattle.table.specs.Inner.Loading.{Loaded, loaded, loaded_of}

-- ---- weights, one after the other
record Weighed (least : ℕ) (list : List ℕ) : Type 0 where
  from : 0 < length list → least ≤ get_or list 0 0
  rising : (k : ℕ) → suc k < length list → get_or list k 0 ≤ get_or list (suc k) 0
  within : (k : ℕ) → k < length list → get_or list k 0 ≤ most_weight

weighed : (least : ℕ) (list : List ℕ) → weights_hold least list ≡ true → Weighed least list
unfolding weights_hold
weighed least [] e = record { from = λ h. omega arith; rising = λ k h. omega arith; within = λ k h. omega arith }
weighed least (weight ∷ list) e =
    let parts = both _ _ e in
    let more = both _ _ parts.1 in
    let later = weighed weight list more.1 in
    record { from = λ h. leb-true _ _ parts.0; rising = rises later; within = stays later (leb-true _ _ more.0) }
  where
    rises : Weighed weight list → (k : ℕ) → suc k < suc (length list) → get_or (weight ∷ list) k 0 ≤ get_or list k 0
    rises later zero h = later.from (omega arith)
    rises later (suc k) h = later.rising k (omega arith)

    stays : Weighed weight list → weight ≤ most_weight → (k : ℕ) → k < suc (length list) → get_or (weight ∷ list) k 0 ≤ most_weight
    stays later first zero h = first
    stays later first (suc k) h = later.within k (omega arith)

holds : (least : ℕ) (list : List ℕ) → Weighed least list → weights_hold least list ≡ true
unfolding weights_hold
holds least [] all = refl
holds least (weight ∷ list) all =
    let later : Weighed weight list =
    record {
      from = λ h. all.rising 0 (omega arith);
      rising = λ k h. all.rising (suc k) (omega arith);
      within = λ k h. all.within (suc k) (omega arith);
    } in
    simp (le-leb least weight (all.from (omega arith)), le-leb weight most_weight (all.within 0 (omega arith)), holds weight list later)

-- ---- the per cents
ordered : (p : Percents) → percents_hold p ≡ true → AcceptedPercents p
unfolding percents_hold
ordered p e =
    let parts = both _ _ e in
    let zones = both _ _ parts.0 in
    let zone23 = both _ _ zones.1 in
    let rest = both _ _ parts.1 in
    let adjacent = both _ _ rest.0 in
    let adjacent23 = both _ _ adjacent.1 in
    let apart = both _ _ rest.1 in
    record {
      vertical≤1 = leb-true _ _ zones.0;
      vertical≤2 = leb-true _ _ zone23.0;
      vertical≤3 = leb-true _ _ zone23.1;
      zone1≤ = leb-true _ _ adjacent.0;
      zone2≤ = leb-true _ _ adjacent23.0;
      zone3≤ = leb-true _ _ adjacent23.1;
      adjacent≤ = leb-true _ _ apart.0;
      within = leb-true _ _ apart.1;
    }

in_order : (p : Percents) → AcceptedPercents p → percents_hold p ≡ true
unfolding percents_hold
in_order p ok =
    simp (
      le-leb _ _ ok.vertical≤1,
      le-leb _ _ ok.vertical≤2,
      le-leb _ _ ok.vertical≤3,
      le-leb _ _ ok.zone1≤,
      le-leb _ _ ok.zone2≤,
      le-leb _ _ ok.zone3≤,
      le-leb _ _ ok.adjacent≤,
      le-leb _ _ ok.within,
    )

-- ---- the whole table
is_true : (test : Bool) → not test ≡ false → test ≡ true
is_true true e = refl
is_true false e = absurd (true≢false e)

module _ (bytes : List ℕ) where
  pub described : table_refusal bytes ≡ 0 → AcceptedTable bytes
  unfolding table_refusal table_of
  described e =
      let sized = untaken _ 17 _ e in
      let held = both _ _ (is_true _ (untaken _ 18 0 sized.1).0) in
      let all = weighed 0 _ held.0 in
      let many = listed_length (weight_at bytes) 0 table_bands in
      record {
        sized = eqb-true _ _ (is_true _ sized.0);
        never_fall = λ band h.
            rw (← listed_at (weight_at bytes) table_bands band (omega arith), ← listed_at (weight_at bytes) table_bands (band + 1) h, add-one band) (all.rising band (omega (arith, many)));
        within = λ band h. rw (← listed_at (weight_at bytes) table_bands band h) (all.within band (omega (arith, many)));
        percents = ordered (percents_of bytes) held.1;
      }

  pub taken : AcceptedTable bytes → table_refusal bytes ≡ 0
  unfolding table_refusal table_of
  taken ok =
      let many = listed_length (weight_at bytes) 0 table_bands in
      let all : Weighed 0 (map (weight_at bytes) (span 0 table_bands)) =
      record {
        from = λ h. omega arith;
        rising = λ k h. rises k (omega (arith, many));
        within = λ k h. rw (listed_at (weight_at bytes) table_bands k (omega (arith, many))) (ok.within k (omega (arith, many)));
      } in
      simp (eq-eqb _ _ ok.sized, holds 0 _ all, in_order (percents_of bytes) ok.percents)
    where
      rises : (k : ℕ) → suc k < table_bands → get_or (map (weight_at bytes) (span 0 table_bands)) k 0 ≤ get_or (map (weight_at bytes) (span 0 table_bands)) (suc k) 0
      rises k h =
          rw (listed_at (weight_at bytes) table_bands k (omega arith), listed_at (weight_at bytes) table_bands (suc k) h, ← add-one k) (ok.never_fall k (omega arith))

  -- a bound of the bands' weights; another number has no weight
  weights_within : (most : ℕ) → ((band : ℕ) → band < table_bands → weight_at bytes band ≤ most) → (band : ℕ) → weight_in (table_of bytes) band ≤ most
  unfolding weight_in table_of
  weights_within most each band = go (dec_lt band table_bands)
    where
      go : Dec (band < table_bands) → get_or (map (weight_at bytes) (span 0 table_bands)) band 0 ≤ most
      go (yes h) = rw (listed_at (weight_at bytes) table_bands band h) (each band h)
      go (no h) = rw (get_or-eq_default (map (weight_at bytes) (span 0 table_bands)) 0 {n = band} (rw (listed_length (weight_at bytes) 0 table_bands) (omega arith))) (omega arith)

  -- so the laws of the ladder hold for it
  pub accepted_table : AcceptedTable bytes → TableBounds (table_of bytes)
  unfolding table_of
  accepted_table ok = record { weights = weights_within most_weight ok.within; percents = ok.percents }

  -- and no weight is above the last
  last_most : AcceptedTable bytes → (band : ℕ) → weight_in (table_of bytes) band ≤ weight_at bytes 14
  last_most ok =
      weights_within (weight_at bytes 14) (λ band h.
      le_ind (λ (k : ℕ). k < table_bands → weight_at bytes band ≤ weight_at bytes k) (λ below. le_refl _)
      (λ k from so_far below. omega (arith, so_far (omega arith), rw add-one at (ok.never_fall k (omega arith)))) 14 (omega arith) (omega arith))

-- ---- what was loaded: by an answer that has the number of the loading
module _ (bytes : List ℕ) where
  pub loaded_number : (answer : Result Table Reason) → number_in answer ≡ (loaded_of bytes).number → number_in answer ≡ table_refusal bytes
  unfolding loaded_of
  loaded_number answer is = is

  module _ (table : Table) (is : number_in (Ok table) ≡ (loaded_of bytes).number) where
    pub not_refused : table_refusal bytes ≡ 0
    unfolding number_in
    not_refused = sym (loaded_number (Ok table) is)

    pub loaded_accepted : table ≡ table_of bytes → TableBounds table
    loaded_accepted e = rw e (accepted_table bytes (described bytes not_refused))

  -- and by an answer of `load`, which tells also what a refused table holds
  pub refused_number : (table : RefusedTable) → loaded (Err table) ≡ loaded_of bytes → number_of table.reason ≡ table_refusal bytes
  unfolding loaded number_in
  refused_number table is = loaded_number (Err table.reason) (ap (λ (l : Loaded). l.number) is)

  module _ (table : Table) (is : loaded (Ok table) ≡ loaded_of bytes) where
    pub loaded_passed : table_refusal bytes ≡ 0
    unfolding loaded number_in
    loaded_passed = not_refused table (ap (λ (l : Loaded). l.number) is)

    pub loaded_table : table ≡ table_of bytes
    unfolding loaded loaded_of
    loaded_table = ap (λ (l : Loaded). l.table) is ∙ rw (eq-eqb (length bytes) table_size (described bytes loaded_passed).sized) refl

    pub loaded_bounds : TableBounds table
    unfolding loaded number_in
    loaded_bounds = loaded_accepted table (ap (λ (l : Loaded). l.number) is) loaded_table

-- ---- document 01's table is one of them
pub standard_accepted : table_refusal standard_bytes ≡ 0
unfolding table_refusal table_of weight_at percents_of weights_hold percents_hold span u16_at
standard_accepted = refl

pub standard_bounds : TableBounds (table_of standard_bytes)
standard_bounds = accepted_table standard_bytes (described standard_bytes standard_accepted)

-- its last weight is 1,250
pub standard_most : (band : ℕ) → weight_in (table_of standard_bytes) band ≤ 1250
unfolding weight_at u16_at
standard_most = last_most standard_bytes (described standard_bytes standard_accepted)
