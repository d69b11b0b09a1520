-- Groups that are listed where they are counted: what a list of them sums to, and a table of their costs.
-- Assumes nothing.
use mathlib.Core.Path.{◌≡◌, refl, sym, ap, ◌∙◌}
use mathlib.Core.Bool.{Bool, true, false, cond, not}
use mathlib.Core.List.{List, [], ◌∷◌, ◌++◌, map, append-nil}
use Prim.Native.Nat.{ℕ, zero, suc, ◌+◌, ◌*◌, ◌≤◌, ◌<◌}
use native.Mathlib.Decide.{ℕ_discrete}
use native.Mathlib.Nat.{zero-add, add-zero, mul-zero, mul-le-mul_left}
use native.Mathlib.Numerals.{add-one}
use native.Mathlib.Omega.{arith}
use mir.Val.{bool_byte}
use borrow.Author.Tests.{eq-eqb, ne_eqb}
use lib.Dec.{eqb}
use lib.ListN.{length, take, get_or, set, replicate, length-set, get_or-replicate}
use lib.Seq.{take-set-le, take-suc-set}
use Rattle.std.proofs.Common.{get_or-set_same, get_or-set_other}
use Rattle.sums.specs.Sums.{sum_of, span}
use Rattle.sums.specs.Every.{Every, none, also}
use Rattle.sums.specs.Inner.Tables.{Reads}
use Rattle.sums.proofs.Sums.{sum_of_rate}
use Rattle.sums.proofs.Spans.{span_last, sum_same, Rated}
use Rattle.sums.proofs.Every.{every_split, every_append, every_implied, every_at}
use Rattle.sums.proofs.Filling.{listed_array, entries_sum}
use Rattle.charges.specs.Charges.{groups}
use Rattle.charges.specs.Inner.Slots.{group_count}
use Rattle.charges.specs.Inner.Tables.{counted_groups, UsedOf}

-- ---- the counted groups of a list
module _ (count : ℕ → ℕ) where
  counted_append : (list more : List ℕ) → counted_groups count (list ++ more) ≡ counted_groups count list ++ counted_groups count more
  unfolding counted_groups
  counted_append [] more = refl
  counted_append (group ∷ list) more = go (eqb (count group) 0) (counted_append list more)
    where
      go : (test : Bool) → counted_groups count (list ++ more) ≡ counted_groups count list ++ counted_groups count more
          → cond test (counted_groups count (list ++ more)) (group ∷ counted_groups count (list ++ more))
          ≡ cond test (counted_groups count list) (group ∷ counted_groups count list) ++ counted_groups count more
      go true later = later
      go false later = ap (λ (l : List ℕ). group ∷ l) later

  -- what holds of each that is counted, and that it is counted
  pub counted_every : {P : ℕ → Type 0} {list : List ℕ} → Every P list
      → Every (λ g. P g × (count g ≡ 0 → ⊥)) (counted_groups count list)
  unfolding counted_groups
  counted_every none = none
  counted_every {P} (also {a} {rest} p later) = go (ℕ_discrete (count a) 0) (counted_every later)
    where
      go : Dec (count a ≡ 0) → Every (λ g. P g × (count g ≡ 0 → ⊥)) (counted_groups count rest)
          → Every (λ g. P g × (count g ≡ 0 → ⊥))
          (cond (eqb (count a) 0) (counted_groups count rest) (a ∷ counted_groups count rest))
      go (yes e) every = rw (eq-eqb (count a) 0 e) every
      go (no e) every = rw (ne_eqb (count a) 0 e) (also (p, e) every)

  -- and the other way
  pub every_counted : {P : ℕ → Type 0} (list : List ℕ) → Every P (counted_groups count list)
      → Every (λ g. (count g ≡ 0 → ⊥) → P g) list
  unfolding counted_groups
  every_counted [] every = none
  every_counted {P} (a ∷ rest) every = go (ℕ_discrete (count a) 0) every (every_counted rest)
    where
      go : Dec (count a ≡ 0)
          → Every P
          (cond (eqb (count a) 0) (counted_groups count rest) (a ∷ counted_groups count rest))
          → (Every P (counted_groups count rest) → Every (λ g. (count g ≡ 0 → ⊥) → P g) rest)
          → Every (λ g. (count g ≡ 0 → ⊥) → P g) (a ∷ rest)
      go (yes e) every later =
          let test = eq-eqb (count a) 0 e in
          also (λ some. absurd (some e)) (later (rw test at every))
      go (no e) every later =
          let test = ne_eqb (count a) 0 e in
          let parts = every_split (a ∷ []) (counted_groups count rest) (rw test at every) in
          also (λ some. every_at parts.0 0 0 (omega arith)) (later parts.1)

-- what holds of the numbers of a span
every_in : {P : ℕ → Type 0} (start many : ℕ) → Every P (span start many) → (k : ℕ) → start ≤ k
    → k < start + many → P k
unfolding span
every_in start zero every k low high = let never : ⊥ = omega arith in absurd never
every_in {P} start (suc many) every k low high =
    let parts = every_split (start ∷ []) (span (suc start) many) every in
    go (ℕ_discrete k start) (every_at parts.0 0 0 (omega arith))
    (λ later. every_in (suc start) many parts.1 k later (omega arith))
  where
    go : Dec (k ≡ start) → P start → (suc start ≤ k → P k) → P k
    go (yes own) here rest = rw own here
    go (no other) here rest = rest (omega arith)

pub span_below : (start many : ℕ) → Every (λ g. g < start + many) (span start many)
unfolding span
span_below start zero = none
span_below start (suc many) =
    let first : start < start + suc many = omega arith in
    also first (every_implied (λ g h. omega arith) (span_below (suc start) many))

-- ---- after some groups of n, those that are counted stand at the front of a list
pub record Listed (n : ℕ) (count : ℕ → ℕ) (list : List ℕ) (many group : ℕ) : Type 0 where
  pub reached : group ≤ n
  pub sized : n < length list
  pub few : many ≤ group
  pub is : take many list ≡ counted_groups count (span 0 group)

pub listed_none : (n : ℕ) (count : ℕ → ℕ) (list : List ℕ) → n < length list → Listed n count list 0 0
unfolding span counted_groups
listed_none n count list sized = record { reached = omega arith; sized = sized; few = omega arith; is = refl }

-- a group is written after those before it, and counts where it is counted
module _ (n : ℕ) (count : ℕ → ℕ) (list : List ℕ) (many group : ℕ) (before : Listed n count list many group) (h : group < n) where
  next_groups : counted_groups count (span 0 (group + 1)) ≡ take many list ++ counted_groups count (group ∷ [])
  next_groups = rw (add-one group, span_last 0 group, zero-add group, before.is) (counted_append count (span 0 group) (group ∷ []))

  passed_over : count group ≡ 0 → Listed n count (set list many group) many (group + 1)
  unfolding counted_groups
  passed_over e =
      record {
        reached = omega arith;
        sized = rw length-set before.sized;
        few = omega (arith, before.few);
        is = rw (next_groups, eq-eqb (count group) 0 e, append-nil (take many list)) (take-set-le many list many group (omega arith));
      }

  written : (count group ≡ 0 → ⊥) → Listed n count (set list many group) (many + 1) (group + 1)
  unfolding counted_groups
  written e =
      record {
        reached = omega arith;
        sized = rw length-set before.sized;
        few = omega (arith, before.few);
        is = rw (next_groups, ne_eqb (count group) 0 e, add-one many) (take-suc-set list many group (omega (arith, before.sized, before.few)));
      }

  pub listed_next : Listed n count (set list many group) (many + bool_byte (not (eqb (count group) 0))) (group + 1)
  listed_next = go (ℕ_discrete (count group) 0)
    where
      go : Dec (count group ≡ 0) → Listed n count (set list many group) (many + bool_byte (not (eqb (count group) 0))) (group + 1)
      go (yes e) =
          let nothing : many + bool_byte (not (eqb (count group) 0)) ≡ many = rw (eq-eqb (count group) 0 e) (add-zero many) in
          rw nothing (passed_over e)
      go (no e) = rw (ne_eqb (count group) 0 e) (written e)

-- after the last group
pub listed_all : (count : ℕ → ℕ) (list : List ℕ) (many group : ℕ) → Listed group_count count list many group → group_count ≤ group
    → UsedOf count (record { list = list; many = many })
listed_all count list many group all done =
    let end : group ≡ group_count = omega (arith, all.reached) in
    record { few = omega (arith, all.few); is = all.is ∙ ap (λ (n : ℕ). counted_groups count (span 0 n)) end }

-- each of them is a group
pub listed_group : (count : ℕ → ℕ) (list : List ℕ) → list ≡ counted_groups count groups → (i : ℕ)
    → i < length list → get_or list i 0 < group_count
listed_group count list is i h =
    let each = every_at (counted_every count (span_below 0 group_count)) i 0 (rw is at h) in
    rw is (omega (arith, each.0))

-- ---- a table in which each of some groups has what a call gave for it, and every other nothing
pub record Charged (gave : ℕ → ℕ → Type 0) (done table : List ℕ) : Type 0 where
  pub sized : length table ≡ group_count
  pub given : Every (λ g. gave g (get_or table g 0)) done
  pub free : (k : ℕ) → k < group_count → Every (λ g. g ≡ k → ⊥) done → get_or table k 0 ≡ 0

module _ (gave : ℕ → ℕ → Type 0) where
  pub charged_none : Charged gave [] (replicate group_count 0)
  charged_none =
      record {
        sized = refl;
        given = none;
        free = λ k h every. get_or-replicate {A = ℕ} group_count k 0 0 h;
      }

  pub charged_next : (done table : List ℕ) (group y : ℕ) → Charged gave done table
      → group < group_count → gave group y → Charged gave (done ++ (group ∷ [])) (set table group y)
  charged_next done table group y before below call =
      record {
        sized = length-set table group y ∙ before.sized;
        given = every_append (every_implied kept before.given) (also here none);
        free = λ k h every.
            let parts = every_split done (group ∷ []) every in
            let other = every_at parts.1 0 0 (omega arith) in
            get_or-set_other table group k y 0 (λ e. other (sym e)) ∙ before.free k h parts.0;
      }
    where
      here : gave group (get_or (set table group y) group 0)
      here = rw (get_or-set_same table group y 0 (omega (arith, before.sized))) call

      kept : (g : ℕ) → gave g (get_or table g 0) → gave g (get_or (set table group y) g 0)
      kept g was = go (ℕ_discrete g group)
        where
          go : Dec (g ≡ group) → gave g (get_or (set table group y) g 0)
          go (yes own) = rw own here
          go (no other) = rw (get_or-set_other table group g y 0 other) was

  -- after all that are counted
  module _ (count : ℕ → ℕ) (table : List ℕ) (all : Charged gave (counted_groups count groups) table)
      (k : ℕ) (h : k < group_count) where
    pub charged_used : (count k ≡ 0 → ⊥) → gave k (get_or table k 0)
    charged_used some =
        every_in 0 group_count (every_counted count groups all.given) k (omega arith)
        (omega arith) some

    pub charged_unused : count k ≡ 0 → get_or table k 0 ≡ 0
    charged_unused zeros =
        all.free k h
        (every_implied (λ g each e. each.1 (ap count e ∙ zeros))
        (counted_every count (span_below 0 group_count)))

-- ---- a table that has the cost of each group that is counted, and no cost of the others
pub record Passed (cost count : ℕ → ℕ) (table : List ℕ) : Type 0 where
  pub sized : length table ≡ group_count
  pub used : (g : ℕ) → g < group_count → (count g ≡ 0 → ⊥) → get_or table g 0 ≡ cost g
  pub unused : (g : ℕ) → g < group_count → count g ≡ 0 → get_or table g 0 ≡ 0

-- what all groups cost, by their sizes
pub all_within : (cost size : ℕ → ℕ) (rate bound : ℕ) → Rated cost size rate bound group_count → sum_of cost groups ≤ rate * bound
all_within cost size rate bound rated = omega (arith, sum_of_rate rate cost size groups rated.each, mul-le-mul_left rate rated.whole)

-- where a group that is not counted has no size, it has the costs of all
module _ (cost size : ℕ → ℕ) (rate bound : ℕ) (rated : Rated cost size rate bound group_count)
    (count : ℕ → ℕ)
    (free : (g : ℕ) → g < group_count → count g ≡ 0 → size g ≡ 0) (table : List ℕ)
    (passed : Passed cost count table) where
  each_cost : Reads group_count cost table
  each_cost = record { below = λ g h. go g h (ℕ_discrete (count g) 0) }
    where
      go : (g : ℕ) → g < group_count → Dec (count g ≡ 0) → get_or table g 0 ≡ cost g
      go g h (yes zeros) =
          omega (
            arith,
            passed.unused g h zeros,
            rw (free g h zeros) at (rated.each g),
            mul-zero rate,
          )
      go g h (no some) = passed.used g h some

  pub costs_are : table ≡ map cost groups
  costs_are = listed_array cost group_count table passed.sized each_cost

  pub costs_sum : sum_of (λ entry. entry) table ≡ sum_of cost groups
  costs_sum = sym (entries_sum group_count table passed.sized)
      ∙ sum_same _ cost group_count each_cost.below

  pub costs_within : sum_of (λ entry. entry) table ≤ rate * bound
  costs_within = omega (arith, costs_sum, all_within cost size rate bound rated)
