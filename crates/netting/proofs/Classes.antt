-- The classes of an accepted book, gathered one after the other: no row before differs, and the sums of the classes before stand at their numbers.
-- Assumes nothing.
use mathlib.Core.Path.{◌≡◌, sym, ap, ◌∙◌}
use mathlib.Core.Bool.{Bool}
use mathlib.Core.List.{List, ◌++◌, map}
use Prim.Native.Nat.{ℕ, ◌+◌, ◌-◌, ◌≤◌, ◌<◌, ◌*◌}
use native.Mathlib.Nat.{zero-add, add-zero}
use native.Mathlib.Numerals.{lt_of_le_of_ne}
use native.Mathlib.Decide.{ℕ_discrete, dec_lt}
use native.Mathlib.Omega.{arith}
use lib.ListN.{drop, length, get_or, length-replicate, replicate, get_or-replicate, get_or-eq_default}
use Rattle.sums.specs.Sums.{sum_of}
use Rattle.sums.proofs.Every.{every_implied}
use Rattle.book.specs.declared.Row.{Row}
use Rattle.book.specs.Counts.{classes, counts_of, count_in, rows_before}
use Rattle.book.specs.Legs.{Leg, legs_of, of_class}
use Rattle.std.proofs.Common.{Ok}
use Rattle.book.specs.Refusals.{most_rows}
use Rattle.book.specs.declared.Refused.{Refused}
use Rattle.book.specs.Reasons.{numbers_of, told}
use Rattle.book.specs.Accepted.{Accepted}
use Rattle.book.proofs.Placing.{of_four, from_class, from_first, from_last, before-none, before-next, before-within, rows_apart}
use Rattle.book.proofs.Walking.{class_legs, legs_by_class}
use Rattle.ladder.specs.declared.positions.Position.{Position}
use Rattle.ladder.specs.Position.{empty}
use Rattle.ladder.proofs.Matching.{same_position}
use Rattle.issues.specs.Comparing.{comparisons}
use Rattle.issues.specs.Agreeing.{differs}
use Rattle.netting.specs.Netted.{first_found, found_in_class, differing_refusal, comparisons_of}
use Rattle.netting.specs.Inner.Gathering.{Holds, CanGather, AllGathered, DiffersAt, GatheredBook, longs_of, shorts_of}
use Rattle.amounts.specs.declared.positions.Amounts.{Amounts}
use Rattle.amounts.specs.Inner.Standing.{positions_in}
use Rattle.netting.proofs.Sides.{longs-length, shorts-length, long_at, short_at}
use Rattle.netting.proofs.Tallied.{all_before, all_at, all_past}
use Rattle.netting.proofs.Limits.{leg_with}
use Rattle.book.proofs.ClassRows.{class_size, rows_clean}
use Rattle.netting.proofs.Found.{found_past, found_in, legs_next}

abbrev test : List ℕ → Leg → Bool
test s leg = differs (of_class leg.class (legs_of s)) leg.row

-- the comparisons of a class, and of the classes from one on
abbrev pub class_comparisons : List ℕ → ℕ → ℕ
class_comparisons s class = comparisons (of_class class (legs_of s))

unfoldable pub left_from : List ℕ → ℕ → ℕ
left_from s class = sum_of (class_comparisons s) (drop (class - 1) classes)

left-next : (s : List ℕ) (class : ℕ) → 1 ≤ class → class ≤ 4 → left_from s class ≡ class_comparisons s class + left_from s (class + 1)
unfolding left_from sum_of
left-next s = of_four (λ class. left_from s class ≡ class_comparisons s class + left_from s (class + 1)) (omega arith) (omega arith) (omega arith) (omega arith)

pub record GatheredTo (s : List ℕ) (class compared : ℕ) (amounts : Amounts) : Type 0 where
  pub low : 1 ≤ class
  pub high : class ≤ 5
  pub unfound : first_found 13 (test s) (rows_before (counts_of s) class) (from_class (class_legs s) class) ≡ differing_refusal (legs_of s)
  pub is_compared : compared + left_from s class ≡ comparisons_of s
  pub few_compared : compared ≤ most_rows * rows_before (counts_of s) class
  pub clear : (m : ℕ) → rows_before (counts_of s) class ≤ m → positions_in amounts m ≡ empty
  pub holds : (other : ℕ) → 1 ≤ other → other < class → Holds (rows_before (counts_of s) other) (of_class other (legs_of s)) amounts

none_anywhere : (n m : ℕ) → get_or (replicate n empty) m empty ≡ empty
none_anywhere n m = go (dec_lt m n)
  where
    go : Dec (m < n) → get_or (replicate n empty) m empty ≡ empty
    go (yes h) = get_or-replicate n m empty empty h
    go (no h) = get_or-eq_default (replicate n empty) empty {n = m} (omega (arith, length-replicate n empty))

pub gathered_none : (s : List ℕ) (amounts : Amounts) → amounts.rows ≡ replicate most_rows empty → GatheredTo s 1 0 amounts
unfolding found_in_class left_from comparisons_of
gathered_none s amounts none =
    record {
      low = omega arith;
      high = omega arith;
      unfound = rw (before-none (counts_of s) 1 (omega arith), from_first (class_legs s), ← legs_by_class s);
      is_compared = zero-add _;
      few_compared = omega arith;
      clear = λ m h. rw none (none_anywhere most_rows m);
      holds = λ other low high. let never : ⊥ = omega arith in absurd never;
    }

module _ (s : List ℕ) (ok : Accepted s) (class compared : ℕ) (amounts : Amounts) (now : GatheredTo s class compared amounts) (high : class ≤ 4) where
  abbrev first : ℕ
  first = rows_before (counts_of s) class

  abbrev rows : List Row
  rows = of_class class (legs_of s)

  size : length rows ≡ count_in (counts_of s) class
  size = class_size s ok class now.low high

  pub gathers : CanGather first rows amounts
  gathers =
      record {
        room = omega (arith, size, before-within (counts_of s) class, ok.few);
        clear = now.clear;
        within = every_implied (λ row clean. (clean.long, clean.short)) (rows_clean s ok class now.low high);
      }

  legs : first_found 13 (test s) first (map (leg_with class) rows ++ from_class (class_legs s) (class + 1)) ≡ differing_refusal (legs_of s)
  legs = rw (← legs_next s class now.low high) now.unfound

  pub leaves : {r : Refused} → DiffersAt first rows r → numbers_of r ≡ differing_refusal (legs_of s)
  leaves there =
      there.is ∙ sym (found_in 13 class (test s) (from_class (class_legs s) (class + 1)) first rows there.inside) ∙ legs

  -- all rows of the class were added
  module _ (compared' : ℕ) (amounts' : Amounts) (did : AllGathered first rows compared' amounts amounts') where
    past_class : rows_before (counts_of s) (class + 1) ≡ first + length rows
    past_class = before-next (counts_of s) class ∙ ap (λ (n : ℕ). first + n) (sym size)

    clear_long : (m : ℕ) → first ≤ m → get_or (longs_of amounts) m 0 ≡ 0
    clear_long m low = long_at amounts m ∙ ap (λ (p : Position). p.long) (now.clear m low)

    clear_short : (m : ℕ) → first ≤ m → get_or (shorts_of amounts) m 0 ≡ 0
    clear_short m low = short_at amounts m ∙ ap (λ (p : Position). p.short) (now.clear m low)

    -- what stood at a number before the first row, what stands at a row, and what past the last
    stood : (m : ℕ) → m < first → positions_in amounts' m ≡ positions_in amounts m
    stood m low =
        same_position
        (sym (long_at amounts' m) ∙ rw did.longs_are (all_before (λ r. r.long) first rows (longs_of amounts) m low) ∙ long_at amounts m)
        (sym (short_at amounts' m) ∙ rw did.shorts_are (all_before (λ r. r.short) first rows (shorts_of amounts) m low) ∙ short_at amounts m)

    held : Holds first rows amounts'
    held =
        record {
          longs_at = λ k h.
              sym (long_at amounts' (first + k))
              ∙ rw did.longs_are (all_at (λ r. r.long) first rows (longs_of amounts) k (omega (arith, longs-length amounts, gathers.room)) (clear_long (first + k) (omega arith)));
          shorts_at = λ k h.
              sym (short_at amounts' (first + k))
              ∙ rw did.shorts_are (all_at (λ r. r.short) first rows (shorts_of amounts) k (omega (arith, shorts-length amounts, gathers.room)) (clear_short (first + k) (omega arith)));
        }

    stays_clear : (m : ℕ) → first + length rows ≤ m → positions_in amounts' m ≡ empty
    stays_clear m past =
        same_position
        (sym (long_at amounts' m) ∙ rw did.longs_are (all_past (λ r. r.long) first rows (longs_of amounts) m past (clear_long m (omega arith))))
        (sym (short_at amounts' m) ∙ rw did.shorts_are (all_past (λ r. r.short) first rows (shorts_of amounts) m past (clear_short m (omega arith))))

    pub goes_on : GatheredTo s (class + 1) (compared + compared') amounts'
    goes_on =
        record {
          low = omega arith;
          high = omega arith;
          unfound = rw past_class (sym (found_past 13 class (test s) (from_class (class_legs s) (class + 1)) first rows did.agree) ∙ legs);
          is_compared = omega (arith, now.is_compared, left-next s class now.low high, did.is_compared);
          few_compared = omega (arith, now.few_compared, did.few_compared, past_class);
          clear = λ m h. stays_clear m (omega (arith, past_class));
          holds = λ other low below. stands other low (ℕ_discrete other class) below;
        }
      where
        -- this class, and those before it
        stands : (other : ℕ) → 1 ≤ other → Dec (other ≡ class) → other < class + 1
            → Holds (rows_before (counts_of s) other) (of_class other (legs_of s)) amounts'
        stands other low (yes own) below = rw own held
        stands other low (no apart) below =
            let before = lt_of_le_of_ne (omega arith) apart in
            let was = now.holds other low before in
            let end = rows_apart (counts_of s) other class before in
            let many = class_size s ok other low (omega arith) in
            record {
              longs_at = λ k h. ap (λ (p : Position). p.long) (stood (rows_before (counts_of s) other + k) (omega arith)) ∙ was.longs_at k h;
              shorts_at = λ k h. ap (λ (p : Position). p.short) (stood (rows_before (counts_of s) other + k) (omega arith)) ∙ was.shorts_at k h;
            }

-- all classes are gathered
pub gathered_all : (s : List ℕ) (class compared : ℕ) (amounts : Amounts) → GatheredTo s class compared amounts → 4 < class
    → GatheredBook s (Ok compared) amounts
unfolding first_found left_from sum_of told
gathered_all s class compared amounts now past =
    let last : class ≡ 5 = omega (arith, now.high) in
    record {
      is = rw (last, from_last (class_legs s)) at now.unfound;
      is_compared = sym (add-zero compared) ∙ rw last at now.is_compared;
      holds = λ other low high. now.holds other low (omega arith);
    }
