-- Going through the rows of a book, class by class: where one stands, and that the refusal is that of the first bad leg.
-- Assumes nothing.
use mathlib.Core.Path.{◌≡◌, refl, sym, ap, ◌∙◌}
use mathlib.Core.List.{List, [], ◌∷◌}
use Prim.Native.Nat.{ℕ, suc, ◌+◌, ◌*◌, ◌≤◌, ◌<◌}
use native.Mathlib.Numerals.{add-one}
use native.Mathlib.Omega.{arith}
use lib.ListN.{length, drop, get_or, drop_of_length-le}
use lib.Seq.{drop-cons}
use borrow.Author.Tests.{eq-eqb, ne_eqb}
use Rattle.book.specs.Counts.{contents_size, row_size, counts_of, count_in, rows_before, count_of_rows}
use Rattle.book.specs.Legs.{Leg, leg_of, legs_of}
use Rattle.book.specs.Refusals.{row_refusal, refused, first_refusal}
use Rattle.book.proofs.Placing.{before-none, before-next, before-all, before-within}
use Rattle.book.proofs.Walking.{bytes_at, legs_length, leg-at}

-- ---- where one stands: at the first row of a class
pub record AtClass (s : List ℕ) (class row : ℕ) : Type 0 where
  pub low : 1 ≤ class
  pub high : class ≤ 5
  pub begins : row ≡ rows_before (counts_of s) class
  pub within : row ≤ count_of_rows (counts_of s)

-- within a class, or at its end
pub record InClass (s : List ℕ) (class end row : ℕ) : Type 0 where
  pub low : 1 ≤ class
  pub high : class ≤ 4
  pub ends : end ≡ rows_before (counts_of s) (class + 1)
  pub within : end ≤ count_of_rows (counts_of s)
  pub from : rows_before (counts_of s) class ≤ row
  pub to : row ≤ end

module _ (s : List ℕ) where
  pub starts : AtClass s 1 0
  starts = record { low = omega arith; high = omega arith; begins = sym (before-none (counts_of s) 1 (omega arith)); within = omega arith }

  pub enters : (class row rows : ℕ) → AtClass s class row → class ≤ 4 → rows ≡ count_in (counts_of s) class → InClass s class (row + rows) row
  enters class row rows at high count =
      record {
        low = at.low;
        high = high;
        ends = omega (arith, at.begins, before-next (counts_of s) class);
        within = omega (arith, at.begins, before-within (counts_of s) class);
        from = omega (arith, at.begins);
        to = omega arith;
      }

  pub goes_on : (class end row : ℕ) → InClass s class end row → row < end → InClass s class end (row + 1)
  goes_on class end row at more =
      record { low = at.low; high = at.high; ends = at.ends; within = at.within; from = omega (arith, at.from); to = omega arith }

  pub next_class : (class end row : ℕ) → InClass s class end row → end ≤ row → AtClass s (class + 1) row
  next_class class end row at done =
      record {
        low = omega arith;
        high = omega (arith, at.high);
        begins = omega (arith, at.ends, at.to);
        within = omega (arith, at.within, at.to);
      }

  pub at_end : (class row : ℕ) → AtClass s class row → 4 < class → count_of_rows (counts_of s) ≡ row
  at_end class row at past = omega (arith, at.begins, before-all (counts_of s) class past)

  -- the leg where one stands
  pub record Stands (class row : ℕ) : Type 0 where
    pub within : row < length (legs_of s)
    pub is_leg : get_or (legs_of s) row (leg_of class []) ≡ leg_of class (bytes_at s row)

  pub leg-there : length s ≡ contents_size + row_size * count_of_rows (counts_of s) → (class end row : ℕ) → InClass s class end row → row < end → Stands class row
  leg-there sized class end row at more =
      record {
        within = omega (arith, at.within, legs_length s sized);
        is_leg = leg-at s sized class row at.low at.high at.from (omega (arith, at.ends));
      }

-- ---- leg by leg: the refusal of all legs is that of the legs from number n on
pub record Passed (legs : List Leg) (n : ℕ) : Type 0 where
  pub found : first_refusal 0 legs ≡ first_refusal n (drop n legs)

pub none_passed : (legs : List Leg) → Passed legs 0
none_passed legs = record { found = refl }

module _ (legs : List Leg) (n : ℕ) (leg none : Leg) (within : n < length legs) (is_leg : get_or legs n none ≡ leg) (passed : Passed legs n) where
  ahead : drop n legs ≡ leg ∷ drop (suc n) legs
  ahead = drop-cons legs n none within ∙ ap (λ (l : Leg). l ∷ drop (suc n) legs) is_leg

  pub passes : row_refusal leg.class leg.row ≡ 0 → Passed legs (n + 1)
  unfolding first_refusal
  passes clean = record { found = passed.found ∙ rw (ahead, eq-eqb _ _ clean, add-one n) }

  pub leaves : (row_refusal leg.class leg.row ≡ 0 → ⊥) → first_refusal 0 legs ≡ refused (row_refusal leg.class leg.row) n
  unfolding first_refusal
  leaves bad = passed.found ∙ rw (ahead, ne_eqb _ _ bad)

pub all_passed : (legs : List Leg) (n : ℕ) → length legs ≤ n → Passed legs n → first_refusal 0 legs ≡ refused 0 0
unfolding first_refusal
all_passed legs n past passed = passed.found ∙ rw (drop_of_length-le legs past)
