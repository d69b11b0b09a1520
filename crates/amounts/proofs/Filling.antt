-- The rows' own amounts put at their numbers, row by row and then class by class.
-- Assumes nothing.
use mathlib.Core.Path.{◌≡◌, refl, ap, ◌∙◌}
use mathlib.Core.List.{List}
use Prim.Native.Nat.{ℕ, ◌+◌, ◌-◌, ◌≤◌, ◌<◌}
use native.Mathlib.Decide.{ℕ_discrete, dec_le}
use native.Mathlib.Numerals.{lt_of_le_of_ne}
use native.Mathlib.Omega.{arith}
use lib.ListN.{length, get_or, set}
use Rattle.sums.proofs.Every.{every_at}
use Rattle.book.specs.declared.Row.{Row}
use Rattle.book.specs.Counts.{counts_of, count_in, rows_before}
use Rattle.book.specs.Legs.{legs_of, of_class}
use Rattle.book.specs.Refusals.{most_rows, most_amount}
use Rattle.book.specs.Accepted.{Accepted}
use Rattle.book.proofs.Placing.{before-none, before-next, before-all, before-within, rows_apart}
use Rattle.book.proofs.ClassRows.{no_row, class_size, rows_clean}
use Rattle.ladder.specs.Position.{gross}
use Rattle.amounts.specs.declared.positions.Amounts.{Amounts}
use Rattle.amounts.specs.Inner.Standing.{positions_in, Stands}
use Rattle.amounts.specs.Inner.Own.{amounts_of, OwnIn}
use Rattle.amounts.proofs.Standing.{clean_within, own_standing}
use Rattle.amounts.proofs.Tables.{put_here, put_other}

-- ---- a loop over the rows of a class: those before this one stand at their numbers
module _ (first : ℕ) (rows : List Row) (amounts₀ : Amounts) where
  pub record Filled (row : ℕ) (amounts : Amounts) : Type 0 where
    pub here : (k : ℕ) → k < row → positions_in amounts (first + k) ≡ amounts_of (get_or rows k no_row)
    pub before : (k : ℕ) → k < first → positions_in amounts k ≡ positions_in amounts₀ k

  pub filled_none : Filled 0 amounts₀
  filled_none = record { here = λ k h. let never : ⊥ = omega arith in absurd never; before = λ k h. refl }

  pub filled_next : (row : ℕ) (amounts amounts' : Amounts) → Filled row amounts → first + row < most_rows
      → amounts'.rows ≡ set amounts.rows (first + row) (amounts_of (get_or rows row no_row)) → Filled (row + 1) amounts'
  filled_next row amounts amounts' now room is =
      record {
        here = λ k h. go k (omega arith) (ℕ_discrete k row);
        before = λ k h. put_other amounts amounts' (first + row) _ is k (λ e. omega arith) ∙ now.before k h;
      }
    where
      go : (k : ℕ) → k ≤ row → Dec (k ≡ row) → positions_in amounts' (first + k) ≡ amounts_of (get_or rows k no_row)
      go k h (yes own) = rw own (put_here amounts amounts' (first + row) _ is room)
      go k h (no other) = put_other amounts amounts' (first + row) _ is (first + k) (λ e. other (omega arith)) ∙ now.here k (omega arith)

  pub filled_all : (row : ℕ) {amounts : Amounts} → Filled row amounts → length rows ≤ row → OwnIn first rows amounts₀ amounts
  filled_all row now past = record { here = λ k h. now.here k (omega arith); before = now.before }

-- ---- a loop over the classes of an accepted book
module _ (s : List ℕ) where
  abbrev first : ℕ → ℕ
  first class = rows_before (counts_of s) class

  abbrev rows : ℕ → List Row
  rows class = of_class class (legs_of s)

  pub record FilledTo (class : ℕ) (amounts : Amounts) : Type 0 where
    pub low : 1 ≤ class
    pub high : class ≤ 5
    pub here : (other : ℕ) → 1 ≤ other → other < class → (k : ℕ) → k < length (rows other) → positions_in amounts (first other + k) ≡ amounts_of (get_or (rows other) k no_row)
    pub within : (k : ℕ) → k < first class → gross (positions_in amounts k) ≤ most_amount

  pub to_none : {amounts : Amounts} → FilledTo 1 amounts
  to_none =
      record {
        low = omega arith;
        high = omega arith;
        here = λ other low high. let never : ⊥ = omega arith in absurd never;
        within = λ k h. let never : ⊥ = omega (arith, before-none (counts_of s) 1 (omega arith)) in absurd never;
      }

  module _ (ok : Accepted s) where
    module _ (class : ℕ) (amounts : Amounts) (now : FilledTo class amounts) (more : class ≤ 4) where
      abbrev size : length (rows class) ≡ count_in (counts_of s) class
      size = class_size s ok class now.low more

      pub class_room : first class + length (rows class) ≤ most_rows
      class_room = omega (arith, size, before-within (counts_of s) class, ok.few)

      pub to_next : {amounts' : Amounts} → OwnIn (first class) (rows class) amounts amounts' → FilledTo (class + 1) amounts'
      to_next {amounts'} did =
          record {
            low = omega arith;
            high = omega arith;
            here = λ other low high k h. go other low k h (ℕ_discrete other class) (omega arith);
            within = λ k h. bound k (omega (arith, before-next (counts_of s) class, size)) (dec_le (first class) k);
          }
        where
          go : (other : ℕ) → 1 ≤ other → (k : ℕ) → k < length (rows other) → Dec (other ≡ class) → other ≤ class
              → positions_in amounts' (first other + k) ≡ amounts_of (get_or (rows other) k no_row)
          go other low k h (yes own) below = rw own (did.here k (rw own at h))
          go other low k h (no differ) below =
              let before = lt_of_le_of_ne below differ in
              did.before (first other + k) (omega (arith, rows_apart (counts_of s) other class before, class_size s ok other low (omega arith))) ∙ now.here other low before k h

          bound : (k : ℕ) → k < first class + length (rows class) → Dec (first class ≤ k) → gross (positions_in amounts' k) ≤ most_amount
          bound k h (yes from) =
              let place : first class + (k - first class) ≡ k = omega (arith, from) in
              let inside : k - first class < length (rows class) = omega (arith, from) in
              let is = rw place at (did.here (k - first class) inside) in
              omega (arith, ap gross is, clean_within (every_at (rows_clean s ok class now.low more) (k - first class) no_row inside))
          bound k h (no below) = omega (arith, ap gross (did.before k (omega (arith, below))), now.within k (omega (arith, below)))

    pub to_all : (class : ℕ) {amounts : Amounts} → FilledTo class amounts → 5 ≤ class → Stands s rows amounts
    to_all class {amounts} now past =
        record {
          can = record { within = λ k h. now.within k (omega (arith, before-all (counts_of s) class past)) };
          each = λ other low high.
              own_standing (positions_in amounts) _ (rows other) (rows_clean s ok other low high) (now.here other low (omega arith));
        }
