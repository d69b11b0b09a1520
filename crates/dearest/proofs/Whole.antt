-- The dearest book: its rows, its length, and that it is accepted.
-- Assumes nothing.
use mathlib.Core.Path.{◌≡◌, refl, ap, ◌∙◌}
use mathlib.Core.Bool.{Bool, true, false, cond}
use mathlib.Core.Logic.{inl}
use mathlib.Core.List.{List, [], ◌∷◌, ◌++◌, flat_map, append-nil}
use Prim.Native.Nat.{ℕ, zero, suc, ◌+◌, ◌*◌, ◌≤◌}
use native.Mathlib.Omega.{arith}
use lib.Dec.{eqb}
use lib.ListN.{length, replicate, length-replicate}
use borrow.Author.Tests.{ltb-false, eqb-false}
use Rattle.sums.specs.Every.{Every, none}
use Rattle.sums.proofs.Cases.{neither}
use Rattle.sums.proofs.Every.{every_mapped, every_replicate}
use Rattle.book.specs.declared.Row.{Row}
use Rattle.book.specs.Counts.{contents_size, row_size, count_of_rows}
use Rattle.book.specs.Rows.{rows_of, decode}
use Rattle.book.specs.Legs.{Leg, legs_of, of_class}
use Rattle.book.specs.Refusals.{most_rows, most_amount, least_kind, most_kind, most_days, most_coupon, floating, refused}
use Rattle.book.specs.Accepted.{Clean, Accepted, plain}
use Rattle.book.proofs.Placing.{of_four}
use Rattle.book.proofs.Walking.{class_rows_lem, legs_length}
use Rattle.book.proofs.Acceptance.{legs_every}
use Rattle.layout.specs.Files.{contents_bytes, file_of, counts_by, book_by, book_of}
use Rattle.layout.proofs.Rows.{book_legs, book_length, book_accepted}
use Rattle.charges.specs.Report.{class_rows}
use Rattle.dearest.specs.Dearest.{dearest_row, dearest_book, limits_refusal}
use Rattle.dearest.specs.Inner.Parts.{interest_alone, row_times}

-- ---- the rows and the amount that the call takes
pub record Limits (rows most : ℕ) : Type 0 where
  pub few : rows ≤ most_rows
  pub some : 1 ≤ most
  pub within : most ≤ most_amount

pub limits : (rows most : ℕ) → (limits_refusal rows most).number ≡ 0 → Limits rows most
unfolding limits_refusal refused
limits rows most e =
    let parts = neither _ _ (go _ e) in
    let amounts = neither _ _ parts.1 in
    record { few = ltb-false _ _ parts.0; some = positive (eqb-false _ _ amounts.0); within = ltb-false _ _ amounts.1 }
  where
    go : (test : Bool) → (cond test (refused 22 0) (refused 0 0)).number ≡ 0 → test ≡ false
    go true e = let never : ⊥ = omega arith in absurd never
    go false e = refl

    positive : (most ≡ 0 → ⊥) → 1 ≤ most
    positive some = omega arith

-- ---- one leg, so many times
module _ (n : ℕ) (row : Row) where
  abbrev legs : List Leg
  legs = replicate n (record { class = 1; row = row })

own_rows : (n : ℕ) (row : Row) → of_class 1 (legs n row) ≡ replicate n row
unfolding of_class
own_rows zero row = refl
own_rows (suc n) row = ap (λ (rows : List Row). row ∷ rows) (own_rows n row)

other_rows : (class n : ℕ) (row : Row) → eqb 1 class ≡ false → of_class class (legs n row) ≡ []
unfolding of_class
other_rows class zero row e = refl
other_rows class (suc n) row e = simp e (other_rows class n row e)

-- ---- the book
module _ (rows most : ℕ) where
  -- what holds of the row and of no rows holds of the rows of each class
  each_class_lem : (P : ℕ → List Row → Type 0) → P 1 (replicate rows (dearest_row most)) → P 2 [] → P 3 [] → P 4 []
      → (class : ℕ) → 1 ≤ class → class ≤ 4 → P class (of_class class (legs rows (dearest_row most)))
  each_class_lem P one two three four =
      of_four (λ class. P class (of_class class (legs rows (dearest_row most))))
      (rw (own_rows rows (dearest_row most)) one)
      (rw (other_rows 2 rows (dearest_row most) refl) two)
      (rw (other_rows 3 rows (dearest_row most) refl) three)
      (rw (other_rows 4 rows (dearest_row most) refl) four)

  row_count : count_of_rows (counts_by (λ class. of_class class (legs rows (dearest_row most)))) ≡ rows
  unfolding count_of_rows counts_by
  row_count =
      rw (
        own_rows rows (dearest_row most),
        other_rows 2 rows (dearest_row most) refl,
        other_rows 3 rows (dearest_row most) refl,
        other_rows 4 rows (dearest_row most) refl,
      )
      (omega (arith, length-replicate rows (dearest_row most)))

  class_legs_lem : (class : ℕ) → 1 ≤ class → class ≤ 4 → class_rows (dearest_book rows most) class ≡ of_class class (legs rows (dearest_row most))
  unfolding dearest_book book_of
  class_legs_lem = book_legs (λ class. of_class class (legs rows (dearest_row most)))

  pub dearest_rows : class_rows (dearest_book rows most) 1 ≡ replicate rows (dearest_row most)
  dearest_rows = class_legs_lem 1 (omega arith) (omega arith) ∙ own_rows rows (dearest_row most)

  pub dearest_length : length (dearest_book rows most) ≡ contents_size + row_size * rows
  unfolding dearest_book book_of
  dearest_length = book_length (λ class. of_class class (legs rows (dearest_row most))) ∙ ap (λ (n : ℕ). contents_size + row_size * n) row_count

  -- its bytes: the contents and then the row, so many times
  pub dearest_bytes : dearest_book rows most ≡ contents_bytes (interest_alone rows) ++ row_times rows (dearest_row most)
  unfolding dearest_book book_of book_by file_of flat_map counts_by interest_alone row_times
  dearest_bytes =
      simp (
        own_rows rows (dearest_row most),
        other_rows 2 rows (dearest_row most) refl,
        other_rows 3 rows (dearest_row most) refl,
        other_rows 4 rows (dearest_row most) refl,
        length-replicate rows (dearest_row most),
        append-nil,
      )

  -- what holds of the row holds of all legs
  pub dearest_legs : (P : Row → Type 0) → P (dearest_row most) → Every (λ leg. P leg.row) (legs_of (dearest_book rows most))
  dearest_legs P p =
      legs_every (dearest_book rows most) (λ class low high.
      every_mapped {Q = P} decode (λ bytes holds. holds) (rows_of (dearest_book rows most) class)
      (rw (← class_rows_lem (dearest_book rows most) class low high, class_legs_lem class low high)
      (each_class_lem (λ class list. Every P list) (every_replicate P rows (dearest_row most) p) none none none class low high)))

  module _ (ok : Limits rows most) where
    row_clean : Clean 1 (dearest_row most)
    unfolding dearest_row least_kind most_kind most_days most_coupon floating
    row_clean =
        record {
          group = omega arith;
          kind_from = omega arith;
          kind_to = omega arith;
          terms = plain refl (omega arith) (omega arith);
          one_side = inl (ok.some, refl);
          long = ok.within;
          short = omega arith;
        }

    pub dearest_accepted : Accepted (dearest_book rows most)
    unfolding dearest_book book_of
    dearest_accepted =
        book_accepted (λ class. of_class class (legs rows (dearest_row most))) (omega (arith, row_count, ok.few))
        (each_class_lem (λ class list. Every (Clean class) list) (every_replicate (Clean 1) rows (dearest_row most) row_clean) none none none)

    pub dearest_many : length (legs_of (dearest_book rows most)) ≡ rows
    dearest_many =
        let sized = dearest_accepted.sized in
        omega (arith, legs_length (dearest_book rows most) sized, sized, dearest_length)
