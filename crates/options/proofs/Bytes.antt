-- The rows of a class that options give, and their bytes: one option more, how many they are, and how they are written one by one.
-- Assumes nothing.
use mathlib.Core.Path.{◌≡◌, refl, sym, ap, ◌∙◌}
use mathlib.Core.Bool.{Bool, true, false, cond, not, ◌&&◌}
use mathlib.Core.List.{List, [], ◌∷◌, ◌++◌, map, flat_map, append-nil, append_assoc}
use Prim.Native.Nat.{ℕ, ◌+◌, ◌-◌, ◌*◌, ◌≤◌, ◌<◌}
use native.Mathlib.Omega.{arith}
use lib.Dec.{eqb}
use lib.ListN.{length, length-append}
use Rattle.sums.specs.Sums.{sum_of, span}
use Rattle.sums.proofs.Spans.{sum_grows}
use Rattle.book.specs.declared.Row.{Row}
use Rattle.book.specs.Counts.{row_size}
use Rattle.book.specs.Legs.{of_class}
use Rattle.layout.specs.Files.{row_bytes}
use Rattle.layout.specs.Written.{written}
use Rattle.layout.proofs.Rows.{row_length, rows_length}
use Rattle.layout.proofs.Writing.{written-nothing, written-more, written-length}
use Rattle.options.specs.Table.{OptionRow, option_count, option_at, options_of}
use Rattle.options.specs.Delta.{delta_leg, delta_legs}
use Rattle.options.specs.Inner.Reading.{options_to}
use Rattle.options.specs.Inner.Writing.{gives_row, delta_rows, delta_bytes}
use Rattle.options.proofs.Walking.{to_next, to_all}

flat_map_append : {A : Type 0} (f : A → List ℕ) (xs ys : List A) → flat_map f (xs ++ ys) ≡ flat_map f xs ++ flat_map f ys
unfolding flat_map
flat_map_append f [] ys = refl
flat_map_append f (x ∷ xs) ys = rw (flat_map_append f xs ys) (sym (append_assoc (f x) (flat_map f xs) (flat_map f ys)))

module _ (class : ℕ) where
  -- ---- one option
  rows_one : (option : OptionRow) (options : List OptionRow)
      → delta_rows class (option ∷ options) ≡ cond (gives_row class option) ((delta_leg option).row ∷ delta_rows class options) (delta_rows class options)
  unfolding delta_rows delta_legs of_class gives_row delta_leg
  rows_one option options = go (eqb option.delta 0)
    where
      own : (of_class_lem : Bool) (row : Row) (rows : List Row) → cond of_class_lem (row ∷ rows) rows ≡ cond (of_class_lem && true) (row ∷ rows) rows
      own true row rows = refl
      own false row rows = refl

      never : (of_class_lem : Bool) (row : Row) (rows : List Row) → rows ≡ cond (of_class_lem && false) (row ∷ rows) rows
      never true row rows = refl
      never false row rows = refl

      go : (zero : Bool) → of_class class (cond zero (delta_legs options) (delta_leg option ∷ delta_legs options))
          ≡ cond (eqb option.class class && not zero) ((delta_leg option).row ∷ of_class class (delta_legs options)) (of_class class (delta_legs options))
      go true = never (eqb option.class class) _ _
      go false = own (eqb option.class class) _ _

  rows_none : delta_rows class [] ≡ []
  unfolding delta_rows delta_legs of_class
  rows_none = refl

  -- ---- one option more
  pub rows_next : (options : List OptionRow) (option : OptionRow)
      → delta_rows class (options ++ (option ∷ [])) ≡ delta_rows class options ++ cond (gives_row class option) ((delta_leg option).row ∷ []) []
  rows_next [] option = rw (rows_one option [], rows_none)
  rows_next (first ∷ options) option =
      rw (rows_one first (options ++ (option ∷ [])), rows_one first options, rows_next options option) (go (gives_row class first) (delta_rows class options) _)
    where
      go : (gives : Bool) (rows more : List Row) → cond gives ((delta_leg first).row ∷ (rows ++ more)) (rows ++ more) ≡ cond gives ((delta_leg first).row ∷ rows) rows ++ more
      go true rows more = refl
      go false rows more = refl

  -- ---- how many
  abbrev pub one_row : OptionRow → ℕ
  one_row option = cond (gives_row class option) 1 0

  pub bytes_length : (options : List OptionRow) → length (delta_bytes class options) ≡ row_size * length (delta_rows class options)
  unfolding delta_bytes
  bytes_length options = rows_length (delta_rows class options)

  module _ (s : List ℕ) (row : ℕ) where
    pub count_next : length (delta_rows class (options_to s (row + 1))) ≡ length (delta_rows class (options_to s row)) + one_row (option_at s row)
    count_next = rw (to_next s row, rows_next, length-append) (go (gives_row class (option_at s row)))
      where
        go : (gives : Bool) → length (delta_rows class (options_to s row)) + length (cond gives ((delta_leg (option_at s row)).row ∷ []) []) ≡ length (delta_rows class (options_to s row)) + cond gives 1 0
        go true = refl
        go false = refl

    pub bytes_same : gives_row class (option_at s row) ≡ false → delta_bytes class (options_to s (row + 1)) ≡ delta_bytes class (options_to s row)
    unfolding delta_bytes
    bytes_same none = ap (flat_map row_bytes) (rw (to_next s row, rows_next, none) (append-nil _))

    pub bytes_more : gives_row class (option_at s row) ≡ true
        → delta_bytes class (options_to s (row + 1)) ≡ delta_bytes class (options_to s row) ++ row_bytes (delta_leg (option_at s row)).row
    unfolding delta_bytes flat_map
    bytes_more some = rw (to_next s row, rows_next, some, flat_map_append) (rw append-nil)

  pub count_none : (s : List ℕ) → 0 ≡ length (delta_rows class (options_to s 0))
  unfolding span
  count_none s = rw rows_none

  -- of rows of any numbers
  module _ (s : List ℕ) where
    pub rows_many : (numbers : List ℕ) → length (delta_rows class (map (option_at s) numbers)) ≡ sum_of (λ k. one_row (option_at s k)) numbers
    unfolding sum_of
    rows_many [] = ap length rows_none
    rows_many (k ∷ numbers) = rw (rows_one (option_at s k) (map (option_at s) numbers)) (go (gives_row class (option_at s k)) (delta_rows class (map (option_at s) numbers)) (rows_many numbers))
      where
        go : (gives : Bool) (rows : List Row) {sum : ℕ} → length rows ≡ sum
            → length (cond gives ((delta_leg (option_at s k)).row ∷ rows) rows) ≡ cond gives 1 0 + sum
        go true rows e = omega arith
        go false rows e = omega arith

    -- no more than there are in the end
    count_within : (row : ℕ) → row ≤ option_count s → length (delta_rows class (options_to s row)) ≤ length (delta_rows class (options_of s))
    count_within row within =
        let rest : row + (option_count s - row) ≡ option_count s = omega arith in
        let counted : ℕ → ℕ = λ k. one_row (option_at s k) in
        let end = rw rest at (sum_grows counted row (option_count s - row)) in
        rw (← to_all s {row = option_count s} refl) (omega (arith, rows_many (span 0 row), rows_many (span 0 (option_count s)), end))

  -- ---- written one by one
  pub record Rows (s : List ℕ) (at : ℕ) (out₀ out : List ℕ) (end row : ℕ) : Type 0 where
    pub is_end : end ≡ at + length (delta_bytes class (options_to s row))
    pub so_far : out ≡ written out₀ at (delta_bytes class (options_to s row))

  module _ (s : List ℕ) (at : ℕ) (out₀ : List ℕ) where
    pub no_rows : Rows s at out₀ out₀ at 0
    unfolding delta_bytes flat_map span
    no_rows = record { is_end = rw rows_none (omega arith); so_far = rw rows_none (sym (written-nothing out₀ at)) }

    module _ {out : List ℕ} {end row : ℕ} (done : Rows s at out₀ out end row) where
      pub row_fits : at + length (delta_bytes class (options_of s)) ≤ length out₀ → row < option_count s → gives_row class (option_at s row) ≡ true → end + row_size ≤ length out₀
      row_fits fits more some =
          let one : length (delta_rows class (options_to s (row + 1))) ≡ length (delta_rows class (options_to s row)) + 1 = rw some at (count_next s row) in
          omega (arith, fits, done.is_end, bytes_length (options_of s), bytes_length (options_to s row), count_within s (row + 1) (omega arith), one)

      pub row_passed : gives_row class (option_at s row) ≡ false → Rows s at out₀ out end (row + 1)
      row_passed none = let same = bytes_same s row none in record { is_end = rw same done.is_end; so_far = rw same done.so_far }

      pub row_written : gives_row class (option_at s row) ≡ true → end + row_size ≤ length out₀
          → {out' : List ℕ} → out' ≡ written out end (row_bytes (delta_leg (option_at s row)).row) → Rows s at out₀ out' (end + row_size) (row + 1)
      row_written some fits writes =
          let more = bytes_more s row some in
          let size = row_length (delta_leg (option_at s row)).row in
          record {
            is_end = rw (more, length-append) (omega (arith, done.is_end, size));
            so_far = rw more (written-more out₀ _ _ at end done.so_far writes done.is_end (omega (arith, fits, size)));
          }

      pub same_room : at + length (delta_bytes class (options_of s)) ≤ length out₀ → row ≤ option_count s → length out ≡ length out₀
      same_room fits within =
          let so_far_fits : at + length (delta_bytes class (options_to s row)) ≤ length out₀ =
          omega (arith, fits, bytes_length (options_of s), bytes_length (options_to s row), count_within s row within) in
          ap length done.so_far ∙ written-length out₀ (delta_bytes class (options_to s row)) at so_far_fits

      pub all_rows : row ≡ option_count s → (end ≡ at + length (delta_bytes class (options_of s))) × (out ≡ written out₀ at (delta_bytes class (options_of s)))
      all_rows last = let all = to_all s last in (rw (← all) done.is_end, rw (← all) done.so_far)
