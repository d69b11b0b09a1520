-- One row's bytes, so many times.
-- Assumes nothing.
use mathlib.Core.Path.{◌≡◌, refl, sym, ap, ◌∙◌}
use mathlib.Core.List.{List, ◌++◌, flat_map, append-nil, append_assoc}
use Prim.Native.Nat.{ℕ, zero, suc, ◌+◌, ◌*◌, ◌≤◌, ◌<◌}
use native.Mathlib.Numerals.{add-one}
use native.Mathlib.Omega.{arith}
use lib.ListN.{length, length-append}
use Rattle.book.specs.declared.Row.{Row}
use Rattle.book.specs.Counts.{contents_size, row_size}
use Rattle.layout.specs.Files.{row_bytes}
use Rattle.layout.specs.Written.{written}
use Rattle.layout.proofs.Rows.{row_length}
use Rattle.layout.proofs.Writing.{written-nothing, written-more, written-length}
use Rattle.dearest.specs.Inner.Parts.{row_times}

module _ (row : Row) where
  pub times_length : (n : ℕ) → length (row_times n row) ≡ row_size * n
  unfolding row_times flat_map
  times_length zero = refl
  times_length (suc n) = rw length-append (omega (arith, row_length row, times_length n))

  -- once more, at the end
  times_next : (n : ℕ) → row_times (suc n) row ≡ row_times n row ++ row_bytes row
  unfolding row_times flat_map
  times_next zero = append-nil (row_bytes row)
  times_next (suc n) = ap (λ (bytes : List ℕ). row_bytes row ++ bytes) (times_next n) ∙ sym (append_assoc (row_bytes row) (row_times n row) (row_bytes row))

  -- ---- written row by row after the contents
  pub record Rows (rows : ℕ) (out₀ out : List ℕ) (at : ℕ) : Type 0 where
    pub within : at ≤ rows
    pub so_far : out ≡ written out₀ contents_size (row_times at row)

  module _ (rows : ℕ) (out₀ : List ℕ) (room : contents_size + row_size * rows ≤ length out₀) where
    pub no_rows : Rows rows out₀ out₀ 0
    unfolding row_times flat_map
    no_rows = record { within = omega arith; so_far = sym (written-nothing out₀ contents_size) }

    module _ {out : List ℕ} {at : ℕ} (done : Rows rows out₀ out at) where
      pub same_room : length out ≡ length out₀
      same_room =
          ap length done.so_far ∙ written-length out₀ (row_times at row) contents_size (omega (arith, times_length at, done.within))

      pub one_more : {out' : List ℕ} → at < rows → out' ≡ written out (contents_size + row_size * at) (row_bytes row) → Rows rows out₀ out' (at + 1)
      one_more more writes =
          record {
            within = omega arith;
            so_far = written-more out₀ (row_times at row) (row_bytes row) contents_size (contents_size + row_size * at) done.so_far writes (omega (arith, times_length at)) (omega (arith, row_length row))
                ∙ rw (add-one at, times_next at);
          }

      pub all_rows : rows ≤ at → out ≡ written out₀ contents_size (row_times rows row)
      all_rows past = let is : at ≡ rows = omega (arith, done.within) in done.so_far ∙ ap (λ (n : ℕ). written out₀ contents_size (row_times n row)) is
