-- Pieces of a file one for each class, and a loop that writes them one after the other.
-- Assumes nothing.
use mathlib.Core.Path.{◌≡◌, refl, sym, ap, ◌∙◌}
use mathlib.Core.List.{List, ◌++◌, flat_map}
use Prim.Native.Nat.{ℕ, ◌+◌, ◌≤◌, ◌<◌}
use native.Mathlib.Numerals.{add-one}
use native.Mathlib.Omega.{arith}
use lib.ListN.{length, length-append}
use Rattle.book.specs.Counts.{classes}
use Rattle.book.proofs.Placing.{from_class, from_first, from_next, from_last}
use Rattle.layout.specs.Written.{written}
use Rattle.layout.proofs.Writing.{written-length, written_after, written-nothing}

-- the pieces before a class are written from start to at, and writing what is left makes the whole
pub record Writes (piece : ℕ → List ℕ) (out₀ : List ℕ) (start : ℕ) (out : List ℕ) (at class : ℕ) : Type 0 where
  pub low : 1 ≤ class
  pub high : class ≤ 5
  pub same : length out ≡ length out₀
  pub room : at + length (from_class piece class) ≤ length out
  pub whole : written out at (from_class piece class) ≡ written out₀ start (flat_map piece classes)

next_piece : (piece : ℕ → List ℕ) (class : ℕ) → 1 ≤ class → class ≤ 4 → from_class piece class ≡ piece class ++ from_class piece (class + 1)
next_piece piece class low high = rw (add-one class) (from_next piece class low high)

module _ (piece : ℕ → List ℕ) (out₀ : List ℕ) (start : ℕ) where
  pub begins : start + length (flat_map piece classes) ≤ length out₀ → Writes piece out₀ start out₀ start 1
  begins h = record { low = omega arith; high = omega arith; same = refl; room = rw (from_first piece) h; whole = rw (from_first piece) }

  module _ (out : List ℕ) (at class : ℕ) (now : Writes piece out₀ start out at class) where
    -- the piece of a class has room
    pub piece_room : class ≤ 4 → at + length (piece class) + length (from_class piece (class + 1)) ≤ length out
    piece_room h =
        let size = simp length-append at (ap length (next_piece piece class now.low h)) in
        omega (arith, now.room)

    pub writes-next : class ≤ 4 → (out' : List ℕ) (at' : ℕ) → out' ≡ written out at (piece class) → at' ≡ at + length (piece class)
        → Writes piece out₀ start out' at' (class + 1)
    writes-next h out' at' e place =
        let fits = piece_room h in
        let same : length out' ≡ length out = ap length e ∙ written-length out (piece class) at (omega arith) in
        record {
          low = omega arith;
          high = omega arith;
          same = same ∙ now.same;
          room = omega arith;
          whole =
              rw (e, place) (written_after out (piece class) (from_class piece (class + 1)) at fits)
              ∙ ap (written out at) (sym (next_piece piece class now.low h))
              ∙ now.whole;
        }

    pub all_written : 4 < class → out ≡ written out₀ start (flat_map piece classes)
    all_written h =
        let last : class ≡ 5 = omega (arith, now.high) in
        sym (written-nothing out at) ∙ rw (last, from_last piece) at now.whole
