-- A part that is cut at the end of a list.
-- Assumes nothing.
use mathlib.Core.Path.{◌≡◌, sym, ◌∙◌}
use mathlib.Core.List.{List}
use Prim.Native.Nat.{ℕ, ◌+◌, ◌-◌, ◌≤◌, min}
use native.Mathlib.Decide.{dec_le}
use native.Mathlib.Omega.{arith}
use lib.ListN.{length, take, drop, length-drop, drop_of_length-le}
use lib.Seq.{take_all, take-nil}

pub cut : (s : List ℕ) (first size : ℕ)
    → take (min (first + size) (length s) - min first (length s)) (drop (min first (length s)) s) ≡ take size (drop first s)
cut s first size = go (dec_le first (length s)) (dec_le (first + size) (length s))
  where
    go : Dec (first ≤ length s) → Dec (first + size ≤ length s)
        → take (min (first + size) (length s) - min first (length s)) (drop (min first (length s)) s) ≡ take size (drop first s)
    go (yes starts) (yes ends) =
        let start : min first (length s) ≡ first = omega arith in
        let many : min (first + size) (length s) - first ≡ size = omega arith in
        rw (start, many)
    go (yes starts) (no cut_off) =
        let start : min first (length s) ≡ first = omega arith in
        let short : length (drop first s) ≤ min (first + size) (length s) - first = simp length-drop (omega arith) in
        let shorter : length (drop first s) ≤ size = simp length-drop (omega arith) in
        rw start (take_all _ (drop first s) short ∙ sym (take_all size (drop first s) shorter))
    go (no past) d =
        let none : min (first + size) (length s) - min first (length s) ≡ 0 = omega arith in
        let beyond : length s ≤ first = omega arith in
        rw (none, drop_of_length-le s beyond, take-nil)
