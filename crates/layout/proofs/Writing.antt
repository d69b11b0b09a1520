-- Laws of bytes written over a list.
-- Assumes nothing.
use mathlib.Core.Path.{◌≡◌, ap, ◌∙◌}
use mathlib.Core.List.{List, [], ◌++◌, append-nil, append_assoc}
use Prim.Native.Nat.{ℕ, ◌+◌, ◌-◌, ◌≤◌}
use native.Mathlib.Nat.{add_assoc, add-zero}
use native.Mathlib.Omega.{arith}
use lib.ListN.{length, take, drop, length-drop, length-append, drop_of_length-le, take-append-drop}
use lib.Seq.{take_all, drop-drop, take_at, drop_at, length-take-le}
use Rattle.layout.specs.Written.{written}

module _ (out src : List ℕ) (at : ℕ) (within : at + length src ≤ length out) where
  -- what the copier leaves of the part that is lent to it, put back into the whole
  pub put_back : take at out ++ ((src ++ drop (length src) (take (length out - at) (drop at out))) ++ drop (length out - at) (drop at out)) ≡ written out at src
  unfolding written
  put_back =
      let short : length (drop at out) ≤ length out - at = simp length-drop (omega arith) in
      rw (take_all (length out - at) (drop at out) short, drop_of_length-le (drop at out) short, append-nil, drop-drop)

  pub written-length : length (written out at src) ≡ length out
  unfolding written
  written-length = simp (length-append, length-drop, length-take-le at out (omega arith)) (omega arith)

-- two writings one after the other are one
pub written_after : (out a b : List ℕ) (at : ℕ) → at + length a + length b ≤ length out → written (written out at a) (at + length a) b ≡ written out at (a ++ b)
unfolding written
written_after out a b at within =
    let front : length (take at out ++ a) ≡ at + length a = simp (length-append, length-take-le at out (omega arith)) in
    let rest = drop (at + length a) out in
    let head : take (at + length a) (take at out ++ (a ++ rest)) ≡ take at out ++ a =
    rw (← append_assoc (take at out) a rest) (take_at (take at out ++ a) rest (at + length a) front) in
    let tail : drop (at + length a + length b) (take at out ++ (a ++ rest)) ≡ drop (at + length a + length b) out =
    rw (← drop-drop (length b) (at + length a) (take at out ++ (a ++ rest)), ← append_assoc (take at out) a rest)
    (ap (drop (length b)) (drop_at (take at out ++ a) rest (at + length a) front) ∙ drop-drop (length b) (at + length a) out) in
    rw (head, tail, length-append, ← add_assoc) (simp append_assoc)

-- what was written so far, and one piece more
pub written-more : (out : List ℕ) {out' out'' : List ℕ} (done piece : List ℕ) (at mid : ℕ) → out' ≡ written out at done → out'' ≡ written out' mid piece
    → mid ≡ at + length done → mid + length piece ≤ length out → out'' ≡ written out at (done ++ piece)
written-more out done piece at mid e f place room =
    f ∙ rw (e, place) (written_after out done piece at (rw place at room))

pub written-nothing : (out : List ℕ) (at : ℕ) → written out at [] ≡ out
unfolding written
written-nothing out at = rw add-zero (take-append-drop at out)

-- a list as long as the output takes the place of all of it
pub written-whole : (out src : List ℕ) → length src ≡ length out → written out 0 src ≡ src
unfolding written
written-whole out src same = rw (drop_of_length-le out {i = 0 + length src} (omega arith)) (append-nil src)
