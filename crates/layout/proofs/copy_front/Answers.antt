-- `layout::copy_front` meets its contract. The loop keeps that out is the first i bytes of src and then its own.
use mathlib.Core.Path.{◌≡◌, refl, ap, ◌∙◌}
use mathlib.Core.List.{List, [], ◌∷◌, ◌++◌}
use Prim.Native.Nat.{ℕ, zero, suc, ◌<◌}
use native.Mathlib.Nat.{le_of_suc-le-suc}
use native.Mathlib.Numerals.{add-one}
use native.Mathlib.Omega.{arith}
use lib.ListN.{length, take, drop, get_or, set, length-set}
use lib.Seq.{take-length}
use Rattle.layout.proofs.copy_front.Goals as goal

-- a turn's store takes the copy of i bytes to the copy of one more
store : (src out : List ℕ) (i : ℕ) → i < length src → i < length out → set (take i src ++ drop i out) i (get_or src i 0) ≡ take (suc i) src ++ drop (suc i) out
store [] out i h k = let no : ⊥ = omega arith in absurd no
store (x ∷ xs) [] i h k = let no : ⊥ = omega arith in absurd no
store (x ∷ xs) (y ∷ ys) zero h k = refl
store (x ∷ xs) (y ∷ ys) (suc i) h k = ap (λ (l : List ℕ). x ∷ l) (store xs ys i (le_of_suc-le-suc h) (le_of_suc-le-suc k))

pub loop-i-init : goal.loop-i-init
loop-i-init c = (refl, refl)

pub loop-i-preserved : goal.loop-i-preserved
loop-i-preserved c =
    let i = c.loop-i.i in
    let src = c.args.src.now in
    (rw (c.loop-i.invariant.0, add-one) (store src c.args.out.now i (omega arith) (omega arith)), rw length-set c.loop-i.invariant.1)

pub returns : goal.returns
returns c =
    let src = c.args.src.now in
    let all : c.loop-i.i ≡ length src = omega arith in
    c.loop-i.invariant.0 ∙ rw (all, take-length src)
