-- An array that is made by a call at each index, which leaves the closure as it was.
-- Assumes nothing.
use mathlib.Core.Path.{◌≡◌, refl, ap, subst, ◌∙◌}
use mathlib.Core.List.{List, [], ◌∷◌}
use Prim.Native.Nat.{ℕ, zero, suc, ◌+◌, ◌≤◌, ◌<◌}
use native.Mathlib.Decide.{ℕ_discrete}
use native.Mathlib.Omega.{arith}
use lib.ListN.{get_or}
use denote.Param.Members.{Mut, Called}
use Rattle.std.specs.Array.{IsFromFnResult, IsFromFnResultFrom}
use Rattle.std.specs.List.{sum}
use Rattle.std.proofs.lemmas.List.Sums.{sum_by-cons}
use Rattle.sums.specs.Sums.{sum_of}

module _ {F A : Type 0} (g : Mut F (ℕ × Unit {0}) A) (f : F) (h : ℕ → A) (d : A)
    (same : (i : ℕ) (y : A) (f' : F) → Called g f (i, tt) y f' → (y ≡ h i) × (f' ≡ f)) where
  made_from : (out : List A) (n i : ℕ) → IsFromFnResultFrom g f out i n → (k : ℕ) → i ≤ k
      → k < i + n → get_or out k d ≡ h k
  made_from out zero i calls k low high = let never : ⊥ = omega arith in absurd never
  made_from out (suc n) i (f', y, here, call, later) k low high =
      let next =
      subst (λ (s : F). IsFromFnResultFrom g s out (i + 1) n) (same i y f' call).1 later in
      go (ℕ_discrete k i) (λ low'. made_from out n (i + 1) next k low' (omega arith))
    where
      go : Dec (k ≡ i) → (i + 1 ≤ k → get_or out k d ≡ h k) → get_or out k d ≡ h k
      go (yes own) rest = rw own (here.1 d ∙ (same i y f' call).0)
      go (no other) rest = rest (omega arith)

  pub made : {out : List A} (n : ℕ) → IsFromFnResult g f out n → (k : ℕ) → k < n → get_or out k d ≡ h k
  made {out} n result k high = made_from out n 0 result.each k (omega arith) (omega arith)

-- ---- std's sum of a list
pub summed_entries : (list : List ℕ) → sum list ≡ sum_of (λ entry. entry) list
unfolding sum_of
summed_entries [] = refl
summed_entries (a ∷ list) = sum_by-cons (λ entry. entry) a list
    ∙ ap (λ (rest : ℕ). a + rest) (summed_entries list)
