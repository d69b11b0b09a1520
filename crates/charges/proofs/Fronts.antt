-- A sum and a table of sums over the front of a list: one more stays within the sum of the whole front.
-- Assumes nothing.
use mathlib.Core.Path.{◌≡◌, refl, ap, ◌∙◌}
use mathlib.Core.List.{List, [], ◌∷◌}
use Prim.Native.Nat.{ℕ, ◌+◌, ◌-◌, ◌≤◌, ◌<◌}
use native.Mathlib.Numerals.{add-one}
use native.Mathlib.Omega.{arith}
use lib.ListN.{length, take, drop, get_or, replicate}
use lib.Seq.{take-suc, take-add}
use Rattle.sums.specs.Sums.{sum_of}
use Rattle.sums.specs.Inner.Tables.{tally}
use Rattle.sums.proofs.Sums.{sum_of_append, sum_at≤}
use Rattle.sums.proofs.Tables.{tallied}

-- the next of a list's first `many`
module _ (cost : ℕ → ℕ) (list : List ℕ) (many i one : ℕ) (h : i < many) (sized : many ≤ length list) (is : one ≡ cost (get_or list i 0)) where
  front_next : sum_of cost (take (i + 1) list) ≡ sum_of cost (take i list) + one
  unfolding sum_of
  front_next = rw (add-one i, take-suc list i 0 (omega (arith, sized))) (omega (arith, is, sum_of_append cost (take i list) (get_or list i 0 ∷ [])))

  -- the sum of those before it has room for it
  pub front_room : {sum : ℕ} → sum ≡ sum_of cost (take i list) → sum + one ≤ sum_of cost (take many list)
  front_room so_far =
      let rest : i + 1 + (many - (i + 1)) ≡ many = omega arith in
      omega (
        arith,
        so_far,
        front_next,
        sum_of_append cost (take (i + 1) list) (take (many - (i + 1)) (drop (i + 1) list)),
        ap (sum_of cost) (take-add (i + 1) (many - (i + 1)) list),
        ap (λ (n : ℕ). sum_of cost (take n list)) rest,
      )

  -- and so has its entry of a table of n sums, to which each of those before it was added at its own number
  pub fronted_room : (n : ℕ) {table : List ℕ} → table ≡ tally (λ g. g) cost (replicate n 0) (take i list) → get_or list i 0 < n
      → get_or table (get_or list i 0) 0 + one ≤ sum_of cost (take many list)
  fronted_room n so_far below =
      omega (
        arith,
        ap (λ (t : List ℕ). get_or t (get_or list i 0) 0) so_far ∙ tallied (λ g. g) cost n (take i list) (get_or list i 0) below,
        sum_at≤ (λ g. g) cost (get_or list i 0) (take i list),
        front_room refl,
      )
