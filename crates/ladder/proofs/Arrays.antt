-- The longs and the shorts of an array of positions.
-- Assumes nothing.
use mathlib.Core.Path.{◌≡◌, refl, sym, ap, ◌∙◌}
use mathlib.Core.List.{List, ◌∷◌}
use Prim.Native.Nat.{ℕ, zero, suc, ◌+◌}
use lib.ListN.{length, get_or, set, replicate, get_or-map, length-map}
use Rattle.std.proofs.lemmas.List.{map-set}
use Rattle.ladder.specs.Position.{Position, ◌⊕◌, empty}
use Rattle.ladder.specs.Inner.Steps.{bands, longs_of, shorts_of}
use Rattle.ladder.proofs.Matching.{same_position}

module _ (positions : List Position) where
  pub long_at : (k : ℕ) → get_or (longs_of positions) k 0 ≡ (bands positions k).long
  long_at k = get_or-map (λ (position : Position). position.long) positions k empty

  pub short_at : (k : ℕ) → get_or (shorts_of positions) k 0 ≡ (bands positions k).short
  short_at k = get_or-map (λ (position : Position). position.short) positions k empty

  -- a position more at an index
  module _ (at : ℕ) (more : Position) where
    pub longs_more : longs_of (set positions at (bands positions at ⊕ more))
        ≡ set (longs_of positions) at (get_or (longs_of positions) at 0 + more.long)
    longs_more =
        map-set (λ (position : Position). position.long) positions at _
        ∙ ap (λ (n : ℕ). set (longs_of positions) at (n + more.long)) (sym (long_at at))

    pub shorts_more : shorts_of (set positions at (bands positions at ⊕ more))
        ≡ set (shorts_of positions) at (get_or (shorts_of positions) at 0 + more.short)
    shorts_more =
        map-set (λ (position : Position). position.short) positions at _
        ∙ ap (λ (n : ℕ). set (shorts_of positions) at (n + more.short)) (sym (short_at at))

  -- as long as its longs
  pub sized_by : {longs : List ℕ} {n : ℕ} → longs_of positions ≡ longs → length longs ≡ n → length positions ≡ n
  sized_by is sized = sym (length-map positions _) ∙ ap length is ∙ sized

  -- the bands whose longs and shorts are known
  pub bands_by : {longs shorts : List ℕ} → longs_of positions ≡ longs → shorts_of positions ≡ shorts
      → (k : ℕ) → bands positions k ≡ record { long = get_or longs k 0; short = get_or shorts k 0 }
  bands_by is_longs is_shorts k =
      same_position (sym (long_at k) ∙ ap (λ (list : List ℕ). get_or list k 0) is_longs)
      (sym (short_at k) ∙ ap (λ (list : List ℕ). get_or list k 0) is_shorts)

-- no positions
pub no_longs : (n : ℕ) → longs_of (replicate n empty) ≡ replicate n 0
no_longs zero = refl
no_longs (suc n) = ap (λ (list : List ℕ). 0 ∷ list) (no_longs n)

pub no_shorts : (n : ℕ) → shorts_of (replicate n empty) ≡ replicate n 0
no_shorts zero = refl
no_shorts (suc n) = ap (λ (list : List ℕ). 0 ∷ list) (no_shorts n)
