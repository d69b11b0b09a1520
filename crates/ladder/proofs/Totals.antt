-- Longs against shorts over any number of bands: for each zone of each ladder, and for the groups of equity and foreign exchange.
-- Assumes nothing.
use Prim.Native.Nat.{ℕ, suc, ◌+◌, ◌≤◌, ◌<◌}
use mathlib.Core.Path.{◌≡◌, refl, sym, ap, ap₂, ◌∙◌}
use mathlib.Core.List.{List, [], ◌∷◌, ◌++◌}
use native.Mathlib.Decide.{le_ind}
use native.Mathlib.Nat.{le_refl, zero-add}
use native.Mathlib.Omega.{arith}
use Rattle.sums.specs.Sums.{sum_of, span}
use Rattle.sums.proofs.Sums.{sum_of_plus}
use Rattle.sums.proofs.Spans.{span_last}
use Rattle.ladder.specs.Position.{Position, Bands, ◌⊕◌, gross, net, absolute_net, matched, total, vertical, band_nets}
use Rattle.ladder.proofs.Matching.{Takes, mirrored, same_position, empty-plus, plus_assoc, plus_shuffle, takes_matched, takes_both, takes_net}
use Rattle.ladder.proofs.Matching.{net-joined, absolute_net-joined, matched-mirrored, net-mirrored}

infixl 65 ◌⊞◌
-- the bands of two books added
abbrev pub ◌⊞◌ : Bands → Bands → Bands
◌⊞◌ f g = λ k. f k ⊕ g k

-- long and short exchanged in every band
abbrev pub mirror : Bands → Bands
mirror f = λ k. mirrored (f k)

-- step 1 over all bands of a zone
pub takes_vertical : (f : Bands) (zone : List ℕ) → Takes (vertical f zone) (total f zone) (band_nets f zone)
unfolding total vertical
takes_vertical f [] = omega arith
takes_vertical f (k ∷ zone) = takes_both (takes_matched (f k)) (takes_vertical f zone)

-- a zone's net is the same, whether or not its bands are netted first
pub zone_net_lem : (f : Bands) (zone : List ℕ) → net (band_nets f zone) ≡ net (total f zone)
zone_net_lem f zone = sym (takes_net (takes_vertical f zone))

-- ---- zones put together
pub total-append : (f : Bands) (near far : List ℕ) → total f (near ++ far) ≡ total f near ⊕ total f far
unfolding total
total-append f [] far = sym (empty-plus (total f far))
total-append f (k ∷ near) far = rw (total-append f near far) (sym (plus_assoc (f k) (total f near) (total f far)))

pub vertical-append : (f : Bands) (near far : List ℕ) → vertical f (near ++ far) ≡ vertical f near + vertical f far
unfolding vertical
vertical-append f [] far = omega arith
vertical-append f (k ∷ near) far = omega (arith, vertical-append f near far)

-- one band more, as a loop over the bands of a zone meets them
pub total-last : (f : Bands) (start many : ℕ) → total f (span start (suc many)) ≡ total f (span start many) ⊕ f (start + many)
unfolding total
total-last f start many = rw (span_last, total-append) (same_position (omega arith) (omega arith))

pub vertical-last : (f : Bands) (start many : ℕ) → vertical f (span start (suc many)) ≡ vertical f (span start many) + matched (f (start + many))
unfolding vertical
vertical-last f start many = rw (span_last, vertical-append) (omega arith)

-- ---- each side, and gross
pub total-sides : (f : Bands) (list : List ℕ) → total f list ≡ record { long = sum_of (λ k. (f k).long) list; short = sum_of (λ k. (f k).short) list }
unfolding total sum_of
total-sides f [] = refl
total-sides f (k ∷ list) = ap (λ (s : Position). f k ⊕ s) (total-sides f list)

pub gross-sum : (f : Bands) (list : List ℕ) → gross (total f list) ≡ sum_of (λ k. gross (f k)) list
gross-sum f list = ap gross (total-sides f list) ∙ sym (sum_of_plus (λ k. (f k).long) (λ k. (f k).short) list)

-- fewer bands have no more, and no band has more than all
pub fewer_within : (f : Bands) (start n m : ℕ) → n ≤ m → gross (total f (span start n)) ≤ gross (total f (span start m))
fewer_within f start n m h =
    le_ind (λ (k : ℕ). gross (total f (span start n)) ≤ gross (total f (span start k))) (le_refl _)
    (λ k _ below. omega (arith, ap gross (total-last f start k))) m h

pub band_within : (f : Bands) (k n : ℕ) → k < n → gross (f k) ≤ gross (total f (span 0 n))
band_within f k n h =
    omega (arith, fewer_within f 0 (suc k) n h, ap gross (total-last f 0 k), ap (λ (j : ℕ). gross (f j)) (zero-add k))

-- ---- joining: the bands of two books added
pub total-joined : (f g : Bands) (zone : List ℕ) → total (f ⊞ g) zone ≡ total f zone ⊕ total g zone
unfolding total
total-joined f g [] = refl
total-joined f g (k ∷ zone) = rw (total-joined f g zone) (plus_shuffle (f k) (g k) (total f zone) (total g zone))

pub band_nets-joined : (f g : Bands) (zone : List ℕ)
    → ((band_nets (f ⊞ g) zone).long ≤ (band_nets f zone).long + (band_nets g zone).long) × ((band_nets (f ⊞ g) zone).short ≤ (band_nets f zone).short + (band_nets g zone).short)
unfolding total
band_nets-joined f g [] = omega arith
band_nets-joined f g (k ∷ zone) = omega (arith, net-joined (f k) (g k), band_nets-joined f g zone)

-- the absolute net of a zone is subadditive
pub absolute_net-total_joined : (f g : Bands) (zone : List ℕ) → absolute_net (total (f ⊞ g) zone) ≤ absolute_net (total f zone) + absolute_net (total g zone)
absolute_net-total_joined f g zone = rw total-joined (absolute_net-joined _ _)

-- ---- mirroring
pub total-mirrored : (f : Bands) (zone : List ℕ) → total (mirror f) zone ≡ mirrored (total f zone)
unfolding total
total-mirrored f [] = refl
total-mirrored f (k ∷ zone) = ap (λ (s : Position). mirrored (f k) ⊕ s) (total-mirrored f zone)

pub vertical-mirrored : (f : Bands) (zone : List ℕ) → vertical (mirror f) zone ≡ vertical f zone
unfolding vertical
vertical-mirrored f [] = refl
vertical-mirrored f (k ∷ zone) = ap₂ ◌+◌ (matched-mirrored (f k)) (vertical-mirrored f zone)

pub band_nets-mirrored : (f : Bands) (zone : List ℕ) → band_nets (mirror f) zone ≡ mirrored (band_nets f zone)
band_nets-mirrored f zone = ap (λ (g : Bands). total g zone) (λ i k. net-mirrored (f k) i) ∙ total-mirrored (λ k. net (f k)) zone
