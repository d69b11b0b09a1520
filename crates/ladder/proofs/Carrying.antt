-- The commodities ladder, for any number of bands: it adds up, is the same for a mirrored book, and is subadditive.
-- Assumes nothing.
use Prim.Native.Nat.{ℕ, suc, ◌+◌, ◌*◌, ◌≤◌}
use mathlib.Core.Path.{◌≡◌, refl, sym, ap, ◌∙◌}
use mathlib.Core.List.{List, [], ◌∷◌, ◌++◌}
use lib.ListN.{length}
use native.Mathlib.Nat.{add_comm, zero-add}
use native.Mathlib.Omega.{arith}
use Rattle.ladder.specs.Position.{Position, Bands, ◌⊕◌, empty, gross, matched, net, absolute_net, total}
use Rattle.sums.specs.Sums.{span}
use Rattle.ladder.specs.Commodity.{Carried, nothing, to_band, carry, carry_charge, carry_figures, commodity_bands, commodity_figures}
use Rattle.ladder.proofs.Matching.{Takes, mirrored, same_position, empty-plus, plus_assoc, plus_shuffle, takes_matched, takes_gross, takes_net}
use Rattle.ladder.proofs.Matching.{absolute_net-joined, matched-mirrored, net-mirrored}
use Rattle.sums.proofs.Spans.{span_last}
use Rattle.ladder.proofs.Totals.{◌⊞◌, mirror, total-joined, absolute_net-total_joined}

-- ---- one band more
carry-append : (s : Carried) (f : Bands) (near far : List ℕ) → carry s f (near ++ far) ≡ carry (carry s f near) f far
unfolding carry
carry-append s f [] far = refl
carry-append s f (k ∷ near) far = carry-append (to_band s (f k)) f near far

pub carry-last : (s : Carried) (f : Bands) (n : ℕ) → carry s f (span 0 (suc n)) ≡ to_band (carry s f (span 0 n)) (f n)
unfolding carry
carry-last s f n = rw (span_last 0 n, zero-add n) (carry-append s f (span 0 n) (n ∷ []))

-- ---- it adds up: matches come off both sides
even : ℕ → Position
even m = record { long = m; short = m }

takes_carry : (s : Carried) (f : Bands) (bands : List ℕ)
    → Takes (carry s f bands).matches (even s.matches ⊕ (s.position ⊕ total f bands)) (carry s f bands).position
unfolding carry to_band total even
takes_carry s f [] = omega arith
takes_carry s f (k ∷ bands) = omega (arith, takes_matched (s.position ⊕ f k), takes_carry (to_band s (f k)) f bands)

-- what is carried on is the net of all nearer bands
to_band-position : (s : Carried) (a band : Position) → s.position ≡ net a → (to_band s band).position ≡ net (a ⊕ band)
unfolding to_band
to_band-position s a band e = rw e (sym (takes_net {m = matched a} (omega (arith, takes_matched a))))

carry-position : (s : Carried) (a : Position) (f : Bands) (bands : List ℕ) → s.position ≡ net a → (carry s f bands).position ≡ net (a ⊕ total f bands)
unfolding carry total
carry-position s a f [] e = e ∙ ap net (same_position (omega arith) (omega arith))
carry-position s a f (k ∷ bands) e =
    carry-position (to_band s (f k)) (a ⊕ f k) f bands (to_band-position s a (f k) e) ∙ ap net (plus_assoc a (f k) (total f bands))

none_net : empty ≡ net empty
unfolding net matched
none_net = refl

module _ (f : Bands) (bands : List ℕ) where
  pub carry-gross : 2 * (carry nothing f bands).matches + gross (carry nothing f bands).position ≡ gross (total f bands)
  unfolding even
  carry-gross = omega (arith, takes_gross (takes_carry nothing f bands))

  pub carry-residual : gross (carry nothing f bands).position ≡ absolute_net (total f bands)
  carry-residual = ap gross (carry-position nothing empty f bands none_net ∙ ap net (empty-plus (total f bands)))

  pub carry-charge : carry_charge (carry nothing f bands)
      ≡ 15000 * gross (total f bands) + 135000 * absolute_net (total f bands) + 6000 * (carry nothing f bands).carried
  carry-charge = omega (arith, carry-gross, carry-residual)

-- ---- what is carried into each band is the absolute net of all nearer ones
running_nets : Position → Bands → List ℕ → ℕ
running_nets a f [] = 0
running_nets a f (k ∷ bands) = absolute_net a + running_nets (a ⊕ f k) f bands

carried_running : (s : Carried) (a : Position) (f : Bands) (bands : List ℕ) → s.position ≡ net a → (carry s f bands).carried ≡ s.carried + running_nets a f bands
unfolding carry running_nets to_band
carried_running s a f [] e = omega arith
carried_running s a f (k ∷ bands) e =
    omega (arith, ap gross e, carried_running (to_band s (f k)) (a ⊕ f k) f bands (to_band-position s a (f k) e))

carried_is : (f : Bands) (bands : List ℕ) → (carry nothing f bands).carried ≡ running_nets empty f bands
carried_is f bands = omega (arith, carried_running nothing empty f bands none_net)

running_joined : (a b : Position) (f g : Bands) (bands : List ℕ) → running_nets (a ⊕ b) (f ⊞ g) bands ≤ running_nets a f bands + running_nets b g bands
unfolding running_nets
running_joined a b f g [] = omega arith
running_joined a b f g (k ∷ bands) =
    let later : running_nets ((a ⊕ b) ⊕ (f k ⊕ g k)) (f ⊞ g) bands ≤ running_nets (a ⊕ f k) f bands + running_nets (b ⊕ g k) g bands =
    rw (plus_shuffle a b (f k) (g k)) (running_joined (a ⊕ f k) (b ⊕ g k) f g bands) in
    omega (arith, absolute_net-joined a b)

pub carry-joined : (f g : Bands) (bands : List ℕ)
    → carry_charge (carry nothing (f ⊞ g) bands) ≤ carry_charge (carry nothing f bands) + carry_charge (carry nothing g bands)
carry-joined f g bands =
    omega (
      arith,
      carry-charge (f ⊞ g) bands,
      carry-charge f bands,
      carry-charge g bands,
      ap gross (total-joined f g bands),
      absolute_net-total_joined f g bands,
      carried_is (f ⊞ g) bands,
      carried_is f bands,
      carried_is g bands,
      running_joined empty empty f g bands,
    )

-- ---- each step carries at most the gross, and nothing is carried into the first band
running_within : (a : Position) (f : Bands) (bands : List ℕ) → running_nets a f bands ≤ length bands * gross (a ⊕ total f bands)
unfolding running_nets total
running_within a f [] = omega arith
running_within a f (k ∷ bands) =
    let regrouped : gross ((a ⊕ f k) ⊕ total f bands) ≡ gross (a ⊕ (f k ⊕ total f bands)) = omega arith in
    let later : running_nets (a ⊕ f k) f bands ≤ length bands * gross (a ⊕ (f k ⊕ total f bands)) = rw (← regrouped) (running_within (a ⊕ f k) f bands) in
    omega (arith, takes_gross (takes_matched a))

carried_within : (f : Bands) (k : ℕ) (bands : List ℕ) → (carry nothing f (k ∷ bands)).carried ≤ length bands * gross (total f (k ∷ bands))
unfolding running_nets net matched total
carried_within f k bands =
    let none : gross ((empty ⊕ f k) ⊕ total f bands) ≡ gross (f k ⊕ total f bands) = omega arith in
    rw (carried_is f (k ∷ bands), ← none, zero-add (running_nets (empty ⊕ f k) f bands)) (running_within (empty ⊕ f k) f bands)

-- so for document 01's seven bands
pub commodity-within : (f : Bands) → (commodity_figures f).charge ≤ 186000 * gross (total f commodity_bands)
unfolding span
commodity-within f =
    omega (arith, carry-charge f commodity_bands, carried_within f 0 (span 1 6), takes_gross (takes_matched (total f commodity_bands)))

-- ---- mirrored
mirrored_carried : Carried → Carried
mirrored_carried s = record { matches = s.matches; carried = s.carried; position = mirrored s.position }

to_band-mirrored : (s : Carried) (band : Position) → to_band (mirrored_carried s) (mirrored band) ≡ mirrored_carried (to_band s band)
unfolding to_band mirrored_carried
to_band-mirrored s band = λ i.
    record {
      matches = s.matches + matched-mirrored (s.position ⊕ band) i;
      carried = s.carried + add_comm s.position.short s.position.long i;
      position = net-mirrored (s.position ⊕ band) i;
    }

carry-mirrored : (s : Carried) (f : Bands) (bands : List ℕ) → carry (mirrored_carried s) (mirror f) bands ≡ mirrored_carried (carry s f bands)
unfolding carry
carry-mirrored s f [] = refl
carry-mirrored s f (k ∷ bands) = rw (to_band-mirrored s (f k)) (carry-mirrored (to_band s (f k)) f bands)

pub carry_figures-mirrored : (f : Bands) (bands : List ℕ) → carry_figures (carry nothing (mirror f) bands) ≡ carry_figures (carry nothing f bands)
unfolding mirrored_carried
carry_figures-mirrored f bands =
    let end = carry nothing f bands in
    rw (carry-mirrored nothing f bands) (cc (add_comm end.position.short end.position.long))
