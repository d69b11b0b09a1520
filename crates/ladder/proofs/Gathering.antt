-- The ladders as the code makes them: band by band, and then whole.
-- Assumes nothing.
use Prim.Native.Nat.{ℕ, zero, suc, ◌+◌, ◌-◌, ◌*◌, ◌≤◌, ◌<◌, max}
use mathlib.Core.Path.{◌≡◌, refl, sym, ap, ap₂, ◌∙◌}
use mathlib.Core.List.{List, ◌∷◌}
use native.Mathlib.Nat.{zero-add}
use native.Mathlib.Numerals.{add-one}
use native.Mathlib.Omega.{arith}
use lib.ListN.{get_or, take, drop}
use lib.Seq.{get_or-take, get_or-drop}
use Rattle.sums.specs.Sums.{span}
use Rattle.ladder.specs.Position.{Position, Bands, ◌⊕◌, empty, gross, net, total, vertical, band_nets}
use Rattle.ladder.specs.Table.{Percents, AcceptedPercents}
use Rattle.ladder.specs.Interest.{Matches, InterestFigures, Zones, matches, match_sum, charge, all_bands, zones}
use Rattle.ladder.specs.Commodity.{Carried, nothing, to_band, carry, carry_figures, commodity_bands}
use Rattle.ladder.specs.Nets.{absolute_nets, shorthand}
use Rattle.ladder.specs.Inner.Steps.{bands, PositionStep, Zone, Gathered, NetStep, ZoneOf, ZoneWith, GatheredOf, Summed, InterestOf, CommodityOf, NetsOf, limit, commodity_limit, net_step, band_step, carried_step, zones_step, zone_of, zone_with, gathered_gross, gathered_figures, combined}
use Rattle.ladder.proofs.Matching.{same_position, takes_matched, takes_gross}
use Rattle.ladder.proofs.Across.{unopposed_net, crossing-adds_up}
use Rattle.ladder.proofs.Totals.{total-last, vertical-last, fewer_within}
use Rattle.ladder.proofs.AddsUp.{three_grosses, three_verticals, charge-within}
use Rattle.ladder.proofs.Netting.{absolutes_within, shorthand-within}
use Rattle.ladder.proofs.Carrying.{carry-last, carry-gross, commodity-within}

-- two zones with the same sums are equal
pub same_zone : {a b : Zone} → a.gross ≡ b.gross → a.vertical ≡ b.vertical → a.nets ≡ b.nets → a ≡ b
same_zone p q r = λ i. record { gross = p i; vertical = q i; nets = r i }

-- its first band and the others
pub zone_cons : (f : Bands) (k : ℕ) (zone : List ℕ) → zone_of f (k ∷ zone) ≡ zone_with (zone_of f zone) (f k)
unfolding zone_of zone_with total vertical
zone_cons f k zone = same_zone (omega arith) (omega arith) (same_position (omega arith) (omega arith))

-- a zone is by its bands alone
pub zone_same : (f g : Bands) (start n : ℕ) → ((k : ℕ) → start ≤ k → k < start + n → f k ≡ g k) → zone_of f (span start n) ≡ zone_of g (span start n)
unfolding span zone_of total vertical
zone_same f g start zero same = refl
zone_same f g start (suc n) same =
    zone_cons f start (span (suc start) n)
    ∙ ap₂ zone_with (zone_same f g (suc start) n (λ k low high. same k (omega arith) (omega arith))) (same start (omega arith) (omega arith))
    ∙ sym (zone_cons g start (span (suc start) n))

-- ---- a zone, band by band: what its first n bands sum to
pub record GatheredTo (f : Bands) (start n : ℕ) (z : Zone) : Type 0 where
  pub is : z ≡ zone_of f (span start n)
  pub sums : 2 * z.vertical + gross z.nets ≡ z.gross

pub gathered_none : {f : Bands} {start n : ℕ} {z : Zone} → n ≡ 0 → z ≡ record { gross = 0; vertical = 0; nets = empty } → GatheredTo f start n z
unfolding zone_of total vertical span
gathered_none none is = record { is = rw (none, is); sums = rw is }

-- the first n bands and the next are within the gross of all
pub gathered_room : {f : Bands} {start n : ℕ} {z : Zone} → GatheredTo f start n z → (many : ℕ) → n < many → gross (total f (span start many)) ≤ limit
    → z.gross + gross (f (start + n)) ≤ limit
unfolding zone_of
gathered_room {f} {start} {n} so_far many h within = rw so_far.is (omega (arith, fewer_within f start (suc n) many h, ap gross (total-last f start n)))

pub zone_in_steps : (zone : Zone) (band : Position) {step : PositionStep} → 2 * zone.vertical + gross zone.nets ≡ zone.gross
    → NetStep (zone.nets ⊕ band) (band_step zone.nets band) step
    → ZoneWith zone band (record { gross = zone.gross + gross band; vertical = zone.vertical + step.matched; nets = step.left })
unfolding zone_with band_step
zone_in_steps zone band sums made = record { is = rw made.is; sums = omega (arith, made.sums) }

pub gathered_next : {f : Bands} {start n m band : ℕ} {position : Position} {z r : Zone} → GatheredTo f start n z → ZoneWith z position r → position ≡ f band
    → band ≡ start + n → m ≡ suc n → GatheredTo f start m r
unfolding zone_of zone_with
gathered_next {f} {start} {n} so_far made own here next =
    record {
      is =
          rw (made.is, so_far.is, own, here, next, total-last f start n, vertical-last f start n, total-last (λ k. net (f k)) start n)
          (same_zone (omega arith) refl refl);
      sums = made.sums;
    }

-- a band of a part of an array
pub part_is : (positions : List Position) (start many k : ℕ) → k < many
    → get_or (take (start + many - start) (drop start positions)) k empty ≡ bands positions (start + k)
part_is positions start many k h =
    get_or-take (start + many - start) (drop start positions) k empty (omega arith)
    ∙ get_or-drop start positions k empty

pub gathered_all : {f : Bands} {start n many : ℕ} {z : Zone} → GatheredTo f start n z → n ≡ many → ZoneOf f (span start many) z
unfolding zone_of
gathered_all so_far all =
    let is = rw all at so_far.is in
    record { is = is; is_gross = rw is; is_nets = rw is; sums = so_far.sums }

pub ruleset gathering = (gathered_none, gathered_room, gathered_all)

-- ---- the three zones make the ladder
pub matches-combined : (z : Zones) (f : Bands) {a b c : Zone} → a ≡ zone_of f z.first → b ≡ zone_of f z.second → c ≡ zone_of f z.third
    → combined a b c ≡ matches z f
unfolding combined zone_of matches zones_step
matches-combined z f a b c = rw (a, b, c) (cc (three_grosses z f, three_verticals z f))

-- what the zones match and leave is within their gross
pub combined-within : (z : Gathered) → Summed z → {m : Matches} → m ≡ combined z.first z.second z.third
    → match_sum m + m.residual ≤ gathered_gross z
unfolding combined zones_step
combined-within z sums is =
    rw is
    (omega (
      arith,
      sums.first,
      sums.second,
      sums.third,
      takes_gross (takes_matched z.first.nets),
      takes_gross (takes_matched z.second.nets),
      takes_gross (takes_matched z.third.nets),
      crossing-adds_up (record { zone1 = net z.first.nets; zone2 = net z.second.nets; zone3 = net z.third.nets })
          (record { zone1 = unopposed_net _; zone2 = unopposed_net _; zone3 = unopposed_net _ }),
    ))

pub figures_in_steps : (p : Percents) (z : Gathered) {m : Matches} {paid : ℕ} → m ≡ combined z.first z.second z.third → paid ≡ charge p m
    → ◌≡◌ {A = InterestFigures} (record { matches = m; charge = paid }) (gathered_figures p z)
unfolding gathered_figures
figures_in_steps p z is cost = rw (cost, is)

-- zones gathered of a ladder
module _ {f : Bands} {z : Gathered} (of : GatheredOf f z) where
  pub gathered_summed : gross (total f (all_bands zones)) ≤ limit → Summed z
  gathered_summed within =
      record {
        first = of.first.sums;
        second = of.second.sums;
        third = of.third.sums;
        within = omega (arith, of.first.is_gross, of.second.is_gross, of.third.is_gross, three_grosses zones f);
      }

pub gathered_interest : {p : Percents} → AcceptedPercents p → {f : Bands} {z : Gathered} → GatheredOf f z → {r : InterestFigures} → r ≡ gathered_figures p z → InterestOf p f r
unfolding matches gathered_figures
gathered_interest {p} ok {f} {z} of is =
    let whole = matches-combined zones f of.first.is of.second.is of.third.is in
    record { is = rw (is, whole); is_gross = rw (is, whole); within = rw (is, whole) (charge-within p ok zones f) }

-- ---- a commodity, band by band: what its first n bands give
pub record Carries (f : Bands) (n : ℕ) (s : Carried) : Type 0 where
  pub is : s ≡ carry nothing f (span 0 n)
  pub within : 2 * s.matches + gross s.position ≤ commodity_limit
  pub carried≤ : s.carried ≤ commodity_limit * n

pub carries_none : (f : Bands) → Carries f 0 nothing
unfolding carry span
carries_none f = record { is = refl; within = omega arith; carried≤ = omega arith }

module _ {f : Bands} {n : ℕ} {s : Carried} (so_far : Carries f n s) (within : gross (total f commodity_bands) ≤ commodity_limit) (h : n < 7) where
  pub carries_room : 2 * s.matches + gross s.position + gross (f n) ≤ commodity_limit
  carries_room =
      rw so_far.is
      (omega (arith, carry-gross f (span 0 n), fewer_within f 0 (suc n) 7 h, ap gross (total-last f 0 n), ap (λ (k : ℕ). gross (f k)) (zero-add n)))

  pub carries_next : {band : Position} {step : PositionStep} → NetStep (s.position ⊕ band) (carried_step s.position band) step → band ≡ f n
      → Carries f (n + 1) (record { matches = s.matches + step.matched; carried = s.carried + gross s.position; position = step.left })
  unfolding to_band carried_step
  carries_next made own =
      record {
        is = rw (made.is, own, so_far.is, add-one) (sym (carry-last nothing f n));
        within = omega (arith, carries_room, ap gross own);
        carried≤ = omega arith;
      }

pub carries_all : {f : Bands} {n : ℕ} {s : Carried} → Carries f n s → n ≡ 7 → CommodityOf f (carry_figures s)
carries_all {f} so_far all =
    let is = rw all at so_far.is in
    record { is = ap carry_figures is; within = rw is (commodity-within f) }

pub ruleset carrying = (carries_none, carries_room, carries_next, carries_all)

-- ---- nets alone
pub absolutes_in_steps : (f : Bands) (list : List ℕ) {nets : Position} → nets ≡ band_nets f list → NetsOf f list (absolute_nets list) (gross nets)
absolutes_in_steps f list is = record { is = ap gross is; within = rw is (absolutes_within list f) }

pub shorthand-in_steps : (f : Bands) (list : List ℕ) {nets own : Position} {gold : PositionStep} {most left : ℕ} → nets ≡ band_nets f list
    → own ≡ f 0 → gold ≡ net_step own → most ≡ max nets.long nets.short → left ≡ gross gold.left → NetsOf f (0 ∷ list) (shorthand list) (most + left)
unfolding net_step
shorthand-in_steps f list is_nets is_own is_gold is_most is_left =
    record { is = rw (is_left, is_most, is_nets, is_gold, is_own); within = rw (is_left, is_most, is_nets, is_gold, is_own) (shorthand-within list f) }
