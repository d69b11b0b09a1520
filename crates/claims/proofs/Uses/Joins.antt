-- Uses of the claims on two books joined: who is told no, what is written, and what it costs.
-- Assumes nothing.
use Prim.Native.Nat.{ℕ, ◌+◌, ◌≤◌, ◌<◌}
use mathlib.Core.Path.{◌≡◌, refl}
use mathlib.Core.List.{List, [], ◌∷◌, ◌++◌, Memᴰ}
use native.Mathlib.Nat.{zero-add}
use native.Mathlib.Omega.{arith}
use lib.ListN.{length, take, drop, get_or}
use borrow.Author.Tests.{lt-ltb, le-ltb, ne_eqb}
use Rattle.sums.proofs.Spans.{in_span}
use Rattle.book.specs.declared.Row.{Row}
use Rattle.book.specs.Counts.{count_of_rows}
use Rattle.book.specs.Rows.{rows_of}
use Rattle.book.specs.Refusals.{refused, refusal_of}
use Rattle.book.specs.Accepted.{Accepted}
use Rattle.book.proofs.Acceptance.{refused-with_none}
use Rattle.ladder.specs.Rows.{AtMostTwoZones}
use Rattle.layout.specs.Written.{written}
use Rattle.table.specs.Loaded.{table_refusal}
use Rattle.charges.specs.declared.Report.{Report}
use Rattle.charges.specs.Bands.{interest_band, band_in}
use Rattle.charges.specs.Charges.{reading}
use Rattle.charges.specs.Report.{class_rows, report_of}
use Rattle.charges.specs.SmallBank.{small_refusal, small_bank_of}
use Rattle.join.specs.Joined.{joined_counts, joined, settled, join_refusal, joined_of, join_output}
use Rattle.netting.specs.Netted.{issues_refusal, netted_book}
use Rattle.market_risk.specs.Entries.{report_figures, small_figures}
use Rattle.options.specs.Refusals.{options_refusal}
use Rattle.options.specs.Options.{options_book}
use Rattle.claims.specs.Zones.{TwoZonesEach}
use Rattle.claims.specs.Demands.{AtMost, no_figures, figure, joined_book}
use Rattle.claims.proofs.Writing.{each_class_lem}
use Rattle.claims.proofs.Joining.{joining, no_dearer}
use Rattle.claims.proofs.SmallBank.{small_joining}
use Rattle.claims.proofs.Currencies.{currency-joining}
use Rattle.claims.proofs.Netting.{netted_joining}
use Rattle.claims.proofs.Options.{options_joining}

-- ---- who is told no, and the output
module _ (a b : List ℕ) (of_a : Accepted a) (of_b : Accepted b) where
  pub eleven_says : (room : ℕ) → 4000 < count_of_rows (joined_counts a b)
      → join_refusal a b room ≡ refused 11 0
  unfolding join_refusal settled refused
  eleven_says room many = simp (refused-with_none a of_a, refused-with_none b of_b, lt-ltb _ _ many)

  pub twelve_says : (room : ℕ) → count_of_rows (joined_counts a b) ≤ 4000 → room < length (joined a b)
      → join_refusal a b room ≡ refused 12 0
  unfolding join_refusal settled refused
  twelve_says room few short = simp (refused-with_none a of_a, refused-with_none b of_b, le-ltb _ _ few, lt-ltb _ _ short)

  pub joins-says : (room : ℕ) → count_of_rows (joined_counts a b) ≤ 4000 → length (joined a b) ≤ room
      → join_refusal a b room ≡ refused 0 0
  unfolding join_refusal settled refused
  joins-says room few fits = simp (refused-with_none a of_a, refused-with_none b of_b, le-ltb _ _ few, le-ltb _ _ fits)

  pub output_says : (out : List ℕ) → count_of_rows (joined_counts a b) ≤ 4000
      → length (joined a b) ≤ length out
      → ((joined_of a b (length out)).length ≡ length (joined a b))
      × (join_output a b out ≡ joined a b ++ drop (length (joined a b)) out)
  unfolding joined_of join_output written refused
  output_says out few fits = let none = joins-says (length out) few fits in (rw none refl, rw none (simp zero-add))

pub refused-join_says : (a b out : List ℕ) → ((join_refusal a b (length out)).number ≡ 0 → ⊥)
    → ((joined_of a b (length out)).length ≡ 0) × (join_output a b out ≡ out)
unfolding joined_of join_output
refused-join_says a b out some = let test = ne_eqb (join_refusal a b (length out)).number 0 some in (rw test refl, rw test refl)

-- ---- what it costs
-- no three rows of a currency lie one in bands 0 to 3, one in 4 to 6 and one in 7 to 14
abbrev NotThree : List ℕ → ℕ → Type 0
NotThree s currency =
    (a b c : Row) → Memᴰ a (class_rows s 1) → Memᴰ b (class_rows s 1)
    → Memᴰ c (class_rows s 1)
    → a.group ≡ currency → b.group ≡ currency → c.group ≡ currency
    → interest_band a ≤ 3 → 4 ≤ interest_band b → interest_band b ≤ 6 → 7 ≤ interest_band c
    → interest_band c ≤ 14 → ⊥

two_zones : (s : List ℕ) (currency : ℕ) → NotThree s currency
    → AtMostTwoZones (reading 1) (class_rows s 1) currency
unfolding AtMostTwoZones interest_band band_in
two_zones s currency not_three one two three =
    not_three one.row two.row three.row one.is_row two.is_row three.is_row one.of_currency two.of_currency three.of_currency
    (omega (arith, in_span (interest_band one.row) 0 4 one.lies_in))
    (omega (arith, in_span (interest_band two.row) 4 3 two.lies_in)) (omega (arith, in_span (interest_band two.row) 4 3 two.lies_in))
    (omega (arith, in_span (interest_band three.row) 7 8 three.lies_in)) (omega (arith, in_span (interest_band three.row) 7 8 three.lies_in))

-- each of the six charges, and the total, is at most those of two reports together
abbrev Cheaper : (j a b : Report) → Type 0
Cheaper j a b =
    (j.interest.specific ≤ a.interest.specific + b.interest.specific)
    × (j.interest.general ≤ a.interest.general + b.interest.general)
    × (j.equity.specific ≤ a.equity.specific + b.equity.specific)
    × (j.equity.general ≤ a.equity.general + b.equity.general)
    × (j.exchange ≤ a.exchange + b.exchange) × (j.commodity ≤ a.commodity + b.commodity)
    × (j.total ≤ a.total + b.total)

seven : (j a b : Report) → AtMost (report_figures j) (report_figures a) (report_figures b)
    → Cheaper j a b
unfolding report_figures
seven j a b (figure h1 (figure h2 (figure h3 (figure h4 (figure h5 (figure h6 (figure h7 no_figures))))))) = (h1, h2, h3, h4, h5, h6, h7)

module _ (a b out : List ℕ) (e : (join_refusal a b (length out)).number ≡ 0) where
  pub joining_says : let book = take (joined_of a b (length out)).length (join_output a b out) in
      (refusal_of book ≡ refused 0 0)
      × ((class : ℕ) → 1 ≤ class → class ≤ 4 → rows_of book class ≡ rows_of a class ++ rows_of b class)
  unfolding joined_book
  joining_says = let book = joining a b out e in (book.accepted, each_class_lem book.rows)

  pub no_dearer_says : (table : List ℕ) → table_refusal table ≡ 0
      → ((currency : ℕ) → currency ≤ 31 → NotThree (joined_book a b out) currency)
      → Cheaper (report_of table (joined_book a b out)) (report_of table a) (report_of table b)
  unfolding TwoZonesEach
  no_dearer_says table fine each =
      seven (report_of table (joined_book a b out)) (report_of table a) (report_of table b)
      (no_dearer table fine a b out e (λ currency h. two_zones (joined_book a b out) currency (each currency h)))

  pub currency-says : (table : List ℕ) → table_refusal table ≡ 0 → (currency : ℕ) → currency ≤ 31
      → NotThree (joined_book a b out) currency
      → let j = report_of table (joined_book a b out) in let r = report_of table a in let t = report_of table b in
      (get_or j.specifics currency 0 ≤ get_or r.specifics currency 0 + get_or t.specifics currency 0)
      × (get_or j.generals currency 0 ≤ get_or r.generals currency 0 + get_or t.generals currency 0)
  currency-says table fine currency h not_three =
      let both = currency-joining table fine a b out e currency h (two_zones (joined_book a b out) currency not_three) in
      (both.specific, both.general)

  pub small_says : (small_refusal a).number ≡ 0 → (small_refusal b).number ≡ 0
      → let j = small_bank_of (joined_book a b out) in let r = small_bank_of a in let t = small_bank_of b in
      (small_refusal (joined_book a b out) ≡ refused 0 0)
      × ((j.exchange ≤ r.exchange + t.exchange) × (j.commodity ≤ r.commodity + t.commodity)
      × (j.total ≤ r.total + t.total))
  unfolding small_figures
  small_says of_a of_b = let book = small_joining a b out e of_a of_b in (book.accepted, three book.no_dearer)
    where
      three : {j1 j2 j3 r1 r2 r3 t1 t2 t3 : ℕ}
          → AtMost (j1 ∷ j2 ∷ j3 ∷ []) (r1 ∷ r2 ∷ r3 ∷ []) (t1 ∷ t2 ∷ t3 ∷ [])
          → (j1 ≤ r1 + t1) × (j2 ≤ r2 + t2) × (j3 ≤ r3 + t3)
      three (figure h1 (figure h2 (figure h3 no_figures))) = (h1, h2, h3)

  pub netted_says : (table : List ℕ) → table_refusal table ≡ 0
      → (issues_refusal (joined_book a b out)).number ≡ 0 → (issues_refusal a).number ≡ 0
      → (issues_refusal b).number ≡ 0
      → ((currency : ℕ) → currency ≤ 31 → NotThree (joined_book a b out) currency)
      → Cheaper (report_of table (netted_book (joined_book a b out))) (report_of table (netted_book a)) (report_of table (netted_book b))
  unfolding TwoZonesEach
  netted_says table fine able able-a able-b each =
      seven (report_of table (netted_book (joined_book a b out))) (report_of table (netted_book a)) (report_of table (netted_book b))
      (netted_joining table fine a b out e able able-a able-b (λ currency h. two_zones (joined_book a b out) currency (each currency h)))

pub options_says : (table : List ℕ) → table_refusal table ≡ 0 → (s t out : List ℕ)
    → (options_refusal s).number ≡ 0 → (options_refusal t).number ≡ 0
    → (join_refusal (options_book s) (options_book t) (length out)).number ≡ 0
    → (refusal_of (joined_book (options_book s) (options_book t) out) ≡ refused 0 0)
    × Cheaper (report_of table (joined_book (options_book s) (options_book t) out)) (report_of table (options_book s)) (report_of table (options_book t))
options_says table fine s t out of-s of-t e =
    let both = options_joining table fine s t out of-s of-t e in
    let j = joined_book (options_book s) (options_book t) out in
    (both.accepted, seven (report_of table j) (report_of table (options_book s)) (report_of table (options_book t)) both.no_dearer)
