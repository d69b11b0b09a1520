-- Pieces of a text written one after the other, and the digits of a number.
-- Assumes nothing.
use mathlib.Core.Path.{◌≡◌, refl, sym, ap, ◌∙◌}
use mathlib.Core.Bool.{Bool, true, false, cond}
use mathlib.Core.List.{List, [], ◌∷◌, ◌++◌}
use Prim.Native.Nat.{ℕ, zero, suc, ◌+◌, ◌*◌, ◌/◌, ◌%◌, ◌≤◌, ◌<◌}
use native.Mathlib.Decide.{dec_lt}
use native.Mathlib.Omega.{arith}
use lib.Dec.{ltb}
use lib.ListN.{length, length-append}
use borrow.Author.Tests.{lt-ltb, le-ltb, eq-eqb, ne_eqb}
use Rattle.book.specs.declared.Refusal.{Refusal}
use Rattle.charges.specs.declared.Report.{Report}
use Rattle.layout.specs.Written.{written}
use Rattle.layout.proofs.Writing.{written-more, written-nothing}
use Rattle.text.specs.Ascii.{ascii}
use Rattle.text.specs.Lines.{digits, decimal, line, charges_text, refusal_text, report_text}
use Rattle.text.specs.Inner.Pieces.{Wrote, most_text, line_most}

-- ---- pieces one after the other
pub wrote_more : (out : List ℕ) (at : ℕ) (done piece : List ℕ) {mid after : ℕ} {out' out'' : List ℕ} → Wrote out at done mid out' → Wrote out' mid piece after out''
    → at + (length done + length piece) ≤ length out → Wrote out at (done ++ piece) after out''
wrote_more out at done piece {mid} first second room =
    record {
      place = rw length-append (omega (arith, first.place, second.place));
      is = written-more out done piece at mid first.is second.is first.place (omega (arith, first.place));
      same = second.same ∙ first.same;
    }

-- nothing written
wrote_none : (out : List ℕ) (at : ℕ) → Wrote out at [] at out
wrote_none out at = record { place = omega arith; is = sym (written-nothing out at); same = refl }

-- ---- the digits of a number
tens : ℕ → ℕ
tens zero = 1
tens (suc k) = 10 * tens k

-- a number has no more digits than it needs, however many it may have
enough : (k n : ℕ) → n < tens (suc k) → digits (suc k) n ≡ digits (suc (suc k)) n
unfolding digits tens
enough zero n h = simp (lt-ltb n 10 (omega arith))
enough (suc k) n h = go (ltb n 10) (enough k (n / 10) (omega arith))
  where
    last : List ℕ
    last = (48 + n % 10) ∷ []

    go : (test : Bool) → digits (suc k) (n / 10) ≡ digits (suc (suc k)) (n / 10)
        → cond test ((48 + n) ∷ []) (digits (suc k) (n / 10) ++ last) ≡ cond test ((48 + n) ∷ []) (digits (suc (suc k)) (n / 10) ++ last)
    go true same = refl
    go false same = ap (λ (l : List ℕ). l ++ last) same

-- the digits before the last
unfoldable pub front : ℕ → List ℕ
front n = cond (ltb n 10) [] (decimal (n / 10))

decimal-front : (n : ℕ) → n < 18446744073709551616 → decimal n ≡ front n ++ ((48 + n % 10) ∷ [])
unfolding digits front tens
decimal-front n fits = go (dec_lt n 10)
  where
    go : Dec (n < 10) → decimal n ≡ front n ++ ((48 + n % 10) ∷ [])
    go (yes one) = let last : n % 10 ≡ n = omega arith in simp (lt-ltb n 10 one, last)
    go (no more) =
        simp (le-ltb n 10 (omega arith)) (ap (λ (l : List ℕ). l ++ ((48 + n % 10) ∷ [])) (enough 18 (n / 10) (omega arith)))

module _ (out : List ℕ) (at n : ℕ) where
  pub front-none : n / 10 ≤ 0 → Wrote out at (front n) at out
  unfolding front
  front-none one = simp (lt-ltb n 10 (omega arith)) (wrote_none out at)

  pub front-some : 0 < n / 10 → {after : ℕ} {out' : List ℕ} → Wrote out at (decimal (n / 10)) after out' → Wrote out at (front n) after out'
  unfolding front
  front-some more wrote = simp (le-ltb n 10 (omega arith)) wrote

  module _ (fits : n < 18446744073709551616) (room : at + length (decimal n) ≤ length out) where
    front-room : at + (length (front n) + 1) ≤ length out
    front-room = omega (arith, ap length (decimal-front n fits) ∙ length-append (front n) _)

    pub some_room : 0 < n / 10 → at + length (decimal (n / 10)) ≤ length out
    unfolding front
    some_room more = omega (arith, simp (le-ltb n 10 (omega arith)) at front-room)

    pub last_room : {before : ℕ} {out' : List ℕ} → Wrote out at (front n) before out' → before + 1 ≤ length out'
    last_room first = omega (arith, first.same, first.place, front-room)

    -- the last digit follows the digits before it
    pub wrote_last : {before after : ℕ} {out' out'' : List ℕ} → Wrote out at (front n) before out' → Wrote out' before ((48 + n % 10) ∷ []) after out''
        → Wrote out at (decimal n) after out''
    wrote_last first last = rw (decimal-front n fits) (wrote_more out at (front n) _ first last front-room)

pub most_digits : (k n : ℕ) → length (digits k n) ≤ k
unfolding digits
most_digits zero n = omega arith
most_digits (suc k) n = go (ltb n 10) (most_digits k (n / 10))
  where
    go : (test : Bool) → length (digits k (n / 10)) ≤ k → length (cond test ((48 + n) ∷ []) (digits k (n / 10) ++ ((48 + n % 10) ∷ []))) ≤ suc k
    go true h = omega arith
    go false h = rw length-append (omega arith)

-- seven pieces from the start on, and three
pub three_in_steps : (out l1 l2 l3 : List ℕ) (at : ℕ) {a1 a2 a3 : ℕ} {o1 o2 o3 : List ℕ} → at + (length l1 + (length l2 + length l3)) ≤ length out
    → Wrote out at l1 a1 o1 → Wrote o1 a1 l2 a2 o2 → Wrote o2 a2 l3 a3 o3 → Wrote out at (l1 ++ (l2 ++ l3)) a3 o3
three_in_steps out l1 l2 l3 at {a1} {o1 = o1} room w1 w2 w3 =
    let last = wrote_more o1 a1 l2 l3 w2 w3 (omega (arith, w1.same, w1.place)) in
    wrote_more out at l1 (l2 ++ l3) w1 last (rw length-append (omega arith))

pub seven_in_steps : (out l1 l2 l3 l4 l5 l6 l7 : List ℕ) (at : ℕ) {a1 a2 a3 a4 a5 a6 a7 : ℕ} {o1 o2 o3 o4 o5 o6 o7 : List ℕ}
    → at + (length l1 + (length l2 + (length l3 + (length l4 + (length l5 + (length l6 + length l7)))))) ≤ length out
    → Wrote out at l1 a1 o1 → Wrote o1 a1 l2 a2 o2 → Wrote o2 a2 l3 a3 o3 → Wrote o3 a3 l4 a4 o4 → Wrote o4 a4 l5 a5 o5 → Wrote o5 a5 l6 a6 o6 → Wrote o6 a6 l7 a7 o7
    → Wrote out at (l1 ++ (l2 ++ (l3 ++ (l4 ++ (l5 ++ (l6 ++ l7)))))) a7 o7
seven_in_steps out l1 l2 l3 l4 l5 l6 l7 at {a2 = a2} {a4 = a4} {o2 = o2} {o4 = o4} room w1 w2 w3 w4 w5 w6 w7 =
    let tail = three_in_steps o4 l5 l6 l7 a4 (omega (arith, w1.same, w1.place, w2.same, w2.place, w3.same, w3.place, w4.same, w4.place)) w5 w6 w7 in
    let middle = three_in_steps o2 l3 l4 (l5 ++ (l6 ++ l7)) a2 (simp length-append (omega (arith, w1.same, w1.place, w2.same, w2.place))) w3 w4 tail in
    three_in_steps out l1 l2 (l3 ++ (l4 ++ (l5 ++ (l6 ++ l7)))) at (simp length-append (omega arith)) w1 w2 middle

-- ---- lines
pub line-length : (name : List ℕ) (n : ℕ) → length (line name n) ≡ length name + (length (decimal n) + 2)
unfolding line ascii
line-length name n = simp length-append (omega arith)

pub line-most : (name : List ℕ) (n : ℕ) → length (line name n) ≤ line_most name
line-most name n = omega (arith, line-length name n, most_digits 20 n)

pub line-in_steps : (name : List ℕ) (n : ℕ) (out : List ℕ) (at : ℕ) {word space number after : ℕ} {out1 out2 out3 out4 : List ℕ}
    → at + line_most name ≤ length out → Wrote out at name word out1 → Wrote out1 word (ascii " ") space out2
    → Wrote out2 space (decimal n) number out3 → Wrote out3 number (ascii "\n") after out4
    → Wrote out at (line name n) after out4
unfolding line ascii
line-in_steps name n out at room w1 w2 w3 w4 =
    let size = line-length name n in
    let most = line-most name n in
    let last = wrote_more _ _ (decimal n) _ w3 w4 (omega (arith, w1.same, w1.place, w2.same, w2.place)) in
    let spaced = wrote_more _ _ (ascii " ") _ w2 last (simp length-append (omega (arith, w1.same, w1.place))) in
    wrote_more out at name _ w1 spaced (simp length-append (omega arith))

-- ---- the whole text, of a report that is refused and of one that is not
charges_most : (report : Report) → length (charges_text report) ≤ most_text
unfolding charges_text ascii
charges_most report =
    simp length-append
    (omega (
      arith,
      line-most (ascii "interest-specific") report.interest.specific,
      line-most (ascii "interest-general") report.interest.general,
      line-most (ascii "equity-specific") report.equity.specific,
      line-most (ascii "equity-general") report.equity.general,
      line-most (ascii "fx") report.exchange,
      line-most (ascii "commodity") report.commodity,
      line-most (ascii "total") report.total,
    ))

refusal_most : (refusal : Refusal) → length (refusal_text refusal) ≤ most_text
unfolding refusal_text ascii
refusal_most refusal = simp length-append (omega (arith, most_digits 20 refusal.number, line-most (ascii " row") refusal.row))

module _ (report : Report) (out : List ℕ) {after : ℕ} {out' : List ℕ} where
  from_start : (text : List ℕ) → report_text report ≡ text → length text ≤ most_text → Wrote out 0 text after out' → most_text ≤ length out
      → (after ≡ length (report_text report)) × (after ≤ length out') × (out' ≡ written out 0 (report_text report))
  from_start text is most w room = rw is (omega (arith, w.place), omega (arith, w.place, w.same), w.is)

  pub charged_text : report.refusal.number ≡ 0 → Wrote out 0 (charges_text report) after out' → most_text ≤ length out
      → (after ≡ length (report_text report)) × (after ≤ length out') × (out' ≡ written out 0 (report_text report))
  unfolding report_text
  charged_text good = from_start (charges_text report) (simp (eq-eqb _ _ good)) (charges_most report)

  pub refused-text : (report.refusal.number ≡ 0 → ⊥) → Wrote out 0 (refusal_text report.refusal) after out' → most_text ≤ length out
      → (after ≡ length (report_text report)) × (after ≤ length out') × (out' ≡ written out 0 (report_text report))
  unfolding report_text
  refused-text bad = from_start (refusal_text report.refusal) (simp (ne_eqb _ _ bad)) (refusal_most report.refusal)
