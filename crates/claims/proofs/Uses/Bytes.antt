-- Uses of the claims on the bytes that stay.
-- Assumes nothing.
use Prim.Native.Nat.{ℕ, ◌+◌, ◌*◌, ◌≤◌, ◌<◌}
use mathlib.Core.Path.{◌≡◌, refl, sym, ◌∙◌}
use mathlib.Core.Logic.{◌⊎◌, inl, inr}
use mathlib.Core.Bool.{true, false, false≢true}
use mathlib.Core.List.{List, [], ◌∷◌, Memᴰ, map, Sublistᴰ}
use lib.ListN.{take, drop}
use borrow.Author.Tests.{eq-eqb}
use Rattle.sums.specs.Every.{Every}
use Rattle.book.specs.Fields.{u16_at}
use Rattle.book.specs.Counts.{counts_of, count_of_rows}
use Rattle.book.specs.Rows.{rows_of}
use Rattle.book.specs.Refusals.{refusal_of}
use Rattle.issues.specs.Issues.{has}
use Rattle.netting.specs.Netted.{netted_book}
use Rattle.offsetting.specs.Offset.{offset_book}
use Rattle.offsetting.specs.NetOffset.{net_offset_book}
use Rattle.shortest.specs.Shortest.{shortest_file}
use Rattle.claims.specs.Bytes.{Kept, no_rows, stays, netted, dropped, later}
use Rattle.claims.proofs.Writing.{each_class_lem, others}
use Rattle.claims.proofs.Bytes.{netting_bytes, offsetting_bytes, net-offset_bytes, shortest_bytes}

module _ (s : List ℕ) (every : Every (λ (byte : ℕ). byte < 256) s) where
  pub netting_bytes_says : (class : ℕ) → 1 ≤ class → class ≤ 4
      → Kept [] (rows_of (netted_book s) class) (rows_of s class)
  netting_bytes_says = each_class_lem (netting_bytes s every)

  pub offsetting_bytes_says : Sublistᴰ (rows_of (offset_book s) 1) (rows_of s 1)
      × (rows_of (offset_book s) 2 ≡ rows_of s 2) × (rows_of (offset_book s) 3 ≡ rows_of s 3)
      × (rows_of (offset_book s) 4 ≡ rows_of s 4)
  offsetting_bytes_says =
      let book = offsetting_bytes s every in
      let same = others book.others in
      (book.interest, same.0, same.1, same.2)

  pub shortest_bytes_says : ((refusal_of s).number ≡ 2 → shortest_file s ≡ take 8 s)
      × ((refusal_of s).number ≡ 3 → (count_of_rows (counts_of s) ≡ 0 → ⊥) → shortest_file s ≡ take 8 s)
      × (4 ≤ (refusal_of s).number
      → drop 8 (shortest_file s) ≡ take 16 (drop (8 + 16 * (refusal_of s).row) s))
  shortest_bytes_says = let file = shortest_bytes s every in (file.of-2, file.of-3, file.of_row)

pub net-offset_bytes_says : (s : List ℕ)
    → Sublistᴰ (rows_of (net_offset_book s) 1) (rows_of (netted_book s) 1)
    × (rows_of (net_offset_book s) 2 ≡ rows_of (netted_book s) 2)
    × (rows_of (net_offset_book s) 3 ≡ rows_of (netted_book s) 3)
    × (rows_of (net_offset_book s) 4 ≡ rows_of (netted_book s) 4)
net-offset_bytes_says s =
    let book = net-offset_bytes s in
    let same = others book.others in
    (book.interest, same.0, same.1, same.2)

-- rows so kept: each keeps bytes 0 to 7, in the file's order
pub heads_say : {seen : List ℕ} {written rows : List (List ℕ)} → Kept seen written rows
    → Sublistᴰ (map (take 8) written) (map (take 8) rows)
heads_say no_rows = Sublistᴰ.slnil
heads_say (stays e kept) = Sublistᴰ.cons-cons refl (heads_say kept)
heads_say (netted some new e kept) = Sublistᴰ.cons-cons e (heads_say kept)
heads_say (dropped some new kept) = Sublistᴰ.cons (heads_say kept)
heads_say (later some old kept) = Sublistᴰ.cons (heads_say kept)

-- one without an issue number is written as it lies there
pub stays_says : {seen : List ℕ} {written rows : List (List ℕ)} → Kept seen written rows
    → (row : List ℕ) → Memᴰ row rows → u16_at row 6 ≡ 0 → Memᴰ row written
stays_says (stays e kept) row (Memᴰ.head own) zero-issue = Memᴰ.head own
stays_says (stays e kept) row (Memᴰ.tail after) zero-issue = Memᴰ.tail (stays_says kept row after zero-issue)
stays_says (netted some new e kept) row (Memᴰ.head own) zero-issue = absurd (some (rw own at zero-issue))
stays_says (netted some new e kept) row (Memᴰ.tail after) zero-issue = Memᴰ.tail (stays_says kept row after zero-issue)
stays_says (dropped some new kept) row (Memᴰ.head own) zero-issue = absurd (some (rw own at zero-issue))
stays_says (dropped some new kept) row (Memᴰ.tail after) zero-issue = stays_says kept row after zero-issue
stays_says (later some old kept) row (Memᴰ.head own) zero-issue = absurd (some (rw own at zero-issue))
stays_says (later some old kept) row (Memᴰ.tail after) zero-issue = stays_says kept row after zero-issue
stays_says (no_rows {seen = seen}) row x9 zero-issue = elim x9 [ ]

-- of two rows of one issue the first alone is written for
seen_first : (first issue : ℕ) → issue ≡ first → has (first ∷ []) issue ≡ false → ⊥
unfolding has
seen_first first issue same new = false≢true (sym new ∙ simp (eq-eqb first issue (sym same)))

seen_none : (issue : ℕ) → has [] issue ≡ true → ⊥
unfolding has
seen_none issue old = false≢true old

pub first_says : (written : List (List ℕ)) (a b : List ℕ) → Kept [] written (a ∷ b ∷ [])
    → (u16_at a 6 ≡ 0 → ⊥) → u16_at b 6 ≡ u16_at a 6
    → (written ≡ []) ⊎ ((w : List ℕ) × (written ≡ w ∷ []) × (take 8 w ≡ take 8 a))
first_says written a b (netted {net = w} some' new e (later some'' old no_rows)) some same = inr (w, refl, e)
first_says written a b (dropped some' new (later some'' old no_rows)) some same = inl refl
first_says written a b (stays e kept) some same = absurd (some e)
first_says written a b (later some' old kept) some same = absurd (seen_none (u16_at a 6) old)
first_says written a b (netted some' new e (stays e' kept)) some same = absurd (some (sym same ∙ e'))
first_says written a b (netted some' new e (netted some'' new' e' kept)) some same = absurd (seen_first (u16_at a 6) (u16_at b 6) same new')
first_says written a b (netted some' new e (dropped some'' new' kept)) some same = absurd (seen_first (u16_at a 6) (u16_at b 6) same new')
first_says written a b (dropped some' new (stays e' kept)) some same = absurd (some (sym same ∙ e'))
first_says written a b (dropped some' new (netted some'' new' e' kept)) some same = absurd (seen_first (u16_at a 6) (u16_at b 6) same new')
first_says written a b (dropped some' new (dropped some'' new' kept)) some same = absurd (seen_first (u16_at a 6) (u16_at b 6) same new')
