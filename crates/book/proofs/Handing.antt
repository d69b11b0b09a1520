-- What the reader gives, of any bytes: its counts, the parts by them, and that no row of a part is refused.
-- Assumes nothing.
use mathlib.Core.Path.{◌≡◌, refl, sym, ap, subst, ◌∙◌}
use mathlib.Core.Bool.{Bool, true, false, cond, ◌&&◌}
use mathlib.Core.List.{List, []}
use Prim.Native.Nat.{ℕ, zero, suc, ◌+◌, ◌*◌, ◌≤◌}
use native.Mathlib.Omega.{arith}
use lib.ListN.{length, take, drop, length-map}
use lib.Dec.{eqb, leb}
use borrow.Author.Tests.{eq-eqb, ne_eqb, eqb-true}
use Rattle.sums.specs.Every.{Every, none}
use Rattle.sums.proofs.Cases.{cond_same}
use Rattle.sums.proofs.Every.{mapped_every}
use Rattle.book.specs.Counts.{Counts, contents_size, row_size, counts_of, count_in, rows_before, count_of_rows, body_by, body_of}
use Rattle.book.specs.Rows.{chunks, rows_in, rows_of, decode}
use Rattle.book.specs.Legs.{legs_of, of_class}
use Rattle.book.specs.Refusals.{most_rows, refused, contents_refusal, first_refusal, refusal_of}
use Rattle.book.specs.Accepted.{Clean}
use Rattle.book.specs.Inner.Reading.{part_rows, ReadOf}
use Rattle.std.proofs.Common.{Result, Ok, Err}
use Rattle.std.specs.Result.{IsErrAnd}
use Rattle.book.specs.declared.Handed.{Handed as Place}
use Rattle.book.specs.Reasons.{Refused, numbers_of, told, figure_in}
use Rattle.book.specs.Parts.{accepts, part_of, start_by, part_start, part_length, handed_of, handed_answer}
use Rattle.book.proofs.Numbers.{some_told}
use Rattle.book.proofs.Placing.{none_past, before-within}
use Rattle.book.proofs.Bodies.{class_count_lem}
use Rattle.book.proofs.Walking.{class_rows_lem}
use Rattle.book.proofs.Acceptance.{accepted, accepts_accepted, class_clean}

-- the refusal of contents that are refused, and of contents that pass
pub refused_contents : (s : List ℕ) → (contents_refusal s ≡ 0 → ⊥) → refusal_of s ≡ refused (contents_refusal s) 0
unfolding refusal_of
refused_contents s bad = simp (ne_eqb _ 0 bad)

pub passed_contents : (s : List ℕ) → contents_refusal s ≡ 0 → refusal_of s ≡ first_refusal 0 (legs_of s)
unfolding refusal_of
passed_contents s e = simp (eq-eqb _ _ e)

-- a book that passes is accepted, and one that is refused is not
pub passed_accepts : (s : List ℕ) → refused 0 0 ≡ refusal_of s → accepts s ≡ true
unfolding accepts refused
passed_accepts s e = rw (← e)

pub refused_accepts : (s : List ℕ) (r : Refused) → numbers_of r ≡ refusal_of s → accepts s ≡ false
unfolding accepts
refused_accepts s r e = ne_eqb _ 0 (some_told r e)

-- what the reader gives of an accepted book
pub accepted_reads : (s : List ℕ) → accepts s ≡ true → {counts : Counts} → counts ≡ counts_of s → ReadOf s counts
unfolding part_of body_of rows_of
accepted_reads s e {counts} own =
    let a = accepts_accepted s e in
    let part : (class : ℕ) → part_of s class ≡ body_of s class = λ class. simp e in
    record {
      own = own;
      few = rw own a.few;
      parts = λ class. ap (λ (c : Counts). body_by c s class) own ∙ sym (part class);
      sizes = λ class. ap (λ body. length (part_rows body)) (part class) ∙ length-map (rows_of s class) decode ∙ class_count_lem s a.sized class ∙ ap (λ (c : Counts). count_in c class) (sym own);
      rows = λ class low high. ap part_rows (part class) ∙ sym (class_rows_lem s class low high);
      clean = λ class low high. subst (λ body. Every (Clean class) (part_rows body)) (sym (part class)) (mapped_every decode (λ bytes clean. clean) (class_clean s a class low high));
    }

-- ---- where a part lies
module _ (counts : Counts) where
  start_lies : (s : List ℕ) (class : ℕ)
      → take (row_size * count_in counts class) (drop (start_by counts class) s) ≡ body_by counts s class
  unfolding start_by count_in body_by
  start_lies s zero = refl
  start_lies s (suc zero) = refl
  start_lies s (suc (suc zero)) = refl
  start_lies s (suc (suc (suc zero))) = refl
  start_lies s (suc (suc (suc (suc zero)))) = refl
  start_lies s (suc (suc (suc (suc (suc n))))) = simp (none_past counts (suc (suc (suc (suc (suc n))))) (omega arith))

  start_within : (class : ℕ)
      → start_by counts class + row_size * count_in counts class ≤ contents_size + row_size * count_of_rows counts
  unfolding start_by
  start_within class = go (leb 1 class && leb class 4)
    where
      go : (one : Bool)
          → cond one (contents_size + row_size * rows_before counts class) 0 + row_size * count_in counts class
          ≤ contents_size + row_size * count_of_rows counts
      go true = omega (arith, before-within counts class)
      go false = omega (arith, before-within counts class)

module _ (s : List ℕ) (class : ℕ) where
  -- it is where the part starts, and as long
  pub part_lies : take (part_length s class) (drop (part_start s class) s) ≡ part_of s class
  unfolding part_start part_length part_of body_of
  part_lies = go (accepts s)
    where
      go : (out : Bool)
          → take (cond out (row_size * count_in (counts_of s) class) 0)
          (drop (cond out (start_by (counts_of s) class) 0) s)
          ≡ cond out (body_by (counts_of s) s class) []
      go true = start_lies (counts_of s) s class
      go false = refl

  -- and ends within the file
  pub part_within : part_start s class + part_length s class ≤ length s
  unfolding part_start part_length accepts
  part_within = go (eqb (refusal_of s).number 0) refl
    where
      go : (out : Bool) → eqb (refusal_of s).number 0 ≡ out
          → cond out (start_by (counts_of s) class) 0 + cond out (row_size * count_in (counts_of s) class) 0
          ≤ length s
      go true t = omega (arith, (accepted s (eqb-true _ _ t)).sized, start_within (counts_of s) class)
      go false t = omega arith

-- ---- what is handed to a class
module _ (s : List ℕ) (class : ℕ) where
  pub part_accepted : accepts s ≡ true → part_of s class ≡ body_of s class
  unfolding part_of
  part_accepted e = simp e

  pub part_refused : accepts s ≡ false → part_of s class ≡ []
  unfolding part_of
  part_refused e = simp e

  pub handed_refused : (answer : Result Place Refused) (r : Refused) → IsErrAnd answer (λ y. y ≡ r) → numbers_of r ≡ refusal_of s → handed_answer answer ≡ handed_of s class
  unfolding handed_answer handed_of told figure_in part_start part_length
  handed_refused (Ok place) r h e = absurd h
  handed_refused (Err own) r h e =
      let refusal : numbers_of own ≡ refusal_of s = ap numbers_of h ∙ e in
      let out = refused_accepts s r e in
      simp (refusal, out)

  pub handed_accepted : refused 0 0 ≡ refusal_of s → (start length : ℕ) → start ≡ start_by (counts_of s) class → length ≡ row_size * count_in (counts_of s) class
      → handed_answer (Ok (record { start = start; length = length })) ≡ handed_of s class
  unfolding handed_answer handed_of told figure_in part_start part_length
  handed_accepted e start length is_start is_length =
      let out = passed_accepts s e in
      simp (out, e, is_start, is_length)
