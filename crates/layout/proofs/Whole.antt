-- The file that some counts and bodies make: its length, its counts and its bodies, and when it is an accepted book.
-- Assumes nothing.
use mathlib.Core.Path.{◌≡◌, refl, sym, ap, ◌∙◌}
use mathlib.Core.List.{List, flat_map}
use Prim.Native.Nat.{ℕ, zero, suc, ◌+◌, ◌*◌, ◌/◌, ◌%◌, ◌≤◌}
use native.Mathlib.Decide.{dec_le}
use native.Mathlib.Numerals.{add-one}
use native.Mathlib.Omega.{arith}
use lib.ListN.{length, take, drop, length-append}
use lib.Seq.{take_all, take_at, drop_at, drop-drop}
use Rattle.sums.specs.Every.{Every}
use Rattle.book.specs.declared.Counts.{Counts}
use Rattle.book.specs.Fields.{u16_at}
use Rattle.book.specs.Counts.{contents_size, row_size, classes, counts_of, count_in, rows_before, count_of_rows, body_by, body_of}
use Rattle.book.proofs.Placing.{from_class, from_first, from_next, none_past, before-none, before-next}
use Rattle.book.specs.Rows.{rows_in, rows_of, decode}
use Rattle.book.specs.Refusals.{most_rows}
use Rattle.book.specs.Accepted.{Clean, Accepted}
use Rattle.book.proofs.Acceptance.{clean_legs}
use Rattle.layout.specs.Files.{two_bytes_of, contents_bytes, file_of}

pub contents_length : (counts : Counts) → length (contents_bytes counts) ≡ contents_size
unfolding contents_bytes flat_map two_bytes_of
contents_length counts = refl

pub two_bytes : (n : ℕ) → n % 256 + 256 * (n / 256) ≡ n
two_bytes n = omega arith

module _ (counts : Counts) (body : ℕ → List ℕ) where
  pub file_counts : counts_of (file_of counts body) ≡ counts
  unfolding counts_of u16_at file_of contents_bytes flat_map two_bytes_of count_in
  file_counts = simp two_bytes

  module _ (sizes : (class : ℕ) → length (body class) ≡ row_size * count_in counts class) where
    -- what lies from the first row of a class on
    from_class_lem : (k : ℕ) → k ≤ 4 → drop (contents_size + row_size * rows_before counts (suc k)) (file_of counts body) ≡ from_class body (suc k)
    unfolding file_of from_class
    from_class_lem zero h =
        let start : length (contents_bytes counts) ≡ contents_size + row_size * rows_before counts 1 = omega (arith, contents_length counts, before-none counts 1 (omega arith)) in
        drop_at (contents_bytes counts) (flat_map body classes) _ start ∙ sym (from_first body)
    from_class_lem (suc k) h =
        let here = contents_size + row_size * rows_before counts (suc k) in
        let size = row_size * count_in counts (suc k) in
        let next : here + size ≡ contents_size + row_size * rows_before counts (suc (suc k)) = omega (arith, rw add-one at (before-next counts (suc k))) in
        ap (λ (n : ℕ). drop n (file_of counts body)) (sym next)
        ∙ sym (drop-drop size here (file_of counts body))
        ∙ ap (drop size) (from_class_lem k (omega arith) ∙ from_next body (suc k) (omega arith) h)
        ∙ drop_at (body (suc k)) _ size (sizes (suc k))

    -- of a number that is no class both are empty
    pub file_body : (class : ℕ) → body_of (file_of counts body) class ≡ body class
    unfolding body_of body_by count_in
    file_body class = rw file_counts (go class (dec_le class 4))
      where
        Body : ℕ → Type 0
        Body class = take (row_size * count_in counts class) (drop (contents_size + row_size * rows_before counts class) (file_of counts body)) ≡ body class

        none : (class : ℕ) → count_in counts class ≡ 0 → Body class
        none class e = rw e (take_all 0 (body class) (omega (arith, sizes class)))

        go : (class : ℕ) → Dec (class ≤ 4) → Body class
        go zero d = none zero refl
        go (suc k) (yes h) =
            ap (take (row_size * count_in counts (suc k))) (from_class_lem k (omega arith) ∙ from_next body (suc k) (omega arith) h)
            ∙ take_at (body (suc k)) _ _ (sizes (suc k))
        go (suc k) (no h) = none (suc k) (none_past counts (suc k) (omega arith))

    pub file_length : length (file_of counts body) ≡ contents_size + row_size * count_of_rows counts
    unfolding file_of flat_map count_of_rows count_in
    file_length =
        simp length-append (omega (arith, contents_length counts, sizes 1, sizes 2, sizes 3, sizes 4))

    -- counts that sum to at most 4,000, bodies of those sizes and clean rows make an accepted book
    pub file_accepted : count_of_rows counts ≤ most_rows → ((class : ℕ) → 1 ≤ class → class ≤ 4 → Every (λ bytes. Clean class (decode bytes)) (rows_in (body class)))
        → Accepted (file_of counts body)
    unfolding rows_of
    file_accepted few clean =
        let size = file_length in
        record {
          contents = omega arith;
          few = rw file_counts few;
          sized = rw file_counts size;
          clean = clean_legs (file_of counts body) (λ class low high. rw (file_body class) (clean class low high));
        }
