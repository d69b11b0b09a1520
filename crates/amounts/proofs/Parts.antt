-- The part of a class of an accepted book as it is read: its rows, and the number of the first.
-- Assumes nothing.
use mathlib.Core.Path.{◌≡◌, ap, ◌∙◌}
use mathlib.Core.List.{List}
use Prim.Native.Nat.{ℕ, ◌≤◌}
use Rattle.book.specs.declared.Counts.{Counts}
use Rattle.book.specs.Counts.{counts_of, rows_before, body_of}
use Rattle.book.specs.Legs.{legs_of, of_class}
use Rattle.book.specs.Inner.Reading.{part_rows}
use Rattle.book.specs.Accepted.{Accepted}
use Rattle.book.proofs.ClassRows.{part_rows_lem}

pub record PartIs (s : List ℕ) (class first : ℕ) (part : List ℕ) : Type 0 where
  pub first_is : first ≡ rows_before (counts_of s) class
  pub rows_are : part_rows part ≡ of_class class (legs_of s)

pub part_is : {s : List ℕ} → Accepted s → {counts : Counts} → counts ≡ counts_of s → {class : ℕ} → 1 ≤ class → class ≤ 4
    → {first : ℕ} → first ≡ rows_before counts class → {part : List ℕ} → part ≡ body_of s class → PartIs s class first part
part_is {s} ok own {class} low high is_first is_part =
    record {
      first_is = is_first ∙ ap (λ (counts : Counts). rows_before counts class) own;
      rows_are = ap part_rows is_part ∙ part_rows_lem s ok class low high;
    }
