-- The accepted books and tables are those that are described directly; and what each class is handed.
-- Assumes nothing.
use mathlib.Core.Path.{◌≡◌, refl}
use mathlib.Core.Logic.{◌⊎◌, inl, inr}
use mathlib.Core.Bool.{Bool, true, false, cond, ◌&&◌}
use mathlib.Core.List.{List, [], flat_map}
use Prim.Native.Nat.{ℕ, ◌+◌, ◌*◌, ◌<◌}
use lib.Dec.{leb}
use borrow.Author.Tests.{eq-eqb, ne_eqb, lt-leb}
use Rattle.sums.specs.Every.{none, also}
use Rattle.sums.proofs.Cases.{cond_same}
use Rattle.book.specs.Counts.{contents_size, row_size, counts_of, count_in, rows_before}
use Rattle.book.specs.Refusals.{refusal_of}
use Rattle.book.specs.Parts.{accepts, part_of, start_by, part_start, part_length}
use Rattle.book.proofs.Placing.{none_past}
use Rattle.book.proofs.Bodies.{whole_file}
use Rattle.book.proofs.Acceptance.{accepted, refused-with_none}
use Rattle.book.proofs.Handing.{part_lies, part_within}
use Rattle.table.proofs.Accepting.{described, taken, standard_accepted}
use Rattle.claims.specs.Demands.{AcceptingHolds, AcceptingTableHolds, StandardHolds, HandingHolds, PartPlacesHolds}

pub accepting : AcceptingHolds
accepting s = record { described = accepted s; taken = refused-with_none s }

pub accepting_table : AcceptingTableHolds
accepting_table bytes = record { described = described bytes; taken = taken bytes }

pub standard : StandardHolds
standard = standard_accepted

-- ---- where a part lies
module _ (s : List ℕ) where
  nowhere : ((refusal_of s).number ≡ 0 → ⊥) → (class : ℕ) → (part_start s class ≡ 0)
      × (part_length s class ≡ 0)
  unfolding part_start part_length accepts
  nowhere bad class = let test = ne_eqb (refusal_of s).number 0 bad in (rw test refl, rw test refl)

  no_start : (class : ℕ) → (class ≡ 0) ⊎ (4 < class) → start_by (counts_of s) class ≡ 0
  unfolding start_by
  no_start class (inl first) = rw first refl
  no_start class (inr past) = rw (lt-leb class 4 past) (go (leb 1 class))
    where
      go : (test : Bool)
          → cond (test && false) (contents_size + row_size * rows_before (counts_of s) class) 0 ≡ 0
      go true = refl
      go false = refl

  no_rows : (class : ℕ) → (class ≡ 0) ⊎ (4 < class) → count_in (counts_of s) class ≡ 0
  unfolding count_in
  no_rows class (inl first) = rw first refl
  no_rows class (inr past) = none_past (counts_of s) class past

  no_place : (class : ℕ) → (class ≡ 0) ⊎ (4 < class) → (part_start s class ≡ 0)
      × (part_length s class ≡ 0)
  unfolding part_start part_length
  no_place class none_of =
      (rw (no_start class none_of) (cond_same (accepts s) 0), rw (no_rows class none_of) (cond_same (accepts s) 0))

pub handing : HandingHolds
unfolding part_of accepts flat_map
handing s =
    record {
      whole = λ e. simp (eq-eqb _ _ e) (whole_file s (accepted s e).sized);
      empty = λ bad. also (nothing bad 1) (also (nothing bad 2) (also (nothing bad 3) (also (nothing bad 4) none)));
    }
  where
    nothing : ((refusal_of s).number ≡ 0 → ⊥) → (class : ℕ) → part_of s class ≡ []
    nothing bad class = simp (ne_eqb _ _ bad)

pub part_places : PartPlacesHolds
part_places s =
    record {
      lies = part_lies s;
      within = part_within s;
      of_refused = nowhere s;
      of_no_class = λ class none_of. no_place s class none_of;
    }
