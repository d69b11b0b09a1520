-- 11 and 12, by the claims on the dearest book and on joining: the rows are not computed.
-- Assumes nothing.
use Prim.Native.Nat.{ℕ, ◌+◌}
use mathlib.Core.Path.{◌≡◌, refl, sym, ◌∙◌}
use mathlib.Core.List.{List}
use native.Mathlib.Omega.{arith}
use Rattle.book.specs.Counts.{counts_of, count_of_rows}
use Rattle.book.specs.Refusals.{refused}
use Rattle.book.specs.Accepted.{Accepted}
use Rattle.book.proofs.Acceptance.{accepted}
use Rattle.book.proofs.Walking.{legs_length}
use Rattle.join.specs.Joined.{added_counts, joined_counts}
use Rattle.join.proofs.JoinedBook.{joined_length}
use Rattle.dearest.specs.Dearest.{limits_refusal}
use Rattle.claims.proofs.Dearest.{dearest}
use Rattle.claims.proofs.Uses.Joins.{eleven_says, twelve_says, joins-says}
use Rattle.worked.specs.RoomFacts.{many, RoomHolds}

module _ (rows : ℕ) (few : (limits_refusal rows 1).number ≡ 0) where
  many-accepted : Accepted (many rows)
  many-accepted = accepted (many rows) (dearest rows 1 few).within.accepted

  many-rows : count_of_rows (counts_of (many rows)) ≡ rows
  many-rows = sym (legs_length (many rows) many-accepted.sized) ∙ (dearest rows 1 few).within.many

passes : ((limits_refusal 2000 1).number ≡ 0) × ((limits_refusal 2001 1).number ≡ 0)
unfolding limits_refusal refused
passes = (refl, refl)

-- the rows of two books together
added : (a b : List ℕ) → count_of_rows (joined_counts a b) ≡ count_of_rows (counts_of a) + count_of_rows (counts_of b)
unfolding count_of_rows joined_counts added_counts
added a b = omega arith

pub room_holds : RoomHolds
room_holds =
    let of-2000 = many-accepted 2000 passes.0 in
    let of-2001 = many-accepted 2001 passes.1 in
    let rows : count_of_rows (joined_counts (many 2000) (many 2000)) ≡ 4000 = omega (arith, added (many 2000) (many 2000), many-rows 2000 passes.0) in
    let rows' : count_of_rows (joined_counts (many 2001) (many 2000)) ≡ 4001 =
    omega (arith, added (many 2001) (many 2000), many-rows 2000 passes.0, many-rows 2001 passes.1) in
    let size = joined_length (many 2000) (many 2000) of-2000 of-2000 in
    record {
      fits = joins-says (many 2000) (many 2000) of-2000 of-2000 64008 (omega arith) (omega arith);
      short = twelve_says (many 2000) (many 2000) of-2000 of-2000 64007 (omega arith) (omega arith);
      too_many = λ room. eleven_says (many 2001) (many 2000) of-2001 of-2000 room (omega arith);
    }
