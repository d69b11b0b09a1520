-- What a part of a table holds.
-- Assumes nothing.
use mathlib.Core.Path.{◌≡◌, ◌∙◌}
use mathlib.Core.List.{List}
use Prim.Native.Nat.{ℕ, ◌+◌, ◌≤◌}
use native.Mathlib.Omega.{arith}
use lib.ListN.{length, take, drop, get_or, length-drop}
use lib.Seq.{get_or-take, get_or-drop, length-take-le}
use Rattle.sums.specs.Inner.Tables.{Reads}
use Rattle.ladder.specs.declared.positions.Position.{Position}
use Rattle.ladder.specs.Position.{empty}
use Rattle.ladder.specs.Inner.Steps.{bands}
use Rattle.ladder.proofs.Agreeing.{Agree}
use Rattle.charges.specs.Inner.Tables.{bands_from}

-- of numbers
pub part_reads : (first n : ℕ) (table : List ℕ) → Reads n (λ k. get_or table (first + k) 0) (take n (drop first table))
part_reads first n table = record { below = λ k h. get_or-take n (drop first table) k 0 h ∙ get_or-drop first table k 0 }

pub part_sized : (first n : ℕ) (table : List ℕ) → first + n ≤ length table → length (take n (drop first table)) ≡ n
part_sized first n table h = length-take-le n (drop first table) (rw length-drop (omega arith))

-- of positions: the bands that stand there
pub part_agrees : (first n : ℕ) (positions : List Position) → Agree n (bands (take n (drop first positions))) (bands_from positions first)
part_agrees first n positions =
    record { below = λ k h. get_or-take n (drop first positions) k empty h ∙ get_or-drop first positions k empty }
