-- `layout::copy_front` meets its contract. The loop keeps that out is the first i bytes of src and then its own.
use mathlib.Core.Path.{◌≡◌}
use mathlib.Core.List.{◌++◌}
use lib.ListN.{length, take, drop}
use Rattle.layout.proofs.copy_front.Given as goal

abbrev pub invariant-loop-i : goal.invariant-loop-i
invariant-loop-i l = (l.out ≡ take l.i l.src ++ drop l.i l.initial.out) × (length l.out ≡ length l.initial.out)
