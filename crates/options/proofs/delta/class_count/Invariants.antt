-- `options::delta::class_count` meets its contract: the rows before are counted.
use Prim.Native.Nat.{◌≤◌}
use mathlib.Core.Path.{◌≡◌}
use lib.ListN.{length}
use Rattle.options.specs.Inner.Reading.{options_to}
use Rattle.options.specs.Inner.Writing.{delta_rows}
use Rattle.options.proofs.delta.class_count.Given as goal

abbrev pub invariant-loop-row : goal.invariant-loop-row
invariant-loop-row l = record { so_far : l.count ≡ length (delta_rows l.class (options_to l.table.bytes.now l.row)); below : l.count ≤ l.row }
