-- `book::Counts::rows` meets its contract: the rows before a fifth class are all rows.
use native.Mathlib.Omega.{arith}
use Rattle.book.proofs.Placing.{before-all}
use Rattle.book.proofs.Counts.rows.Goals as goal

pub returns : goal.returns
returns c = omega (arith, c.rows_before.ensures, before-all c.args.self 5 (omega arith))
