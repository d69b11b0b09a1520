-- What loading gives: the refusal, and what the bytes hold where there are 36 of them.
use Rattle.std.specs.Prelude.{cond, List, ℕ, eqb, length, replicate, Result, Ok, Err}
use Rattle.book.specs.Reasons.{number_of}
use Rattle.ladder.specs.declared.Percents.{Percents}
use Rattle.ladder.specs.declared.Table.{Table}
use Rattle.table.specs.declared.RefusedTable.{RefusedTable}
use Rattle.table.specs.Loaded.{table_size, table_bands, table_of, table_refusal}

-- why a table is refused, 0 where it is not, and what it holds
pub record Loaded : Type 0 where
  pub number : ℕ
  pub table : Table

abbrev pub no_percents : Percents
no_percents = record { vertical = 0; zone1 = 0; zone2 = 0; zone3 = 0; adjacent = 0; apart = 0 }

abbrev pub no_table : Table
no_table = record { weights = replicate table_bands 0; percents = no_percents }

unfoldable pub loaded_of : List ℕ → Loaded
loaded_of bytes = record { number = table_refusal bytes; table = cond (eqb (length bytes) table_size) (table_of bytes) no_table }

-- what an answer of loading tells
unfoldable pub loaded : Result Table RefusedTable → Loaded
loaded (Ok table) = record { number = 0; table = table }
loaded (Err refused) = record { number = number_of refused.reason; table = refused.table }
