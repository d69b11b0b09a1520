-- `options::options` meets its contract: 16 or 17, then 12, or the book and what is charged.
use mathlib.Core.Path.{◌≡◌, sym, ap, ◌∙◌}
use mathlib.Core.List.{List, [], ◌∷◌}
use native.Mathlib.Omega.{arith}
use Rattle.std.proofs.Common.{rules}
use lib.ListN.{length, get_or}
use Prim.Native.Nat.{ℕ}
use Rattle.book.specs.Counts.{count_of_rows}
use Rattle.book.specs.Reasons.{told}
use Rattle.options.specs.Table.{options_of}
use Rattle.options.specs.Refusals.{options_refusal}
use Rattle.options.specs.Greeks.{gamma_charge, vega_charge}
use Rattle.layout.specs.Written.{written}
use Rattle.options.specs.Options.{options_book}
use Rattle.options.specs.Inner.Writing.{delta_counts}
use Rattle.options.proofs.Outcome.{each_class, outside, too_short, wrote}
use Rattle.options.proofs.options.Goals.{In_ok-table, After-rows}
use Rattle.options.proofs.options.Goals as goal

-- an array of three
three : (xs : List ℕ) {a b c : ℕ} → length xs ≡ 3 → get_or xs 0 0 ≡ a → get_or xs 1 0 ≡ b → get_or xs 2 0 ≡ c → xs ≡ a ∷ b ∷ c ∷ []
three (x ∷ y ∷ z ∷ []) size first second third = rw (first, second, third)
three [] size first second third = let never : ⊥ = omega arith in absurd never
three (x ∷ []) size first second third = let never : ⊥ = omega arith in absurd never
three (x ∷ y ∷ []) size first second third = let never : ⊥ = omega arith in absurd never
three (x ∷ y ∷ z ∷ w ∷ more) size first second third = let never : ⊥ = omega arith in absurd never

-- the rows of the book
many-rows : (c : After-rows) → c.rows.result ≡ count_of_rows (delta_counts (options_of c.args.table.now))
many-rows c = c.rows.ensures.0 ∙ ap count_of_rows (c.counts-counts.ensures ∙ ap (λ (s : List ℕ). delta_counts (options_of s)) c.in_ok-table.ensures.bytes)

none_told : (c : In_ok-table) → (options_refusal c.args.table.now).number ≡ 0
none_told c = ap (λ (s : List ℕ). (options_refusal s).number) (sym c.in_ok-table.ensures.bytes) ∙ c.in_ok-table.table.taken

pub returns-in_err-table : goal.returns-in_err-table
unfolding told
returns-in_err-table c = outside c.args.table.now c.args.out.now _ _ c.from_residual.ensures.1 c.in_err-table.ensures.refusal

pub returns-then-out-length : goal.returns-then-out-length
returns-then-out-length c =
    let at = goal.at.returns-then-out-length c in
    too_short c.args.table.now c.args.out.now (none_told at.In_ok-table) (omega (arith, many-rows at.After-rows, c.if-out-length.true)) c.from.ensures

pub returns : goal.returns
returns c =
    let gammas_each = c.map.ensures.items.each in
    let vegas_each = c.map-2.ensures.items.each in
    let gammas : c.map.result ≡ each_class gamma_charge (options_of c.args.table.now) = three c.map.result c.map.ensures.items.long (search rules) (search rules) (search rules) in
    let vegas : c.map-2.result ≡ each_class vega_charge (options_of c.args.table.now) = three c.map-2.result c.map-2.ensures.items.long (search rules) (search rules) (search rules) in
    let writes = c.write_book.ensures ∙ ap (λ (s : List ℕ). written c.args.out.now 0 (options_book s)) c.in_ok-table.ensures.bytes in
    wrote c.args.table.now c.args.out.now (none_told (goal.at.returns c).In_ok-table) (omega (arith, many-rows (goal.at.returns c).After-rows, c.if-out-length.false)) writes
    (omega (arith, many-rows (goal.at.returns c).After-rows)) gammas vegas c.standard.ensures c.charge.ensures
