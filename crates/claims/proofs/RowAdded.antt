-- An amount added to a band (P13) as a row more of the book: the book with it is accepted, and its
-- ladder is the one that is charged; and there is such a row for every band.
-- Assumes nothing.
use Prim.Native.Nat.{ℕ, ◌+◌, ◌-◌, ◌*◌, ◌≤◌, ◌<◌}
use mathlib.Core.Path.{◌≡◌, refl, sym, ap, ◌∙◌, fun_ext}
use mathlib.Core.Bool.{Bool, true, false, cond}
use mathlib.Core.List.{List, [], ◌∷◌, ◌++◌, map}
use native.Mathlib.Omega.{arith}
use borrow.Author.Tests.{eq-eqb}
use lib.Dec.{eqb}
use lib.ListN.{length-append, get_or}
use Rattle.sums.specs.Every.{Every, none, also}
use Rattle.sums.specs.Sums.{sum_of, span}
use Rattle.sums.proofs.Every.{every_append}
use Rattle.sums.proofs.Filling.{listed_at}
use Rattle.book.specs.declared.Row.{Row}
use Rattle.book.specs.declared.Refusal.{Refusal}
use Rattle.book.specs.Counts.{counts_of, count_in, count_of_rows}
use Rattle.book.specs.Refusals.{least_kind, most_kind, most_days, most_coupon, floating}
use Rattle.book.specs.Refusals.{most_rows, refused}
use Rattle.book.specs.Accepted.{Clean, Accepted, plain}
use Rattle.book.proofs.Placing.{of_four}
use Rattle.book.proofs.Passing.{passes_clean, clean_passes}
use Rattle.book.proofs.Acceptance.{accepted, refused-with_none}
use Rattle.book.proofs.ClassRows.{class_size, rows_clean}
use Rattle.ladder.specs.declared.positions.Position.{Position}
use Rattle.ladder.specs.declared.Table.{Table}
use Rattle.ladder.specs.declared.InterestFigures.{InterestFigures}
use Rattle.ladder.specs.Position.{Bands, empty, at_band}
use Rattle.ladder.specs.Table.{weight_in}
use Rattle.ladder.specs.Interest.{interest_figures}
use Rattle.ladder.specs.Rows.{weighing, ladder_of}
use Rattle.ladder.proofs.Matching.{same_position}
use Rattle.ladder.proofs.Totals.{◌⊞◌}
use Rattle.ladder.proofs.Books.{ladder_of_append}
use Rattle.layout.specs.Files.{counts_by}
use Rattle.layout.proofs.Rows.{book_legs, book_accepted}
use Rattle.table.specs.Loaded.{table_of}
use Rattle.charges.specs.Bands.{first_band, low_column, low_coupon, interest_band, band_in}
use Rattle.charges.specs.Charges.{reading, interest_figures_of}
use Rattle.charges.specs.Report.{class_rows}
use Rattle.trade.specs.Trade.{on_side, charge_with}
use Rattle.trade.proofs.Sides.{side_times, side_alone, side_gross}
use Rattle.claims.specs.Trade.{TradeRow, with_row, AmountAddedHolds, trade_bond, TradeBondsHold}
use Rattle.claims.proofs.Trade.{trade_passes, ladder_figures}

-- ---- the ladder of one row
module _ (table : Table) {group band side amount : ℕ} {row : Row}
    (is : TradeRow group band side amount row) where
  row_ladder : ladder_of (weighing table (reading 1)) group (row ∷ [])
      ≡ at_band band (on_side side (weight_in table band * amount))
  unfolding sum_of band_in
  row_ladder =
      fun_ext (λ k.
      let same = eq-eqb group group refl in
      rw (is.in_band, is.of_currency, is.long, is.short, same) (go (eqb band k)))
    where
      weight : ℕ
      weight = weight_in table band

      -- its sums at a band, which is its own or not
      at : Bool → Position
      at own = record {
        long = cond own (weight * (on_side side amount).long) 0 + 0;
        short = cond own (weight * (on_side side amount).short) 0 + 0;
      }

      go : (own : Bool) → at own ≡ cond own (on_side side (weight * amount)) empty
      go true = same_position (omega arith) (omega arith) ∙ side_times side weight amount
      go false = refl

  -- with some rows before it
  row_charged : (rows : List Row) → charge_with table group band side rows amount
      ≡ (interest_figures_of table group (rows ++ (row ∷ []))).charge
  unfolding charge_with interest_figures_of
  row_charged rows =
      let read = weighing table (reading 1) in
      ap (λ (f : Bands). (interest_figures table.percents f).charge)
      (ap (λ (f : Bands). ladder_of read group rows ⊞ f) (sym row_ladder)
      ∙ sym (ladder_of_append read group rows (row ∷ [])))

-- ---- the book with the row
module _ (s : List ℕ) (row : Row) where
  abbrev rows : ℕ → List Row
  rows class = cond (eqb class 1) (class_rows s 1 ++ (row ∷ [])) (class_rows s class)

  own_rows : class_rows (with_row s row) 1 ≡ class_rows s 1 ++ (row ∷ [])
  unfolding with_row
  own_rows = book_legs rows 1 (omega arith) (omega arith)

  has_room : Accepted s → count_of_rows (counts_of s) < most_rows → count_of_rows (counts_by rows) ≤ most_rows
  unfolding count_of_rows counts_by count_in
  has_room ok few =
      omega (
        arith,
        few,
        length-append (class_rows s 1) (row ∷ []),
        class_size s ok 1 (omega arith) (omega arith),
        class_size s ok 2 (omega arith) (omega arith),
        class_size s ok 3 (omega arith) (omega arith),
        class_size s ok 4 (omega arith) (omega arith),
      )

  with_accepted : Accepted s → count_of_rows (counts_of s) < most_rows → Clean 1 row
      → Accepted (with_row s row)
  unfolding with_row
  with_accepted ok few clean =
      book_accepted rows (has_room ok few)
      (of_four (λ class. Every (Clean class) (rows class))
      (every_append (rows_clean s ok 1 (omega arith) (omega arith)) (also clean none))
      (rows_clean s ok 2 (omega arith) (omega arith))
      (rows_clean s ok 3 (omega arith) (omega arith))
      (rows_clean s ok 4 (omega arith) (omega arith)))

pub amount_added : AmountAddedHolds
unfolding refused
amount_added table s group band side amount row e few is =
    let passes = trade_passes table s group band side e in
    let ok = accepted s passes.accepted in
    let book = with_accepted s row ok few (passes_clean 1 row is.accepted) in
    let none = ap (λ (r : Refusal). r.number) (refused-with_none (with_row s row) book) in
    let figures = ladder_figures table s (with_row s row) group passes none in
    let of : List Row → ℕ = λ rows. (interest_figures_of (table_of table) group rows).charge in (
      none,
      row_charged (table_of table) is (class_rows s 1)
          ∙ ap of (sym (own_rows s row))
          ∙ ap (λ (f : InterestFigures). f.charge) (sym figures),
    )

-- ---- a row for each band
-- two functions whose lists are the same
same_listed : (f g : ℕ → ℕ) (n : ℕ) → map f (span 0 n) ≡ map g (span 0 n)
    → (k : ℕ) → k < n → f k ≡ g k
same_listed f g n e k h =
    sym (listed_at f n k h) ∙ ap (λ (list : List ℕ). get_or list k 0) e ∙ listed_at g n k h

-- the last day of a band lies in it, and is allowed
last_day : ℕ → ℕ
last_day band = get_or low_column band (most_days 1)

last_lies : (band : ℕ) → band < 15 → first_band (last_day band) low_column ≡ band
unfolding span last_day most_days first_band
last_lies = same_listed (λ band. first_band (last_day band) low_column) (λ band. band) 15 refl

last_allowed : (band : ℕ) → band < 15 → last_day band - most_days 1 ≡ 0
unfolding span last_day most_days
last_allowed = same_listed (λ band. last_day band - most_days 1) (λ band. 0) 15 refl

pub trade_bonds : TradeBondsHold
unfolding interest_band low_coupon last_day least_kind most_kind most_coupon floating
trade_bonds group band side amount known place some few =
    let amounts = side_gross side amount in
    record {
      accepted = clean_passes 1 (trade_bond group band side amount) (record {
        group = known;
        kind_from = omega arith;
        kind_to = omega arith;
        terms = plain refl (omega (arith, last_allowed band (omega arith))) (omega arith);
        one_side = side_alone side amount some;
        long = omega (arith, amounts);
        short = omega (arith, amounts);
      });
      of_currency = refl;
      in_band = last_lies band (omega arith);
      long = refl;
      short = refl;
    }
