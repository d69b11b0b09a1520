-- A bank with foreign exchange and commodities alone (P11): what its call gives for any bytes.
use Rattle.std.specs.Prelude.{ℕ, ◌+◌, cond, List, Result, eqb}
use Rattle.book.specs.Counts.{counts_of}
use Rattle.book.specs.Legs.{legs_of}
use Rattle.book.specs.declared.Refusal.{Refusal}
use Rattle.book.specs.Refusals.{contents_refusal, refused, first_refusal}
use Rattle.book.specs.declared.reasons.Refused.{Refused}
use Rattle.book.specs.Reasons.{told, figure_in}
use Rattle.charges.specs.Charges.{exchange_general, simplified_commodity}
use Rattle.charges.specs.Report.{class_rows}
use Rattle.charges.specs.declared.SmallBank.{SmallBank as Figures}

-- a refusal, and the figures: all zero where it is refused (P11)
pub record SmallBank : Type 0 where
  pub refusal : Refusal
  pub exchange : ℕ
  pub commodity : ℕ
  pub total : ℕ

-- what is refused before the rows: 1, 2, 3, then 20, an interest or equity count above zero (P11)
unfoldable pub small_number : List ℕ → ℕ
small_number s =
    cond (eqb (contents_refusal s) 0) (cond (eqb ((counts_of s).interest + (counts_of s).equity) 0) 0 20) (contents_refusal s)

-- and then the rows in file order (document 01, Who is told no, and why; P11)
unfoldable pub small_refusal : List ℕ → Refusal
small_refusal s = cond (eqb (small_number s) 0) (first_refusal 0 (legs_of s)) (refused (small_number s) 0)

-- two charges, and their sum is the total (P11)
unfoldable pub small_with : Refusal → (exchange commodity : ℕ) → SmallBank
small_with refusal exchange commodity = record { refusal = refusal; exchange = exchange; commodity = commodity; total = exchange + commodity }

-- the figures of an accepted book; of a refused one none (P11)
unfoldable pub small_bank_of : List ℕ → SmallBank
small_bank_of s =
    let refusal = small_refusal s in
    cond (eqb refusal.number 0) (small_with refusal (exchange_general (class_rows s 3)) (simplified_commodity (class_rows s 4))) (small_with refusal 0 0)

-- the answer of the call in numbers (P11)
unfoldable pub small_answer : Result Figures Refused → SmallBank
small_answer r =
    record {
      refusal = told r;
      exchange = figure_in (λ figures. figures.exchange) r;
      commodity = figure_in (λ figures. figures.commodity) r;
      total = figure_in (λ figures. figures.total) r;
    }
