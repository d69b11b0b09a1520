-- A call that writes a book into an output of so many bytes: 12 comes after its other refusals; what it gives, and the output afterwards.
use Rattle.std.specs.Prelude.{ℕ, cond, List, length, ltb, eqb, Result}
use Rattle.book.specs.declared.Refusal.{Refusal}
use Rattle.book.specs.Refusals.{refused}
use Rattle.book.specs.declared.Refused.{Refused}
use Rattle.book.specs.Reasons.{told, figure_in}
use Rattle.layout.specs.Written.{written}

-- the first of two refusals that applies (document 01, Who is told no, and why)
unfoldable pub or_next : Refusal → Refusal → Refusal
or_next refusal next = cond (eqb refusal.number 0) next refusal

-- 12: an output shorter than the result (document 01, Who is told no, and why)
unfoldable pub room_refusal : (size room : ℕ) → Refusal
room_refusal size room = cond (ltb room size) (refused 12 0) (refused 0 0)

-- a figure of the answer: 0 where the call is refused (document 01, Who is told no, and why)
unfoldable pub figure_of : Refusal → ℕ → ℕ
figure_of refusal figure = cond (eqb refusal.number 0) figure 0

-- what a call gives: why it is refused, all zero where it is not, and the length of what it writes, 0 where it is refused (document 01, Joining)
pub record Written : Type 0 where
  pub refusal : Refusal
  pub length : ℕ

-- an answer as such a record (document 01, Joining)
abbrev pub written_answer : Result ℕ Refused → Written
written_answer answer = record { refusal = told answer; length = figure_in (λ size. size) answer }

-- the answer: the refusal and the length of what is written (document 01, Joining)
unfoldable pub written_of : Refusal → List ℕ → Written
written_of refusal book = record { refusal = refusal; length = figure_of refusal (length book) }

-- the output afterwards: the book at its start, the bytes past it as they were; of a refused call all of them (document 01, Joining; P1)
unfoldable pub output_of : Refusal → (book out : List ℕ) → List ℕ
output_of refusal book out = cond (eqb refusal.number 0) (written out 0 book) out
