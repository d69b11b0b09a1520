-- The joined book: the counts added, each body of A followed by B's; who is told no; and the output afterwards.
use Rattle.std.specs.Prelude.{ℕ, ◌+◌, cond, not, List, ◌++◌, length, ltb, eqb, Result}
use Rattle.book.specs.declared.Counts.{Counts}
use Rattle.book.specs.declared.Refusal.{Refusal}
use Rattle.book.specs.Counts.{counts_of, count_of_rows, body_of}
use Rattle.book.specs.Refusals.{most_rows, refused, refusal_of}
use Rattle.book.specs.declared.reasons.Refused.{Refused}
use Rattle.book.specs.Reasons.{told, figure_in}
use Rattle.layout.specs.Written.{written}
use Rattle.layout.specs.Files.{file_of}

-- counts added class by class (document 01, Joining)
unfoldable pub added_counts : Counts → Counts → Counts
added_counts a b =
    record {
      interest = a.interest + b.interest;
      equity = a.equity + b.equity;
      exchange = a.exchange + b.exchange;
      commodity = a.commodity + b.commodity;
    }

-- the counts of the joined book (document 01, Joining)
unfoldable pub joined_counts : List ℕ → List ℕ → Counts
joined_counts a b = added_counts (counts_of a) (counts_of b)

-- the body of a class in the joined book: A's followed by B's (document 01, Joining)
unfoldable pub joined_body : List ℕ → List ℕ → ℕ → List ℕ
joined_body a b class = body_of a class ++ body_of b class

-- the joined book (document 01, Joining)
unfoldable pub joined : List ℕ → List ℕ → List ℕ
joined a b = file_of (joined_counts a b) (joined_body a b)

-- a refusal of book 0, which is A, or of book 1, which is B (document 01, Who is told no, and why)
unfoldable pub in_book : ℕ → Refusal → Refusal
in_book book refusal = record { number = refusal.number; row = refusal.row; book = book }

-- A's refusal, then B's, then 11, then 12, by the joined rows, the joined length and the room (document 01, Who is told no, and why)
unfoldable pub settled : Refusal → Refusal → ℕ → ℕ → ℕ → Refusal
settled first second rows size room =
    cond (not (eqb first.number 0)) (in_book 0 first)
    (cond (not (eqb second.number 0)) (in_book 1 second)
    (cond (ltb most_rows rows) (refused 11 0)
    (cond (ltb room size) (refused 12 0) (refused 0 0))))

-- the refusal of a join into an output of so many bytes (document 01, Who is told no, and why)
unfoldable pub join_refusal : List ℕ → List ℕ → ℕ → Refusal
join_refusal a b room = settled (refusal_of a) (refusal_of b) (count_of_rows (joined_counts a b)) (length (joined a b)) room

-- why a join is refused, all zero where it is not, and the joined length, 0 where it is refused
-- (document 01, Joining)
pub record Joined : Type 0 where
  pub refusal : Refusal
  pub length : ℕ

-- what the call's answer tells (document 01, Joining)
unfoldable pub joined_answer : Result ℕ Refused → Joined
joined_answer answer = record { refusal = told answer; length = figure_in (λ size. size) answer }

-- the answer of a join: its refusal and the joined length, 0 where it is refused (document 01, Joining)
unfoldable pub joined_of : List ℕ → List ℕ → ℕ → Joined
joined_of a b room =
    record {
      refusal = join_refusal a b room;
      length = cond (eqb (join_refusal a b room).number 0) (length (joined a b)) 0;
    }

-- the output afterwards: the joined book at its start, the bytes past it as they were; of a refused join all of them (document 01, Joining)
unfoldable pub join_output : List ℕ → List ℕ → List ℕ → List ℕ
join_output a b out = cond (eqb (join_refusal a b (length out)).number 0) (written out 0 (joined a b)) out
