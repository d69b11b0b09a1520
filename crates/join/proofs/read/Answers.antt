-- `join::read` meets its contract: the book of a refusal is the one that it was read as.
use mathlib.Core.Path.{◌≡◌, ap, ◌∙◌}
use mathlib.Core.List.{List}
use Prim.Native.Nat.{ℕ}
use Rattle.std.proofs.Common.{Result, Ok, Err, MatchResult, IfOk, IfErr, IsErrAnd, of_calls, rules}
use Rattle.book.specs.declared.Book.{Book}
use Rattle.book.specs.declared.reasons.Refused.{Refused}
use Rattle.book.specs.Reasons.{numbers_of, told}
use Rattle.book.specs.Refusals.{refusal_of}
use Rattle.join.specs.Joined.{in_book}
use Rattle.join.proofs.read.Goals as goal

module _ (s : List ℕ) (book : ℕ) where
  passed_on : (answer mapped : Result Book Refused)
      → MatchResult answer (λ read. mapped ≡ Ok read) (λ r. IsErrAnd mapped (λ y. y ≡ record r { book = book }))
      → told answer ≡ refusal_of s → IfOk answer (λ read. read.bytes.now ≡ s)
      → IfOk mapped (λ read. read.bytes.now ≡ s) × IfErr mapped (λ r. numbers_of r ≡ in_book book (refusal_of s))
  unfolding told numbers_of in_book
  passed_on (Ok read) (Ok own) e tells bytes = (cc, tt)
  passed_on (Ok read) (Err r) e tells bytes = cc
  passed_on (Err r) (Ok read) e tells bytes = absurd e
  passed_on (Err r) (Err own) e tells bytes = (tt, ap numbers_of e ∙ ap (in_book book) tells)

pub returns : goal.returns
returns c =
    let both = passed_on c.args.bytes.now c.args.book c.read.result c.map_err.result (search (of_calls, rules)) c.read.ensures.refusal c.read.ensures.bytes in
    record { bytes = both.0; refusal = both.1 }
