-- `join::join` meets its contract: each refusal in its order, or the joined book written.
-- Assumes nothing.
use mathlib.Core.Path.{◌≡◌, refl, sym, ap, subst, ◌∙◌}
use mathlib.Core.List.{List, flat_map}
use Prim.Native.Nat.{ℕ, ◌+◌, ◌*◌, ◌≤◌, ◌<◌}
use native.Mathlib.Omega.{arith}
use lib.ListN.{length}
use Rattle.book.specs.declared.Book.{Book}
use Rattle.book.specs.Counts.{contents_size, classes, counts_of, count_of_rows}
use Rattle.book.specs.Refusals.{most_rows, refused}
use Rattle.book.specs.Reasons.{number_of, numbers_of}
use Rattle.book.specs.Accepted.{Accepted}
use Rattle.book.proofs.Acceptance.{accepts_accepted}
use Rattle.book.proofs.Numbers.{some_told}
use Rattle.layout.specs.Written.{written}
use Rattle.join.specs.Joined.{in_book, joined_counts, joined_body, joined}
use Rattle.join.proofs.JoinedBook.{joined_length}
use Rattle.join.proofs.Settling.{Joins, first_refused, second_refused, too_many, too_long}
use Rattle.join.proofs.Outcome.{bodies_size, refused-answer, refused-output, accepted-answer, accepted-output}
use Rattle.join.proofs.join.Goals.{After-rows-rows}
use Rattle.join.proofs.join.Goals as goal

-- what is known of a book that was read
read_accepted : {s : List ℕ} (read : Book) → read.bytes.now ≡ s → Accepted s
read_accepted read e = subst Accepted e (accepts_accepted read.bytes.now read.accepted)

read_counts : {s : List ℕ} (read : Book) → read.bytes.now ≡ s → read.counts ≡ counts_of s
read_counts read e = read.own ∙ ap counts_of e

few : {s : List ℕ} (read : Book) → read.bytes.now ≡ s → count_of_rows read.counts ≤ 4000
few read e = omega (arith, ap count_of_rows (read_counts read e), (read_accepted read e).few)

pub returns-in_err-first : goal.returns-in_err-first
unfolding in_book
returns-in_err-first c =
    let told = c.in_err-first.ensures.refusal in
    let is = told ∙ sym (first_refused c.args.a.now c.args.b.now (length c.args.out.now) (some_told _ told)) in
    record { answer = refused-answer _ _ _ _ is _ c.from_residual.ensures.1; output = refused-output _ _ _ _ is }

pub returns-in_err-second : goal.returns-in_err-second
unfolding in_book
returns-in_err-second c =
    let told = c.in_err-second.ensures.refusal in
    let first = read_accepted c.in_ok-first.first c.in_ok-first.ensures.bytes in
    let is = told ∙ sym (second_refused c.args.a.now c.args.b.now (length c.args.out.now) first (some_told _ told)) in
    record { answer = refused-answer _ _ _ _ is _ c.from_residual-in_err-second.ensures.1; output = refused-output _ _ _ _ is }

pub add-counts-requires : goal.add-counts-requires
add-counts-requires c = omega (arith, few c.in_ok-first.first c.in_ok-first.ensures.bytes, few c.in_ok-second.second c.in_ok-second.ensures.bytes)

-- the counts and the rows of the joined book
sum : (c : After-rows-rows) → c.add-counts.result ≡ joined_counts c.args.a.now c.args.b.now
unfolding joined_counts
sum c =
    let first = read_counts c.in_ok-first.first c.in_ok-first.ensures.bytes in
    let second = read_counts c.in_ok-second.second c.in_ok-second.ensures.bytes in
    rw (first, second) at c.add-counts.ensures

rows : (c : After-rows-rows) → c.rows-rows.result ≡ count_of_rows (joined_counts c.args.a.now c.args.b.now)
rows c = c.rows-rows.ensures.0 ∙ ap count_of_rows (sum c)

size : (c : After-rows-rows) → 8 + 16 * c.rows-rows.result ≡ length (joined c.args.a.now c.args.b.now)
size c =
    let first = read_accepted c.in_ok-first.first c.in_ok-first.ensures.bytes in
    let second = read_accepted c.in_ok-second.second c.in_ok-second.ensures.bytes in
    omega (arith, rows c, joined_length _ _ first second)

pub returns-then-rows-gt-MOST_ROWS : goal.returns-then-rows-gt-MOST_ROWS
unfolding numbers_of number_of refused
returns-then-rows-gt-MOST_ROWS c =
    let first = read_accepted c.in_ok-first.first c.in_ok-first.ensures.bytes in
    let second = read_accepted c.in_ok-second.second c.in_ok-second.ensures.bytes in
    let many : most_rows < count_of_rows (joined_counts c.args.a.now c.args.b.now) = omega (arith, rows (goal.at.returns-then-rows-gt-MOST_ROWS c).After-rows-rows) in
    let is = ap numbers_of c.from.ensures ∙ sym (too_many c.args.a.now c.args.b.now (length c.args.out.now) first second many) in
    record { answer = refused-answer _ _ _ _ is _ refl; output = refused-output _ _ _ _ is }

pub returns-then-out-length : goal.returns-then-out-length
unfolding numbers_of number_of refused
returns-then-out-length c =
    let first = read_accepted c.in_ok-first.first c.in_ok-first.ensures.bytes in
    let second = read_accepted c.in_ok-second.second c.in_ok-second.ensures.bytes in
    let few : count_of_rows (joined_counts c.args.a.now c.args.b.now) ≤ most_rows = omega (arith, rows (goal.at.returns-then-out-length c).After-rows-rows) in
    let long : length c.args.out.now < length (joined c.args.a.now c.args.b.now) = omega (arith, size (goal.at.returns-then-out-length c).After-rows-rows) in
    let is = ap numbers_of c.from-then-out-length.ensures ∙ sym (too_long c.args.a.now c.args.b.now (length c.args.out.now) first second few long) in
    record { answer = refused-answer _ _ _ _ is _ refl; output = refused-output _ _ _ _ is }

-- past the tests the join is not refused
ok : (c : After-rows-rows) → c.rows-rows.result ≤ most_rows → 8 + 16 * c.rows-rows.result ≤ length c.args.out.now
    → Joins c.args.a.now c.args.b.now (length c.args.out.now)
ok c few fits =
    record {
      first = read_accepted c.in_ok-first.first c.in_ok-first.ensures.bytes;
      second = read_accepted c.in_ok-second.second c.in_ok-second.ensures.bytes;
      few = omega (arith, rows c);
      fits = omega (arith, size c);
    }

bodies : (c : After-rows-rows) → joined_body c.in_ok-first.first.bytes.now c.in_ok-second.second.bytes.now ≡ joined_body c.args.a.now c.args.b.now
bodies c = cc (c.in_ok-first.ensures.bytes, c.in_ok-second.ensures.bytes)

pub write_bodies-requires : goal.write_bodies-requires
write_bodies-requires c =
    let place = (goal.at.write_bodies-requires c).After-rows-rows in
    let same = ap (λ (body : ℕ → List ℕ). length (flat_map body classes)) (bodies place) in
    omega (arith, same, bodies_size c.args.a.now c.args.b.now, size place)

pub returns : goal.returns
returns c =
    let place = (goal.at.returns c).After-rows-rows in
    let good = ok place c.if-rows-gt-MOST_ROWS.false c.if-out-length.false in
    let same = ap (λ (body : ℕ → List ℕ). written c.write_contents.new.out contents_size (flat_map body classes)) (bodies place) in
    record {
      answer = accepted-answer _ _ _ good _ (size place);
      output = accepted-output _ _ _ good _ _ _ (sum place) c.write_contents.ensures (c.write_bodies.ensures ∙ same);
    }
