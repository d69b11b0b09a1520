-- Netting one issue (P1), over the rows of one class: the rows of an issue become one, in the place of the first.
use Rattle.std.specs.Prelude.{ℕ, Bool, false, cond, ◌||◌, List, [], ◌∷◌, eqb}
use Rattle.book.specs.declared.Row.{Row}
use Rattle.ladder.specs.declared.positions.Position.{Position}
use Rattle.ladder.specs.Position.{Bands, gross, net}
use Rattle.ladder.specs.Rows.{positions_by}

-- the longs and shorts of each issue number (P1)
abbrev pub issues_of : List Row → Bands
issues_of = positions_by (λ row. row.issue) (λ row. row.long) (λ row. row.short)

-- whether an issue number is in a list (P1)
unfoldable pub has : List ℕ → ℕ → Bool
has [] issue = false
has (first ∷ seen) issue = eqb first issue || has seen issue

-- a row with other amounts: its bytes 0 to 7 stay (P1)
abbrev pub holding : Row → Position → Row
holding row position =
    record {
      group = row.group;
      kind = row.kind;
      days = row.days;
      coupon = row.coupon;
      issue = row.issue;
      long = position.long;
      short = position.short;
    }

-- a net in the place of a row; one that is zero is dropped (P1)
unfoldable pub placed : Row → Position → List Row → List Row
placed row position more = cond (eqb (gross position) 0) more (holding row position ∷ more)

-- the netted rows, after others whose issues were seen: a row of issue 0 stays as it is; the first row of an issue stands for all of them, with
-- their net; the later ones are gone (P1)
unfoldable pub netted_from : List ℕ → List Row → List Row
netted_from seen [] = []
netted_from seen (row ∷ rows) =
    cond (eqb row.issue 0) (row ∷ netted_from seen rows)
    (cond (has seen row.issue) (netted_from seen rows)
    (placed row (net (issues_of (row ∷ rows) row.issue)) (netted_from (row.issue ∷ seen) rows)))

-- the netted rows of a class (P1)
abbrev pub netted_rows : List Row → List Row
netted_rows = netted_from []
