-- `charges::tables::band_sum` meets its contract: the loop keeps what the bands before come to.
use mathlib.Core.Path.{◌≡◌, sym, ap, ◌∙◌}
use mathlib.Core.List.{List}
use Prim.Native.Nat.{ℕ, ◌+◌, ◌<◌}
use native.Mathlib.Nat.{zero-add}
use native.Mathlib.Numerals.{add-one}
use native.Mathlib.Omega.{arith}
use Rattle.sums.specs.Sums.{span}
use Rattle.ladder.specs.declared.positions.Position.{Position}
use Rattle.ladder.specs.Position.{◌⊕◌, gross, total}
use Rattle.ladder.specs.Commodity.{commodity_band_count}
use Rattle.ladder.specs.Inner.Steps.{bands}
use Rattle.ladder.proofs.Matching.{same_position}
use Rattle.ladder.proofs.Gathering.{part_is}
use Rattle.ladder.proofs.Totals.{total-last, fewer_within}
use Rattle.charges.specs.Inner.Tables.{bands_from}
use Rattle.charges.proofs.tables.band_sum.Goals as goal

-- one band more
next : (positions : List Position) (first n : ℕ)
    → total (bands_from positions first) (span 0 (n + 1)) ≡ total (bands_from positions first) (span 0 n) ⊕ bands positions (first + n)
next positions first n =
    rw add-one
    (total-last (bands_from positions first) 0 n
    ∙ ap (λ (k : ℕ). total (bands_from positions first) (span 0 n) ⊕ bands_from positions first k) (zero-add n))

pub loop-position-init : goal.loop-position-init
unfolding total span
loop-position-init c = same_position c.default-sum.ensures.0 c.default-sum.ensures.1

pub add-sum-requires : goal.add-sum-requires
add-sum-requires c =
    let at = c.loop-position.position-index in
    let positions = c.args.positions.now in
    let first = c.args.first in
    let within : at < commodity_band_count = omega arith in
    omega (
      arith,
      ap gross c.loop-position.invariant,
      ap gross (part_is positions first commodity_band_count at within),
      ap gross (next positions first at),
      fewer_within (bands_from positions first) 0 (at + 1) commodity_band_count (omega arith),
      c.requires.1,
    )

pub loop-position-preserved : goal.loop-position-preserved
loop-position-preserved c =
    let at = c.loop-position.position-index in
    let within : at < commodity_band_count = omega arith in
    c.add-sum.ensures.0
    ∙ ap (λ (own : Position). c.loop-position.sum ⊕ own) (part_is c.args.positions.now c.args.first commodity_band_count at within)
    ∙ ap (λ (sum : Position). sum ⊕ bands c.args.positions.now (c.args.first + at)) c.loop-position.invariant
    ∙ sym (next c.args.positions.now c.args.first at)

pub returns : goal.returns
returns c =
    let all : c.loop-position.position-index ≡ commodity_band_count = omega arith in
    c.loop-position.invariant
    ∙ ap (λ (n : ℕ). total (bands_from c.args.positions.now c.args.first) (span 0 n)) all
