-- A side by its number, and what the other side has more.
use Rattle.std.specs.Prelude.{ℕ, ◌-◌, ◌≡◌, ◌<◌, cond, eqb, Result, MatchResult}
use Rattle.book.specs.declared.reasons.Reason.{Reason}
use Rattle.book.specs.declared.reasons.Reason.TheVariants.{Place}
use Rattle.ladder.specs.declared.positions.Position.{Position}
use Rattle.trade.specs.declared.side.Side.{Side}
use Rattle.trade.specs.declared.side.Side.TheVariants.{Long, Short}

-- the number of a side
abbrev pub side_number : Side → ℕ
side_number Long = 0
side_number Short = 1

-- a side's number gives the side, and no other number does
abbrev pub IsSideOf : ℕ → Result Side Reason → Type 0
IsSideOf number side = MatchResult side (λ is. side_number is ≡ number) (λ reason. (reason ≡ Place) × (1 < number))

-- by how much the side that nothing is added to exceeds the other
abbrev pub excess_in : ℕ → Position → ℕ
excess_in side whole = cond (eqb side 0) (whole.short - whole.long) (whole.long - whole.short)
