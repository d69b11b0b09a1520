-- `charges::adding::Sums::add_amounts` meets its contract: there is room for a row's amounts.
use Rattle.std.proofs.Common.{arith}
use Rattle.ladder.proofs.Arrays.{long_at, short_at}
use Rattle.charges.proofs.adding.Sums.add_amounts.Goals as goal

pub with_row-requires : goal.with_row-requires
with_row-requires c =
    let at = c.args.at in
    let room = c.requires.room in
    omega (
      arith,
      room.in_longs.room at (omega arith),
      room.in_shorts.room at (omega arith),
      long_at c.args.self.now.positions at,
      short_at c.args.self.now.positions at,
    )
