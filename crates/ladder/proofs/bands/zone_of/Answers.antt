-- `ladder::bands::zone_of` meets its contract: before a band it has what the bands of the zone up to it sum to.
use Rattle.std.proofs.Common.{◌<◌, ap, refl, arith}
use Rattle.ladder.specs.Position.{gross}
use Rattle.ladder.proofs.Gathering.{part_is, gathered_room, gathered_next}
use Rattle.ladder.proofs.bands.zone_of.Goals as goal

pub with_band-zone-requires : goal.with_band-zone-requires
with_band-zone-requires c =
    let within : c.loop-position.position-index < c.args.many = omega arith in
    let own = part_is c.args.positions.now c.args.start c.args.many _ within in (
      omega (
        arith,
        gathered_room c.loop-position.invariant c.args.many within c.requires.many_bound,
        ap gross own,
      ),
      c.loop-position.invariant.sums,
    )

pub loop-position-preserved : goal.loop-position-preserved
loop-position-preserved c =
    let within : c.loop-position.position-index < c.args.many = omega arith in
    gathered_next c.loop-position.invariant c.with_band-zone.ensures
    (part_is c.args.positions.now c.args.start c.args.many _ within) refl (omega arith)
