use Rattle.std.proofs.Common.{sym, subst, Contains}
use Rattle.gptp_world.proofs.directory.places_of.Goals as goal

pub place_among-requires : goal.place_among-requires
place_among-requires c =
    subst (Contains c.args.clocks.now) (sym c.number-item.is)
    (c.requires c.loop-number.number-index c.number-item.result c.loop-number-test.true)
