use Rattle.std.proofs.Common.{sym, subst}
use Rattle.gptp_world.specs.Directory.{AreNamed}
use Rattle.gptp_world.proofs.directory.list_ends.Goals as goal

pub ends_of-requires : goal.ends_of-requires
ends_of-requires c =
    subst (AreNamed c.args.clocks.now) (sym c.join-item.is)
    (c.requires c.loop-join.join-index c.join-item.result c.loop-join-test.true)
