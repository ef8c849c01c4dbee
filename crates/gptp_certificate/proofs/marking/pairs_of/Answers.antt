use Rattle.std.proofs.Common.{subst, sym}
use Rattle.gptp_certificate.specs.Marking.{AreAmong}
use Rattle.gptp_certificate.proofs.marking.pairs_of.Goals as goal

pub pair_of-requires-clause-among : goal.pair_of-requires-clause-among
pair_of-requires-clause-among c =
    subst (AreAmong c.args.clocks.now) (sym c.link-item.is)
    (c.requires.among c.loop-link.link-index c.link-item.result c.loop-link-test.true)
