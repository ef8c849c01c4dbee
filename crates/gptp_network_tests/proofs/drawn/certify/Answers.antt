use Rattle.gptp_network_tests.proofs.PairLemmas.{certified}
use Rattle.gptp_network_tests.proofs.drawn.certify.Goals as goal

pub returns-in-Ok : goal.returns-in-Ok
returns-in-Ok g c =
    certified c.args.world.now.world_core c.in-Ok.certificate.lines c.requires c.in-Ok.ensures.states
    c.in-Ok.ensures.right
