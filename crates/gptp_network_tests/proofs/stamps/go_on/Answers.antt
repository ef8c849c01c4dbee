use Rattle.gptp_network_tests.proofs.ExactLemmas.{stamped_pair}
use Rattle.gptp_network_tests.proofs.stamps.go_on.Goals as goal

pub returns-in-Ok : goal.returns-in-Ok
returns-in-Ok g c =
    let went = c.in-Ok.ensures.advanced in
    stamped_pair g.F.Fate.answers c.args.world.now.fate c.advance.new.self.fate went.0 c.args.world.now.world_core
    c.advance.new.self.world_core c.requires went.1
