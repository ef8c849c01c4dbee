use Rattle.gptp_network_tests.proofs.PairLemmas.{comes_to}
use Rattle.gptp_network_tests.proofs.drawn.go_on.Goals as goal

pub returns-in-Ok : goal.returns-in-Ok
returns-in-Ok g c =
    let went = c.in-Ok.ensures.advanced in
    comes_to g.F.Fate.answers c.args.world.now.fate c.advance.new.self.fate went.0 c.args.time
    c.args.world.now.world_core
    c.advance.new.self.world_core c.requires.begun went.1 c.well_formed-in-Ok.ensures.claimed
