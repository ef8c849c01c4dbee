use Rattle.gptp_network_tests.proofs.SoonLemmas.{soon}
use Rattle.gptp_network_tests.proofs.soon.go_on.Goals as goal

pub returns-in-Ok : goal.returns-in-Ok
returns-in-Ok g c =
    let went = c.in-Ok.ensures.advanced in
    soon g.F.Fate.answers c.starts_settle_at_once.ensures.worlds c.args.world.now.fate c.advance.new.self.fate went.0
    c.args.world.now.world_core c.advance.new.self.world_core c.requires went.1 c.well_formed-in-Ok.ensures.claimed
