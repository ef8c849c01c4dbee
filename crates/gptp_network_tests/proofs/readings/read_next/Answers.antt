use Rattle.gptp_network_tests.specs.Pair.{params}
use Rattle.gptp_network_tests.proofs.ExactLemmas.{goes_on}
use Rattle.gptp_network_tests.proofs.readings.read_next.Goals as goal

pub returns-in-Ok-clause-since : goal.returns-in-Ok-clause-since
returns-in-Ok-clause-since g c =
    let w = c.args.world.now.world_core in
    goes_on params g.F.Fate.answers 27000000000 c.in-Some.timed c.args.world.now.fate c.act.new.self.fate w
    c.act.new.self.world_core c.in-Ok.done c.requires c.well_formed-2.ensures.sound c.in-Some.ensures.next
    c.in-Ok.ensures.done
