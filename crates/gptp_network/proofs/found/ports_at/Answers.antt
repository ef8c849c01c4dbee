-- What is told of the system at the place is the system's.
use Rattle.std.proofs.Common.{slice_get, ◌∙◌}
use Rattle.gptp_network.proofs.FoundLemmas.{no_ports, ports_told}
use Rattle.gptp_network.proofs.found.ports_at.Goals as goal

pub returns-in-Some : goal.returns-in-Some
returns-in-Some c =
    c.ports_by.ensures
    ∙ ports_told c.args.clock (slice_get c.args.network.now.systems c.args.place) c.in-Some.system c.in-Some.ensures

pub returns-in-None : goal.returns-in-None
returns-in-None c = no_ports c.args.clock (slice_get c.args.network.now.systems c.args.place) c.in-None.ensures
