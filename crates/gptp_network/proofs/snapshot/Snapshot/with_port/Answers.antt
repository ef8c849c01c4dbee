-- A port more leads to a system, or nowhere.
use Rattle.std.proofs.Common.{◌+◌, sym, subst}
use Rattle.gptp_network.specs.PathBound.{NeighboursAreKnown}
use Rattle.gptp_network.specs.Snapshot.{port_identity}
use Rattle.gptp_network.proofs.PathBoundLemmas.{known_none, known_some}
use Rattle.gptp_network.proofs.snapshot.Snapshot.with_port.Goals as goal

pub returns-in-Some : goal.returns-in-Some
returns-in-Some c =
    let g = c.args.self.now in let p = c.args.port in
    subst (NeighboursAreKnown g p.clock (p.port + 1)) (sym c.with_neighbour.ensures)
    (known_some g c.well_formed-2.ensures.network p.clock p.port c.args.known (port_identity c.in-Some.other)
    c.requires.known c.in-Some.ensures.some)

pub returns-in-None : goal.returns-in-None
returns-in-None c =
    let g = c.args.self.now in let p = c.args.port in
    known_none g c.well_formed-2.ensures.network p.clock p.port c.args.known c.requires.known
    c.in-None.ensures.none
