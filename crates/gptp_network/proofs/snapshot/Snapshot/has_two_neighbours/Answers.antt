-- All ports of the system have been gone through.
use Rattle.std.proofs.Common.{◌+◌, subst, ◌∙◌}
use Rattle.gptp_network.specs.PathBound.{NeighboursAreKnown}
use Rattle.gptp_network.specs.Snapshot.{system_of}
use Rattle.gptp_network.proofs.PathBoundLemmas.{known_at, nobody_there}
use Rattle.gptp_network.proofs.snapshot.Snapshot.has_two_neighbours.Goals as goal

pub returns-in-Some : goal.returns-in-Some
returns-in-Some c =
    let g = c.args.self.now in
    c.are_several.ensures
    ∙ known_at g c.args.place (system_of c.in-Some.system) c.neighbours.result
    c.well_formed-2.ensures.network c.in-Some.ensures
    (subst (λ v. NeighboursAreKnown g v (c.in-Some.system.1 + 1) c.neighbours.result) c.clock.ensures
    c.neighbours.ensures)

pub returns-in-None : goal.returns-in-None
returns-in-None c = nobody_there c.args.self.now c.args.place c.requires c.in-None.ensures
