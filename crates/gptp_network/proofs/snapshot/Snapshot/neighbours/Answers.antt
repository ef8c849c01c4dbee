-- No port has the number 0; in the end all have been gone through.
use Rattle.std.proofs.Common.{◌≡◌, ◌+◌, subst, arith}
use Rattle.gptp_network.specs.PathBound.{NeighboursAreKnown}
use Rattle.gptp_network.proofs.PathBoundLemmas.{known_at_first}
use Rattle.gptp_network.proofs.snapshot.Snapshot.neighbours.Goals as goal

pub loop-place-init : goal.loop-place-init
loop-place-init c = known_at_first c.args.self.now c.well_formed-2.ensures.network c.args.clock

pub returns : goal.returns
returns c =
    let end = c.loop-place.auto.place-end in let test = c.loop-place-test.false in
    let all : c.loop-place.place ≡ c.args.ports = omega (arith, end, test) in
    subst (λ n. NeighboursAreKnown c.args.self.now c.args.clock (n + 1) c.loop-place.known) all c.loop-place.invariant
