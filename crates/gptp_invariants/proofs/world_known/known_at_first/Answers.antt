use Rattle.gptp_invariants.proofs.WorldKnownLemmas.{begins_known}
use Rattle.gptp_invariants.proofs.world_known.known_at_first.Goals as goal

pub returns : goal.returns
returns g c = begins_known g.F.Fate.answers
