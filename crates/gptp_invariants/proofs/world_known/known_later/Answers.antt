use Rattle.gptp_invariants.proofs.WorldLaterLemmas.{later_known}
use Rattle.gptp_invariants.proofs.world_known.known_later.Goals as goal

pub returns : goal.returns
returns c = later_known
