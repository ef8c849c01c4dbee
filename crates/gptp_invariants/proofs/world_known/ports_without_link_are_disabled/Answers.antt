use Rattle.gptp_invariants.proofs.WorldDueLemmas.{unlinked_disabled}
use Rattle.gptp_invariants.proofs.world_known.ports_without_link_are_disabled.Goals as goal

pub returns : goal.returns
returns c = unlinked_disabled
