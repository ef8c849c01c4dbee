use Rattle.gptp_network.proofs.LawLemmas.{within_limits}
use Rattle.gptp_network.proofs.laws.a_snapshot_is_within_limits.Goals as goal

pub returns : goal.returns
returns c = within_limits
