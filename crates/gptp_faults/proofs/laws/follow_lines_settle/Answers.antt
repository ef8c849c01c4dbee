use Rattle.gptp_faults.proofs.FollowLemmas.{follow_settles}
use Rattle.gptp_faults.proofs.laws.follow_lines_settle.Goals as goal

pub returns : goal.returns
returns c = follow_settles
