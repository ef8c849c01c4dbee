use Rattle.std.proofs.Common.{rules, append_assoc}
use Rattle.gptp_system.proofs.syncing.tell.Goals as goal

pub returns-clause-sends : goal.returns-clause-sends
returns-clause-sends c = search (rules, append_assoc)
