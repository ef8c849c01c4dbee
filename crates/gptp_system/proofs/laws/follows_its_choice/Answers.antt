use Rattle.gptp_system.proofs.FollowLemmas.{follows, slave_received}
use Rattle.gptp_system.proofs.laws.follows_its_choice.Goals as goal

pub returns-clause-follows : goal.returns-clause-follows
returns-clause-follows c = follows

pub returns-clause-trace : goal.returns-clause-trace
returns-clause-trace c = slave_received
