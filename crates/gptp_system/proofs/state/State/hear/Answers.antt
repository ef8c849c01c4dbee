use Rattle.gptp_system.specs.Ready.{state_of}
use Rattle.gptp_system.proofs.LeavesLemmas.{announce_touches}
use Rattle.gptp_system.proofs.state.State.hear.Goals as goal

pub returns-in-Announce-clause-touched : goal.returns-in-Announce-clause-touched
returns-in-Announce-clause-touched c =
    rw c.in-Announce.is
    (announce_touches _ c.args.port _ c.args.now (state_of c.args.self.now) _ _ _
    c.hear_announce-again.ensures.again c.heard_touches-touched.ensures)
