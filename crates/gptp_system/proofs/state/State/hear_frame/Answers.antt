use Rattle.gptp_system.specs.Ready.{state_of}
use Rattle.gptp_system.proofs.LeavesLemmas.{message_touches_these}
use Rattle.gptp_system.proofs.state.State.hear_frame.Goals as goal

pub returns-in-Ok-clause-touches : goal.returns-in-Ok-clause-touches
returns-in-Ok-clause-touches c =
    message_touches_these c.args.port c.args.frame.now c.in-Ok.message c.args.now (state_of c.args.self.now) _ _ _ _
    c.requires.port c.hear.ensures.step c.hear.ensures.touched
