use Rattle.gptp_messages.specs.Grammar.{Written}
use Rattle.gptp_system.specs.Ready.{state_of}
use Rattle.gptp_system.specs.Sends.{message_sent}
use Rattle.gptp_system.proofs.LeavesLemmas.{message_touches_these}
use Rattle.gptp_system.proofs.OctetLemmas.{hears_written}
use Rattle.gptp_system.proofs.state.State.hear_sent.Goals as goal

pub returns-clause-step : goal.returns-clause-step
returns-clause-step c =
    hears_written c.args.port (message_sent c.args.message.now) c.args.now (state_of c.args.self.now) _ _ _
    c.fits.ensures c.hear_message.ensures.step

pub returns-clause-touches : goal.returns-clause-touches
returns-clause-touches c =
    let m = message_sent c.args.message.now in
    message_touches_these c.args.port (Written m) m c.args.now (state_of c.args.self.now) _ _ _ _ c.requires.port
    c.hear_message.ensures.step c.hear_message.ensures.touched
