use Rattle.std.proofs.Common.{sym, subst, ◌∙◌}
use Rattle.gptp_system.specs.declared.input.Input.{Input}
use Rattle.gptp_system.specs.Input.{given, IsTimely}
use Rattle.gptp_system.specs.Ready.{state_of}
use Rattle.gptp_system.specs.TimersChanged.{Touches}
use Rattle.gptp_system.proofs.LeavesLemmas.{timer_touches_these}
use Rattle.gptp_system.proofs.SystemLemmas.{capable_holds}
use Rattle.gptp_system.proofs.TimelyLemmas.{timely_timer}
use Rattle.gptp_system.proofs.state.State.step.Goals as goal

pub hear_frame-requires-clause-shown : goal.hear_frame-requires-clause-shown
hear_frame-requires-clause-shown c =
    capable_holds (state_of c.args.self.now) c.in-Frame.port c.requires.system.shown

pub expire-requires-clause-timer : goal.expire-requires-clause-timer
expire-requires-clause-timer c =
    let s = state_of c.args.self.now in
    timely_timer c.in-Expires.timer s c.args.now
    (subst (λ (input : Input). IsTimely s c.args.now (given input)) c.in-Expires.is c.requires.timely)

pub returns-in-Expires-clause-touches : goal.returns-in-Expires-clause-touches
returns-in-Expires-clause-touches c =
    let s = state_of c.args.self.now in let s' = state_of c.expire.new.self in let timer = c.in-Expires.timer in
    let touched = c.unanswered.result.touched in
    let of = timely_timer timer s c.args.now
    (subst (λ (input : Input). IsTimely s c.args.now (given input)) c.in-Expires.is c.requires.timely) in
    subst (λ (input : Input). Touches (given input) touched s s') (sym c.in-Expires.is)
    (timer_touches_these timer c.args.now s s' c.expire.new.outbox.items touched of c.expire.ensures.step
    (c.unanswered.ensures ∙ c.expire.ensures.touched))
