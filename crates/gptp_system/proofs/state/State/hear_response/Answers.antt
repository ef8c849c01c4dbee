use Rattle.std.proofs.Common.{◌-◌, ℕ, ℤ, Option, refl, sym, ap, ◌∙◌, subst}
use Rattle.gptp_pdelay.specs.Peer.{after_response, response_step}
use Rattle.gptp_system.specs.declared.port.Port.{Port}
use Rattle.gptp_system.specs.Measuring.{measuring_answer, step_at}
use Rattle.gptp_system.specs.Ready.{IsReady, state_of}
use Rattle.gptp_system.specs.State.{number, with_peer}
use Rattle.gptp_system.proofs.MeasuringLemmas.{response_keeps, step_ready}
use Rattle.gptp_system.proofs.WrittenLemmas.{number_at, port_written}
use Rattle.gptp_system.proofs.state.State.hear_response.Goals as goal

pub returns-clause-step : goal.returns-clause-step
returns-clause-step c =
    let s = c.args.self.now in
    let m = c.args.message.now in
    let place = ap (λ (n : ℕ). n - 1) c.from.ensures in
    let written = port_written s _ c.args.port _ _ _ _ c.requires.least c.requires.most c.deref_mut.ensures.value place
    c.response.ensures.port in
    let time = ap (λ (t : ℤ). with_peer c.args.port (after_response m t) (state_of s)) c.stamp_time-t4.ensures.time in
    let at = number_at s.ports.items c.args.port _ _ _ c.requires.least c.requires.most c.deref_mut.ensures.value
    place in
    record {
      becomes = record { state = written ∙ time; silent = refl };
      answer_is = c.response.ensures.answer
          ∙ sym (ap (λ (o : Option Port). measuring_answer (step_at (response_step m c.stamp_time-t4.result) o)) at)
          ∙ ap (λ (t : ℤ). measuring_answer (step_at (response_step m t) (number s.ports.items c.args.port)))
          c.stamp_time-t4.ensures.time;
    }

pub returns-clause-ready : goal.returns-clause-ready
returns-clause-ready c =
    let s = c.args.self.now in
    let step = after_response c.args.message.now c.stamp_time-t4.result in
    let written =
    port_written s _ c.args.port _ _ _ _ c.requires.least c.requires.most c.deref_mut.ensures.value
    (ap (λ (n : ℕ). n - 1) c.from.ensures) c.response.ensures.port in
    subst IsReady (sym written)
    (step_ready step (response_keeps c.args.message.now c.stamp_time-t4.result) c.args.port (state_of s)
    c.requires.ready)
