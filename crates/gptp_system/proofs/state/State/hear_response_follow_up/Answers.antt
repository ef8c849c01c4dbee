use Rattle.std.proofs.Common.{◌-◌, ℕ, Option, sym, ap, ◌∙◌}
use Rattle.gptp_pdelay.specs.Peer.{after_follow_up, follow_up_step}
use Rattle.gptp_system.specs.declared.port.Port.{Port}
use Rattle.gptp_system.specs.Measuring.{measuring_answer, is_turned, step_at}
use Rattle.gptp_system.specs.Ready.{state_of}
use Rattle.gptp_system.proofs.MeasuringLemmas.{follow_up_keeps, has_turned, stepped_ready}
use Rattle.gptp_system.proofs.WrittenLemmas.{number_at}
use Rattle.gptp_system.proofs.state.State.hear_response_follow_up.Goals as goal

pub settle-requires-clause-ready : goal.settle-requires-clause-ready
settle-requires-clause-ready c =
    let m = c.args.message.now in
    let place = ap (λ (n : ℕ). n - 1) c.from.ensures in
    stepped_ready c.args.self.now (after_follow_up m) c.args.port _ _ c.index-deref_mut-from.result _
    (follow_up_keeps m) c.requires.least c.requires.most
    c.deref_mut.ensures.value place c.follow_up-changed.ensures.port c.requires.ready

pub returns-clause-step : goal.returns-clause-step
returns-clause-step c =
    let s = c.args.self.now in
    let m = c.args.message.now in
    let place = ap (λ (n : ℕ). n - 1) c.from.ensures in
    let at = number_at s.ports.items c.args.port _ _ c.index-deref_mut-from.result c.requires.least c.requires.most
    c.deref_mut.ensures.value place in
    record {
      turns = has_turned s (state_of c.settle.new.self) c.settle.new.outbox.items (after_follow_up m) c.args.port
          c.args.now _ _ c.index-deref_mut-from.result _ _
          c.requires.least c.requires.most c.deref_mut.ensures.value place c.follow_up-changed.ensures.port
          c.follow_up-changed.ensures.changed c.settle.ensures.settled;
      answer_is = c.follow_up-changed.ensures.answer
          ∙ sym (ap (λ (o : Option Port). measuring_answer (step_at (follow_up_step m) o)) at);
    }

pub returns-clause-turned : goal.returns-clause-turned
returns-clause-turned c =
    let place = ap (λ (n : ℕ). n - 1) c.from.ensures in
    let at = number_at c.args.self.now.ports.items c.args.port _ _ c.index-deref_mut-from.result c.requires.least
    c.requires.most c.deref_mut.ensures.value place in
    c.follow_up-changed.ensures.changed ∙ sym (ap (is_turned (after_follow_up c.args.message.now)) at)
