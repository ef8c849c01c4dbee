use Rattle.std.proofs.Common.{◌+◌, ◌-◌, ℕ, ℤ, refl, ap, ◌∙◌}
use Rattle.gptp_system.specs.Measuring.{owing}
use Rattle.gptp_system.specs.Ready.{state_of}
use Rattle.gptp_system.specs.State.{on_port}
use Rattle.gptp_system.proofs.WrittenLemmas.{port_written}
use Rattle.gptp_system.proofs.state.State.hear_request.Goals as goal

pub returns-clause-step : goal.returns-clause-step
returns-clause-step c =
    let s = c.args.self.now in
    let due = c.args.now + s.params.turnaround in
    let written =
    port_written s _ c.args.port _ _ _ _ c.requires.least c.requires.most c.deref_mut.ensures.value
    (ap (λ (n : ℕ). n - 1) c.from.ensures) c.owe.ensures in
    let time = ap
    (λ (t : ℤ). on_port c.args.port
    (owing (record { requester = c.args.head.now.source; sequence = c.args.head.now.sequence; t2 = t }) due)
    (state_of s)) c.stamp_time.ensures.time in
    record { becomes = record { state = written ∙ time; silent = refl }; answer_is = refl }
