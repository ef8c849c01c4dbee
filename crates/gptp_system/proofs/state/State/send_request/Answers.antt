use Rattle.std.proofs.Common.{◌+◌, ◌-◌, ℕ, ℤ, Option, sym, ap, ◌∙◌, subst, w8, to_z, of_z}
use Rattle.std.specs.Option.{option_map_or}
use Rattle.gptp_vector.specs.declared.port.PortId.{PortId}
use Rattle.gptp_system.specs.declared.port.Port.{Port}
use Rattle.gptp_system.specs.declared.sending.Sending.{Sending}
use Rattle.gptp_setup.specs.Intervals.{interval_of}
use Rattle.gptp_system.specs.Measuring.{asking}
use Rattle.gptp_system.specs.Ready.{IsReady, state_of}
use Rattle.gptp_system.specs.Sends.{pdelay_request, with_send}
use Rattle.gptp_system.specs.State.{on_port, own, stamp_time}
use Rattle.gptp_system.proofs.MeasuringLemmas.{log_back}
use Rattle.gptp_system.proofs.WrittenLemmas.{number_at, port_ready, port_written}
use Rattle.gptp_system.proofs.state.State.send_request.Goals as goal

pub returns-clause-state : goal.returns-clause-state
returns-clause-state c =
    let s = c.args.self.now in
    let place = ap (λ (n : ℕ). n - 1) c.from.ensures in
    let written = port_written s (asking c.stamp_time-t1.result (c.args.now + c.interval_of.result)) c.args.port _ _ _
    _ c.requires.least c.requires.most c.deref_mut.ensures.value place c.ask-sequence.ensures.port in
    let interval = c.interval_of.ensures.interval
    ∙ ap interval_of (log_back s.params.pdelay c.requires.ready.params.pdelay) in
    written
    ∙ ap (λ (t : ℤ). on_port c.args.port (asking t (c.args.now + c.interval_of.result)) (state_of s))
    c.stamp_time-t1.ensures.time
    ∙ ap (λ (n : ℕ). on_port c.args.port (asking (stamp_time (state_of s) c.args.now) (c.args.now + n)) (state_of s))
    interval

pub returns-clause-sends : goal.returns-clause-sends
returns-clause-sends c =
    let s = c.args.self.now in
    let place = ap (λ (n : ℕ). n - 1) c.from.ensures in
    let at = number_at s.ports.items c.args.port _ _ c.index-deref_mut-from.result c.requires.least c.requires.most
    c.deref_mut.ensures.value place in
    let sequence = c.ask-sequence.ensures.sequence
    ∙ sym (ap (λ (o : Option Port). option_map_or (λ (q : Port). q.peer.next) o 0) at) in
    let log = log_back s.params.pdelay c.requires.ready.params.pdelay in
    let message =
    c.request.ensures
    ∙ ap (λ (from : PortId). pdelay_request from (to_z w8 (of_z w8 s.params.pdelay)) c.ask-sequence.result)
    c.own.ensures
    ∙ ap (λ (z : ℤ). pdelay_request (own (state_of s) c.args.port) z c.ask-sequence.result) log
    ∙ ap (λ (n : ℕ). pdelay_request (own (state_of s) c.args.port) s.params.pdelay n) sequence in
    c.insert.ensures ∙ ap (λ (one : Sending). with_send one c.args.outbox.now.items) message

pub returns-clause-ready : goal.returns-clause-ready
returns-clause-ready c =
    let s = c.args.self.now in
    let place = ap (λ (n : ℕ). n - 1) c.from.ensures in
    let written = port_written s (asking c.stamp_time-t1.result (c.args.now + c.interval_of.result)) c.args.port _ _ _
    _ c.requires.least c.requires.most c.deref_mut.ensures.value place c.ask-sequence.ensures.port in
    subst IsReady (sym written)
    (port_ready c.args.port (asking c.stamp_time-t1.result (c.args.now + c.interval_of.result)) (state_of s)
    (λ q is. record { log_interval = is.log_interval; waiting = is.waiting }) c.requires.ready)
