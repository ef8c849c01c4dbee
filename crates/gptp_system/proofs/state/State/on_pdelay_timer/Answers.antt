use Rattle.std.proofs.Common.{◌≤◌, ◌-◌, ℕ, length, sym, ap, ◌∙◌, arith}
use Rattle.gptp_pdelay.specs.Peer.{after_interval}
use Rattle.gptp_system.specs.Measuring.{is_turned}
use Rattle.gptp_system.specs.Ready.{state_of}
use Rattle.gptp_system.proofs.MeasuringLemmas.{has_turned, interval_keeps, stepped_places, stepped_ready}
use Rattle.gptp_system.proofs.WrittenLemmas.{number_at}
use Rattle.gptp_system.proofs.state.State.on_pdelay_timer.Goals as goal

pub settle-requires-clause-ready : goal.settle-requires-clause-ready
settle-requires-clause-ready c =
    let place = ap (λ (n : ℕ). n - 1) c.from.ensures in
    stepped_ready c.args.self.now after_interval c.args.port _ _ c.index-deref_mut-from.result _ interval_keeps
    c.requires.least c.requires.most
    c.deref_mut.ensures.value place c.end_interval-changed.ensures.port c.requires.ready

pub send_request-requires-clause-most : goal.send_request-requires-clause-most
send_request-requires-clause-most c =
    let place = ap (λ (n : ℕ). n - 1) c.from.ensures in
    let places = stepped_places c.args.self.now after_interval c.args.port _ _ c.index-deref_mut-from.result _
    c.requires.least c.requires.most
    c.deref_mut.ensures.value place c.end_interval-changed.ensures.port in
    let most : c.args.port ≤ length c.args.self.now.ports.items = c.requires.most in
    omega (arith, most, c.settle.ensures.places ∙ places)

pub returns-clause-step : goal.returns-clause-step
returns-clause-step c =
    let place = ap (λ (n : ℕ). n - 1) c.from.ensures in
    record {
      between = state_of c.settle.new.self;
      first = c.settle.new.outbox.items;
      turns = has_turned c.args.self.now (state_of c.settle.new.self) c.settle.new.outbox.items after_interval
          c.args.port c.args.now _ _ c.index-deref_mut-from.result _ _
          c.requires.least c.requires.most c.deref_mut.ensures.value place c.end_interval-changed.ensures.port
          c.end_interval-changed.ensures.changed c.settle.ensures.settled;
      state = c.send_request.ensures.state;
      sends_are = c.send_request.ensures.sends;
    }

pub returns-clause-stops : goal.returns-clause-stops
returns-clause-stops c =
    let place = ap (λ (n : ℕ). n - 1) c.from.ensures in
    let at = number_at c.args.self.now.ports.items c.args.port _ _ c.index-deref_mut-from.result c.requires.least
    c.requires.most c.deref_mut.ensures.value place in
    c.end_interval-changed.ensures.changed ∙ sym (ap (is_turned after_interval) at)
