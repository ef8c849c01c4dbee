use Rattle.std.proofs.Common.{◌≤◌, ◌-◌, ℕ, length, refl, ap, ◌∙◌, arith}
use Rattle.gptp_pdelay.specs.Peer.{reset_peer}
use Rattle.gptp_system.specs.Ready.{state_of}
use Rattle.gptp_system.proofs.MeasuringLemmas.{has_turned, stepped_places, stepped_ready}
use Rattle.gptp_system.proofs.state.State.port_up.Goals as goal

pub settle-requires-clause-ready : goal.settle-requires-clause-ready
settle-requires-clause-ready c =
    let place = ap (λ (n : ℕ). n - 1) c.from.ensures in
    stepped_ready c.args.self.now reset_peer c.args.port _ _ c.index-deref_mut-from.result _ (λ _. refl)
    c.requires.least c.requires.most
    c.deref_mut.ensures.value place c.reset-changed.ensures.port c.requires.ready

pub send_request-requires-clause-most : goal.send_request-requires-clause-most
send_request-requires-clause-most c =
    let place = ap (λ (n : ℕ). n - 1) c.from.ensures in
    let places = stepped_places c.args.self.now reset_peer c.args.port _ _ c.index-deref_mut-from.result _
    c.requires.least c.requires.most
    c.deref_mut.ensures.value place c.reset-changed.ensures.port in
    let most : c.args.port ≤ length c.args.self.now.ports.items = c.requires.most in
    omega (arith, most, c.settle.ensures.places ∙ places)

pub returns-clause-step : goal.returns-clause-step
returns-clause-step c =
    let place = ap (λ (n : ℕ). n - 1) c.from.ensures in
    record {
      between = state_of c.settle.new.self;
      first = c.settle.new.outbox.items;
      turns = has_turned c.args.self.now (state_of c.settle.new.self) c.settle.new.outbox.items reset_peer c.args.port
          c.args.now _ _ c.index-deref_mut-from.result _ _
          c.requires.least c.requires.most c.deref_mut.ensures.value place c.reset-changed.ensures.port
          c.reset-changed.ensures.changed c.settle.ensures.settled;
      state = c.send_request.ensures.state;
      sends_are = c.send_request.ensures.sends;
    }
