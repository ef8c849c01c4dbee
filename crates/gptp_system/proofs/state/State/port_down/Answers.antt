use Rattle.std.proofs.Common.{◌≤◌, ◌-◌, ℕ, length, sym, ap, subst, arith}
use Rattle.gptp_system.specs.Ready.{IsReady, state_of}
use Rattle.gptp_system.specs.Selection.{Selects}
use Rattle.gptp_system.specs.State.{SystemState}
use Rattle.gptp_system.proofs.MeasuringLemmas.{down_ready, down_written}
use Rattle.gptp_system.proofs.state.State.port_down.Goals as goal

pub select-requires-clause-ready : goal.select-requires-clause-ready
select-requires-clause-ready c =
    let s = c.args.self.now in
    let place = ap (λ (n : ℕ). n - 1) c.from-place.ensures in
    let there : c.args.port ≤ length s.held.items = omega (arith, c.requires.most, c.requires.ready.places) in
    let written = down_written s c.args.port _ _ _ c.index-deref_mut-place.result _ _ c.index-deref_mut-place-2.result
    _ c.requires.least c.requires.most there
    c.deref_mut.ensures.value place c.silence.ensures c.deref_mut-2.ensures.value place c.hold.ensures in
    subst IsReady (sym written) (down_ready c.args.port (state_of s) c.requires.ready)

pub returns-clause-step : goal.returns-clause-step
returns-clause-step c =
    let s = c.args.self.now in
    let place = ap (λ (n : ℕ). n - 1) c.from-place.ensures in
    let there : c.args.port ≤ length s.held.items = omega (arith, c.requires.most, c.requires.ready.places) in
    let written = down_written s c.args.port _ _ _ c.index-deref_mut-place.result _ _ c.index-deref_mut-place-2.result
    _ c.requires.least c.requires.most there
    c.deref_mut.ensures.value place c.silence.ensures c.deref_mut-2.ensures.value place c.hold.ensures in
    subst (λ (t : SystemState). Selects c.args.now t (state_of c.select.new.self) c.select.new.outbox.items) written
    c.select.ensures.selects
