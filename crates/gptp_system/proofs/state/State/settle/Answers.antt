use Rattle.std.proofs.Common.{◌-◌, ℕ, Bool, sym, ap, subst}
use Rattle.gptp_system.specs.Measuring.{SettlesIf}
use Rattle.gptp_system.specs.Ready.{state_of}
use Rattle.gptp_system.specs.Selection.{Selects}
use Rattle.gptp_system.specs.State.{SystemState}
use Rattle.gptp_system.proofs.MeasuringLemmas.{holding_ready, holding_settles, selects_few, selects_places}
use Rattle.gptp_system.proofs.state.State.settle.Goals as goal

pub select-requires-clause-ready : goal.select-requires-clause-ready
select-requires-clause-ready c =
    let place = ap (λ (n : ℕ). n - 1) c.from-place.ensures in
    holding_ready c.args.self.now c.capable.result c.args.port _ _ c.index-deref_mut-place.result _ c.requires.least
    c.requires.most c.deref_mut.ensures.value place
    c.hold.ensures c.requires.ready

pub returns-in-true-clause-settled : goal.returns-in-true-clause-settled
returns-in-true-clause-settled c =
    let s = c.args.self.now in
    let place = ap (λ (n : ℕ). n - 1) c.from-place.ensures in
    let settles =
    holding_settles s c.capable.result c.args.port _ _ _ c.index-deref_mut-place.result _ _
    c.index-deref-place.result c.requires.least c.requires.most
    c.deref_mut.ensures.value place c.hold.ensures c.deref.ensures.0 place c.capable.ensures c.requires.ready in
    let selects =
    subst (λ (t : SystemState). Selects c.args.now t (state_of c.select.new.self) c.select.new.outbox.items)
    settles c.select.ensures.selects in
    subst (λ (b : Bool). SettlesIf b c.args.port c.args.now (state_of s) (state_of c.select.new.self)
    c.select.new.outbox.items) (sym c.in-true.is) selects

pub returns-in-true-clause-few : goal.returns-in-true-clause-few
returns-in-true-clause-few c =
    let place = ap (λ (n : ℕ). n - 1) c.from-place.ensures in
    let ready = holding_ready c.args.self.now c.capable.result c.args.port _ _ c.index-deref_mut-place.result _
    c.requires.least c.requires.most c.deref_mut.ensures.value place
    c.hold.ensures c.requires.ready in
    selects_few c.args.now _ _ _ ready c.select.ensures.selects

pub returns-in-true-clause-places : goal.returns-in-true-clause-places
returns-in-true-clause-places c =
    let place = ap (λ (n : ℕ). n - 1) c.from-place.ensures in
    let ready = holding_ready c.args.self.now c.capable.result c.args.port _ _ c.index-deref_mut-place.result _
    c.requires.least c.requires.most c.deref_mut.ensures.value place
    c.hold.ensures c.requires.ready in
    selects_places c.args.now _ _ _ ready c.select.ensures.selects
