use Rattle.std.proofs.Common.{◌∙◌, subst}
use Rattle.gptp_system.specs.TimersChanged.{holds, IsTouchedOf}
use Rattle.gptp_world.specs.Timing.{AreSetBut}
use Rattle.gptp_model.specs.World.{timers_from}
use Rattle.gptp_model.proofs.OwnTimerLemmas.{own_timer}
use Rattle.gptp_world.proofs.TimingLemmas.{nothing_touched, one_touched, selection_touched, time_touched}
use Rattle.gptp_world.proofs.net.Net.set_touched.Goals as goal

pub returns-in-Nothing-clause-entries : goal.returns-in-Nothing-clause-entries
returns-in-Nothing-clause-entries c =
    let station = c.args.station.now in let es = c.args.self.now.traffic.net.pending in
    nothing_touched c.args.place station (timers_from 1 station.system.ports) es
    (subst (λ t. AreSetBut (holds t) c.args.place station es) c.in-Nothing.is c.requires.set)

pub returns-in-One-clause-entries : goal.returns-in-One-clause-entries
returns-in-One-clause-entries c =
    let station = c.args.station.now in let es = c.args.self.now.traffic.net.pending in
    let own = subst (IsTouchedOf station.system) c.in-One.is c.requires.own in
    c.set_timer.ensures.entries
    ∙ one_touched c.args.place station (timers_from 1 station.system.ports) es c.in-One.timer
    (own_timer c.in-One.timer station.system own)
    (subst (λ t. AreSetBut (holds t) c.args.place station es) c.in-One.is c.requires.set)

pub returns-in-Time-clause-entries : goal.returns-in-Time-clause-entries
returns-in-Time-clause-entries c =
    let station = c.args.station.now in let es = c.args.self.now.traffic.net.pending in
    c.set_of_time.ensures.entries
    ∙ time_touched c.args.place station station.system.ports es
    (subst (λ t. AreSetBut (holds t) c.args.place station es) c.in-Time.is c.requires.set)

pub returns-in-Selected-clause-entries : goal.returns-in-Selected-clause-entries
returns-in-Selected-clause-entries c =
    let station = c.args.station.now in let es = c.args.self.now.traffic.net.pending in
    c.set_selected.ensures.entries
    ∙ selection_touched c.args.place station station.system.ports es
    (subst (λ t. AreSetBut (holds t) c.args.place station es) c.in-Selected.is c.requires.set)
