use Rattle.std.proofs.Common.{◌+◌, ℕ, sym, ap, subst, ◌∙◌}
use Rattle.gptp_setup.specs.Intervals.{interval_of}
use Rattle.gptp_system.specs.Ready.{IsReady, state_of}
use Rattle.gptp_system.proofs.MeasuringLemmas.{log_back}
use Rattle.gptp_system.proofs.TakeoverLemmas.{restarted_ready}
use Rattle.gptp_system.proofs.state.State.restart.Goals as goal

pub returns-clause-state : goal.returns-clause-state
returns-clause-state c =
    let s = c.args.self.now in
    ap (λ (n : ℕ). record (state_of s) { sync = c.args.now + n })
    (c.interval_of.ensures.interval ∙ ap interval_of (log_back s.params.sync c.requires.ready.params.sync))

pub returns-clause-ready : goal.returns-clause-ready
returns-clause-ready c =
    subst IsReady (sym (returns-clause-state c))
    (restarted_ready (state_of c.args.self.now) c.args.now c.requires.ready c.requires.due)
