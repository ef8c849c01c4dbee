use Rattle.std.proofs.Common.{◌+◌, ◌≡◌, ◌≤ℤ◌, ℕ, ℤ, ap, arith, pos, subst, sym, ◌∙◌, Option}
use Rattle.gptp_setup.specs.Intervals.{interval_of}
use Rattle.gptp_system.specs.Ready.{IsReady, state_of}
use Rattle.gptp_system.specs.declared.reading.TimeRead.{TimeRead}
use Rattle.gptp_system.specs.State.{SystemState}
use Rattle.gptp_system.specs.Syncing.{restarted}
use Rattle.gptp_system.specs.Takeover.{base_after, leading, reads_after, told_stamp, told_time}
use Rattle.gptp_system.proofs.MeasuringLemmas.{log_back}
use Rattle.gptp_system.proofs.TakeoverLemmas.{led_low, led_ready}
use Rattle.gptp_system.proofs.state.State.lead.Goals as goal

leads : (s : SystemState) (now : ℕ) {reads : Option TimeRead} {base : ℤ} {interval : ℕ}
    → reads ≡ reads_after s → base ≡ base_after now s → interval ≡ interval_of s.params.sync
    → record s { reads = reads; base = base; sync = now + interval } ≡ restarted now (leading now s)
leads s now reads base interval =
    λ i. record s { reads = reads i; base = base i; sync = now + interval i }

pub told_stamp-requires-clause-ready : goal.told_stamp-requires-clause-ready
told_stamp-requires-clause-ready c =
    let s = state_of c.args.self.now in
    let is = leads s c.args.now c.reads_after-self.ensures c.base_after-base.ensures
    (c.interval_of.ensures.interval ∙ ap interval_of (log_back s.params.sync c.requires.ready.params.sync)) in
    subst IsReady (sym is) (led_ready s c.args.now c.requires.ready c.requires.due)

pub told_stamp-requires-clause-low : goal.told_stamp-requires-clause-low
told_stamp-requires-clause-low c =
    let s = state_of c.args.self.now in
    let is = leads s c.args.now c.reads_after-self.ensures c.base_after-base.ensures
    (c.interval_of.ensures.interval ∙ ap interval_of (log_back s.params.sync c.requires.ready.params.sync)) in
    subst (λ t. pos 0 ≤ℤ told_time t c.args.now) (sym is)
    (led_low s c.args.now c.args.now c.requires.ready c.requires.due (omega arith))

pub returns-clause-state : goal.returns-clause-state
returns-clause-state c =
    let s = state_of c.args.self.now in
    leads s c.args.now c.reads_after-self.ensures c.base_after-base.ensures
    (c.interval_of.ensures.interval ∙ ap interval_of (log_back s.params.sync c.requires.ready.params.sync))

pub returns-clause-from : goal.returns-clause-from
returns-clause-from c =
    led_low (state_of c.args.self.now) c.args.now c.args.now c.requires.ready c.requires.due (omega arith)

pub returns-clause-told : goal.returns-clause-told
returns-clause-told c =
    c.told_stamp.ensures.is ∙ ap (λ t. told_stamp t c.args.now) (returns-clause-state c)

pub returns-clause-ready : goal.returns-clause-ready
returns-clause-ready c =
    subst IsReady (sym (returns-clause-state c))
    (led_ready (state_of c.args.self.now) c.args.now c.requires.ready c.requires.due)
