use Rattle.std.proofs.Common.{◌≡◌, ◌≤◌, false, Err, List, [], drop, length, ap, ◌∙◌, refl, subst, sym, arith}
use Rattle.std.proofs.lemmas.Result.{err_from_is_err_and}
use Rattle.gptp_scenario.specs.Network.{IsNetwork}
use Rattle.gptp_scenario.specs.declared.change.Timed.{Timed}
use Rattle.gptp_model.specs.World.{WorldState}
use Rattle.gptp_report.specs.Transitions.{PassesTo}
use Rattle.gptp_world.specs.Observing.{Tells}
use Rattle.gptp_timeline.specs.LastStretches.{end_of, kept_after, none_kept}
use Rattle.gptp_timeline.specs.Limits.{no_limits}
use Rattle.gptp_timeline.specs.Passing.{AllAreSeen, MayPass, standing}
use Rattle.gptp_timeline.specs.Timeline.{end_before}
use Rattle.gptp_timeline.specs.Watch.{tells_changes, WatchState, with_aside}
use Rattle.gptp_timeline.specs.declared.ends.StretchesSoFar.{StretchesSoFar}
use Rattle.gptp_timeline.specs.declared.limits.Limits.{Limits}
use Rattle.gptp_timeline.specs.declared.timeline.TimelineOptions.{TimelineOptions}
use Rattle.gptp_timeline.proofs.GoOnLemmas.{due_first, ends, has_events, left_is, may_go_on}
use Rattle.gptp_timeline.proofs.PassLemmas.{memory_alone}
use Rattle.gptp_timeline.proofs.run_so_far.RunSoFar.last_stretches.Goals as goal

pub events_behind-left-requires : goal.events_behind-left-requires
events_behind-left-requires g c =
    let answers = g.F.Fate.answers in let r = c.args.self.now in let d = c.args.document.now in
    let p = c.requires.from.0 in let from = c.requires.from.1 in
    subst (λ (es : List Timed). r.events ≤ length es) (sym c.events.ensures)
    (has_events answers p r d c.args.until c.args.aside from)

-- where the stretch ends that passes
pub end_first-requires-clause-moment : goal.end_first-requires-clause-moment
end_first-requires-clause-moment g c =
    let answers = g.F.Fate.answers in let r = c.args.self.now in let d = c.args.document.now in
    let until = c.args.until in let a = c.args.aside in let moment = c.requires.moment in
    let p = c.requires.from.0 in let from = c.requires.from.1 in
    let left = c.events_behind-left.ensures ∙ ap (drop r.events) c.events.ensures
    ∙ left_is answers p r d until a from in
    let to = c.end_before-to.ensures ∙ ap (end_before until) left in
    let due = due_first answers p r d until a from in omega (arith, to, due, moment)

pub stretches_from-requires-clause-may : goal.stretches_from-requires-clause-may
stretches_from-requires-clause-may g c =
    let answers = g.F.Fate.answers in let r = c.args.self.now in let d = c.args.document.now in
    let until = c.args.until in let a = c.args.aside in let to = c.end_before-to.result in
    let p = c.requires.from.0 in let from = c.requires.from.1 in
    let w = c.end_first.new.world.world_core in let drawn = c.end_first.new.world.fate in
    let ended = c.in_ok-end.ensures.ended in
    let left = c.events_behind-left.ensures ∙ ap (drop r.events) c.events.ensures
    ∙ left_is answers p r d until a from in
    let fate = c.requires.same r.world.fate c.in_ok-world.world.fate c.in_ok-world.ensures.fate in
    let passes : PassesTo answers to ended.1 r.world.fate drawn r.world.world_core w =
    subst (λ f. PassesTo answers to ended.1 f drawn r.world.world_core w) fate
    (subst (λ (v : WorldState). PassesTo answers to ended.1 c.in_ok-world.world.fate drawn v w)
    c.in_ok-world.ensures.world_core ended.4) in
    subst (λ es. MayPass until to es w) (sym left)
    (may_go_on answers p r d until a from (subst IsNetwork c.network.ensures c.well_formed-3.ensures)
    c.well_formed-2.ensures.events.in_order to
    (c.end_before-to.ensures ∙ ap (end_before until) left) ended.1 drawn w passes c.well_formed-2.ensures.allowed
    c.well_formed-2.ensures.prompt)

pub returns-in_err-watch-clause-memory : goal.returns-in_err-watch-clause-memory
returns-in_err-watch-clause-memory g c =
    let passed = err_from_is_err_and c.from_residual-in_err-watch.result c.from_residual-in_err-watch.ensures.1 in
    rw (passed.1 ∙ ap Err passed.2) refl

pub returns-in_err-end-clause-memory : goal.returns-in_err-end-clause-memory
returns-in_err-end-clause-memory g c =
    let passed = err_from_is_err_and c.from_residual-in_err-end.result c.from_residual-in_err-end.ensures.1 in
    rw (passed.1 ∙ ap Err passed.2) c.in_err-end.ensures.memory

pub returns-in_err-kept-clause-memory : goal.returns-in_err-kept-clause-memory
returns-in_err-kept-clause-memory g c =
    let passed = err_from_is_err_and c.from_residual-in_err-kept.result c.from_residual-in_err-kept.ensures.1 in
    rw (passed.1 ∙ ap Err passed.2) (memory_alone c.in_err-kept.field-0.0
    (λ is. c.in_err-kept.ensures.fails (ap Err is) refl))

pub returns-clause-ends : goal.returns-clause-ends
returns-clause-ends g c = λ p from.
    let answers = g.F.Fate.answers in let r = c.args.self.now in let d = c.args.document.now in
    let until = c.args.until in let a = c.args.aside in let to = c.end_before-to.result in
    let w = c.end_first.new.world.world_core in let drawn = c.end_first.new.world.fate in
    let o = c.end_first.new.watch in let ended = c.in_ok-end.ensures.ended in
    let plan = ended.0 in let acts = ended.1 in let told = ended.2 in
    let after = c.stretches_from.new.world.world_core in let fate_end = c.stretches_from.new.world.fate in
    let o_end = c.stretches_from.new.watch in let kept = c.in_ok-kept.kept in
    let passed = c.in_ok-kept.ensures.passed in let left_then = c.events_behind-left.result.now in
    let options = c.summary_with-options.result in
    let left = c.events_behind-left.ensures ∙ ap (drop r.events) c.events.ensures
    ∙ left_is answers p r d until a from in
    let fate = c.requires.same r.world.fate c.in_ok-world.world.fate c.in_ok-world.ensures.fate in
    let passes : PassesTo answers to acts r.world.fate drawn r.world.world_core w =
    subst (λ f. PassesTo answers to acts f drawn r.world.world_core w) fate
    (subst (λ (v : WorldState). PassesTo answers to acts c.in_ok-world.world.fate drawn v w)
    c.in_ok-world.ensures.world_core ended.4) in
    let watch = c.in_ok-watch.ensures ∙ ap (λ b. with_aside b r.watch) c.begin.ensures in
    let tells = subst (λ (v : WatchState). Tells tells_changes acts v o told) watch ended.5 in
    let limits : options.limits ≡ no_limits =
    ap (λ (k : TimelineOptions). k.limits) c.summary_with-options.ensures.is in
    let kept_is : c.keep.result ≡ kept_after no_limits (end_of plan w o) none_kept =
    c.keep.ensures ∙ ap (λ (l : Limits). kept_after l c.in_ok-end.end c.none_kept.result) limits
    ∙ ap (λ e. kept_after no_limits e c.none_kept.result) ended.6
    ∙ ap (kept_after no_limits (end_of plan w o)) c.none_kept.ensures in
    let ending = standing until [] fate_end after o_end kept in
    let begins =
    ap (λ (es : List Timed). standing to es drawn w o c.keep.result) left
    ∙ ap (λ (k : StretchesSoFar). standing to from.goes.more drawn w o k) kept_is in
    let seen =
    subst (λ (l : Limits). AllAreSeen answers false d l
    (standing to from.goes.more drawn w o (kept_after no_limits (end_of plan w o) none_kept)) ending passed.0) limits
    (subst (λ s. AllAreSeen answers false d options.limits s ending passed.0) begins
    passed.1) in
    ends answers p r d until a from (subst IsNetwork c.network.ensures c.well_formed-3.ensures)
    c.well_formed-2.ensures.events.in_order to
    (c.end_before-to.ensures ∙ ap (end_before until) left) acts drawn w passes plan o told ended.3 tells kept passed.0
    fate_end after o_end seen
