use Rattle.std.proofs.Common.{[], ap, ◌∙◌, inl, inr, refl, subst}
use Rattle.gptp_sink.proofs.SinkLemmas.{after_error, none_of}
use Rattle.gptp_timeline.specs.LastStretches.{kept_after}
use Rattle.gptp_timeline.specs.Timeline.{IsTimelinePlan}
use Rattle.gptp_timeline.proofs.PassLemmas.{begun_is}
use Rattle.gptp_timeline.proofs.timeline.next_stretch.Goals as goal

pub returns-in_err-plan-clause-broken : goal.returns-in_err-plan-clause-broken
returns-in_err-plan-clause-broken g c =
    after_error c.from_residual.result ([], inl refl, none_of (g.K.Sink.written c.args.sink.now) [])

pub returns-in_err-end-clause-broken : goal.returns-in_err-end-clause-broken
returns-in_err-end-clause-broken g c =
    let broken = c.in_err-end.ensures.broken in
    let known = subst (λ b. IsTimelinePlan c.args.exact c.args.document.now c.args.from c.args.to b c.in_ok-plan.plan)
    (begun_is c.args.events.now c.is_empty.result c.is_empty.ensures) c.in_ok-plan.ensures.plan in
    after_error c.from_residual-in_err-end.result
    (broken.0, inr (c.in_ok-plan.plan, known, broken.1), broken.2)

pub returns-clause-passed : goal.returns-clause-passed
returns-clause-passed g c =
    let passed = c.in_ok-end.ensures.passed in
    let known = subst (λ b. IsTimelinePlan c.args.exact c.args.document.now c.args.from c.args.to b c.in_ok-plan.plan)
    (begun_is c.args.events.now c.is_empty.result c.is_empty.ensures) c.in_ok-plan.ensures.plan in (
      c.in_ok-plan.plan,
      passed.0,
      known,
      passed.1,
      c.keep.ensures ∙ ap (λ e. kept_after c.args.limits.now e c.args.before) passed.2,
      passed.3,
    )
