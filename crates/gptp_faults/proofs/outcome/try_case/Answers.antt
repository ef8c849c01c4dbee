use Rattle.std.proofs.Common.{◌≡◌, List, ℕ, arith, rules, subst, sym, ◌∙◌}
use Rattle.gptp_network.specs.Document.{DocumentState}
use Rattle.gptp_faults.specs.Extremes.{greatest_of_two}
use Rattle.gptp_faults.specs.Follows.{AreFollows}
use Rattle.gptp_faults.specs.Outcomes.{back_in, down_in}
use Rattle.gptp_faults.specs.Runs.{CaseRunEnds, IsKept}
use Rattle.gptp_faults.proofs.OutcomeLemmas.{all_tried, more_tried, one_tried}
use Rattle.gptp_faults.proofs.outcome.try_case.Goals as goal

-- the document is as it was, so the run that is kept is of it
pub run_case-requires-clause-kept : goal.run_case-requires-clause-kept
run_case-requires-clause-kept c =
    subst (λ (d : DocumentState). IsKept d c.args.options.now c.args.times.now c.args.kept.now)
    (sym c.in_ok-plan.ensures.same) c.requires.kept

pub run_case-requires-in-loop-run-clause-kept : goal.run_case-requires-in-loop-run-clause-kept
run_case-requires-in-loop-run-clause-kept c =
    subst (λ (d : DocumentState). IsKept d c.args.options.now c.args.times.now c.args.kept.now)
    (sym c.loop-run.invariant.same) c.requires.kept

pub loop-run-init : goal.loop-run-init
loop-run-init c =
    let p = c.in_ok-plan.plan in let d = c.args.document.now in
    let downs = down_in p.parts.cut.items p.parts.main.items in let backs = back_in c.args.whole.now.parts in
    let first = c.in_ok-first.first in
    let down_is : c.in_ok-down.down ≡ downs first = search rules in
    let back_is : c.in_ok-back.back ≡ backs first = search rules in
    let follow_is =
    subst (λ roots. AreFollows roots c.in_ok-follow.follow.items) c.roots.ensures c.in_ok-follow.ensures in
    let count = c.runs_of-run-end.ensures.is in let some = c.runs_of-run-end.ensures.some in
    record {
      tried = one_tried c.args.options.now d c.args.times.now p.events p.aside.items downs backs first
          c.in_ok-down.down c.in_ok-back.back c.in_ok-follow.follow.items
          (subst (λ (names : List ℕ). CaseRunEnds c.args.options.now d c.args.times.now p.events names 0 first)
          c.deref.ensures.value
          (subst (λ (e : DocumentState). CaseRunEnds c.args.options.now e c.args.times.now p.events c.deref.result.now 0
          first) c.in_ok-plan.ensures.same c.in_ok-first.ensures.run)) down_is back_is follow_is;
      most = omega (arith, count, some);
      same = c.in_ok-first.ensures.same ∙ c.in_ok-plan.ensures.same;
    }

pub loop-run-preserved : goal.loop-run-preserved
loop-run-preserved c =
    let p = c.in_ok-plan.plan in let d = c.args.document.now in let run = c.loop-run.run in
    let downs = down_in p.parts.cut.items p.parts.main.items in let backs = back_in c.args.whole.now.parts in
    let ends = c.in_ok-next.next in
    let down_is : c.joined-down.result ≡ greatest_of_two c.loop-run.down (downs ends) = search rules in
    let back_is : c.joined-back.result ≡ greatest_of_two c.loop-run.back (backs ends) = search rules in
    let count = c.runs_of-run-end.ensures.is in let below = c.loop-run-test.true in
    record {
      tried = more_tried c.args.options.now d c.args.times.now p.events p.aside.items downs backs run c.loop-run.down
          c.loop-run.back c.joined-down.result c.joined-back.result c.in_ok-follow.follow.items
          c.loop-run.invariant.tried ends
          (subst (λ (names : List ℕ). CaseRunEnds c.args.options.now d c.args.times.now p.events names run ends)
          c.deref-in-loop-run.ensures.value
          (subst (λ (e : DocumentState). CaseRunEnds c.args.options.now e c.args.times.now p.events
          c.deref-in-loop-run.result.now run ends) c.loop-run.invariant.same c.in_ok-next.ensures.run)) down_is back_is;
      most = omega (arith, count, below);
      same = c.in_ok-next.ensures.same ∙ c.loop-run.invariant.same;
    }

pub returns-clause-outcome : goal.returns-clause-outcome
returns-clause-outcome c =
    let run = c.loop-run.run in let count = c.runs_of-run-end.ensures.is in let past = c.loop-run-test.false in
    let most = c.loop-run.invariant.most in
    all_tried c.args.options.now c.args.document.now c.args.times.now c.args.failing.now c.args.whole.now
    c.requires.whole c.in_ok-plan.plan c.in_ok-plan.ensures.plan c.args.number run
    c.loop-run.down c.loop-run.back c.in_ok-follow.follow.items c.new.result c.loop-run.invariant.tried
    (omega (arith, count, past, most)) c.new.ensures
