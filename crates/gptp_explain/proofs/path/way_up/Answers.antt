use Rattle.std.proofs.Common.{◌≡◌, ◌+◌, arith, subst, sym}
use Rattle.gptp_explain.proofs.PathLemmas.{HasClimbed, at_root, climbed, ended}
use Rattle.gptp_explain.proofs.path.way_up.Goals as goal

pub returns-in_default : goal.returns-in_default
returns-in_default c =
    ended c.args.snapshot.now c.well_formed-2.ensures.network c.args.clock c.args.steps c.loop-step.step
    c.loop-step.last c.loop-step.way.items c.loop-step.invariant c.in_default.ensures.none

pub loop-step-preserved : goal.loop-step-preserved
loop-step-preserved c =
    let g = c.args.snapshot.now in
    subst (HasClimbed g c.args.clock c.args.steps (c.loop-step.step + 1) c.in-Some.parent)
    (sym c.in_ok-push-2.ensures.items)
    (climbed g c.well_formed-2.ensures.network c.args.clock c.args.steps c.loop-step.step c.loop-step.last
    c.in-Some.parent c.loop-step.way.items c.loop-step.invariant c.loop-step-test.true c.in-Some.ensures.some)

-- after as many steps as the root is away there is no parent
pub returns : goal.returns
returns c =
    let g = c.args.snapshot.now in let wf = c.well_formed-2.ensures.network in
    let end = c.loop-step.auto.step-end in let past = c.loop-step-test.false in
    let all : c.loop-step.step ≡ c.args.steps = omega (arith, end, past) in
    ended g wf c.args.clock c.args.steps c.loop-step.step c.loop-step.last c.loop-step.way.items c.loop-step.invariant
    (at_root g wf c.args.clock c.args.steps c.loop-step.step c.loop-step.last c.loop-step.way.items
    c.loop-step.invariant all)
