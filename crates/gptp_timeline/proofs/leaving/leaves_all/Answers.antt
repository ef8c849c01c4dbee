use Rattle.std.proofs.Common.{sym, subst}
use Rattle.gptp_scenario.specs.declared.change.Act.{Act}
use Rattle.gptp_timeline.specs.Leaving.{LeavesAll}
use Rattle.gptp_timeline.proofs.LeavingLemmas.{expiry_leaves}
use Rattle.gptp_timeline.proofs.leaving.leaves_all.Goals as goal

pub returns-in-Expire : goal.returns-in-Expire
returns-in-Expire c = λ leaves.
    let e = c.in-Expire in
    subst (λ (act : Act). LeavesAll act c.args.done.now) (sym e.is)
    (expiry_leaves e.clock e.timer c.args.done.now (c.timer_leaves.ensures leaves))

pub returns-in-Deliver : goal.returns-in-Deliver
returns-in-Deliver c = λ leaves.
    let d = c.in-Deliver in
    subst (λ (act : Act). LeavesAll act c.args.done.now) (sym d.is)
    (c.delivery_leaves.ensures leaves d.link d.direction)
