use Rattle.std.proofs.Common.{sym, subst}
use Rattle.gptp_model.specs.declared.done.Done.TheVariants.{Heard}
use Rattle.gptp_scenario.specs.declared.change.Act.TheVariants.{Deliver}
use Rattle.gptp_timeline.specs.Leaving.{LeavesAll}
use Rattle.gptp_timeline.proofs.LeavingLemmas.{delivery_leaves}
use Rattle.gptp_timeline.proofs.leaving.delivery_leaves.Goals as goal

pub returns-in-Heard : goal.returns-in-Heard
returns-in-Heard c = λ leaves link direction.
    let h = c.in-Heard in
    subst (LeavesAll (Deliver link direction)) (sym h.is)
    (delivery_leaves link direction (Heard h.clock h.port h.answer h.frame)
    (c.frame_leaves.ensures leaves))
