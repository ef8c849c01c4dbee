use Rattle.std.proofs.Common.{sym, ◌∙◌}
use Rattle.gptp_timeline.proofs.LeavingLemmas.{first_leaves}
use Rattle.gptp_timeline.proofs.leaving.frame_leaves.Goals as goal

pub returns-in-Some : goal.returns-in-Some
returns-in-Some c = λ leaves.
    first_leaves c.args.frame.now.items c.in-Some.number (sym c.message_type.ensures ∙ c.in-Some.is)
    (c.type_leaves.ensures leaves)
