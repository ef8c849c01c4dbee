use Rattle.std.proofs.Common.{sym, ◌∙◌}
use Rattle.gptp_world.proofs.ActTargetLemmas.{due_oldest, oldest_due}
use Rattle.gptp_world.proofs.world_parts.WorldParts.is_frame_due.Goals as goal

pub returns : goal.returns
returns c = λ channel here.
    let due = c.next_due.ensures channel here in let direction = c.args.lane.direction in (
      λ yes. oldest_due direction channel c.args.time (sym due ∙ c.is_then.ensures.0 yes),
      λ oldest. c.is_then.ensures.1 (due ∙ due_oldest direction channel c.args.time oldest),
    )
