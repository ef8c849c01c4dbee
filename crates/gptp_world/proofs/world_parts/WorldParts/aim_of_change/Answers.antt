use Rattle.gptp_world.proofs.world_parts.WorldParts.aim_of_change.Goals as goal

pub returns-in-Some-link_at-2-clause-some : goal.returns-in-Some-link_at-2-clause-some
returns-in-Some-link_at-2-clause-some c =
    let at = c.in-Some-link_at-2.ensures.some in rw c.in-LinkSet.is (at, c.set_to.ensures at.channel at.is.here)
