use Rattle.std.proofs.Common.{refl, ◌∙◌}
use Rattle.gptp_world.proofs.CopyLemmas.{parts_copied}
use Rattle.gptp_world.proofs.world_parts.WorldParts.copy.Goals as goal

pub returns-clause-parts : goal.returns-clause-parts
returns-clause-parts c =
    parts_copied c.args.self.now _ refl (c.in_ok-copy_stations.ensures ∙ c.deref.ensures.value)
    c.in_ok-copy.ensures.traffic c.in_ok-copy.ensures.directory c.new.ensures c.requires
