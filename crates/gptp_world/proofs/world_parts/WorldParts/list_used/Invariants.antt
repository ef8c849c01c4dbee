use Rattle.std.proofs.Common.{◌≡◌, map}
use Rattle.gptp_world.specs.Used.{snapshot_link}
use Rattle.gptp_world.proofs.UsedLemmas.{used_before}
use Rattle.gptp_world.proofs.world_parts.WorldParts.list_used.Given as goal

-- those before the link are there
abbrev pub invariant-loop-link : goal.invariant-loop-link
invariant-loop-link l = map snapshot_link l.links.items ≡ used_before l.self l.link
