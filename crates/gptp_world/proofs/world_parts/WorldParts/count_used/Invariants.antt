use Rattle.std.proofs.Common.{◌≡◌, ◌≤◌, length}
use Rattle.gptp_world.proofs.UsedLemmas.{used_before}
use Rattle.gptp_world.proofs.world_parts.WorldParts.count_used.Given as goal

-- those before the link are counted
abbrev pub invariant-loop-link : goal.invariant-loop-link
invariant-loop-link l = record {
  is : l.count ≡ length (used_before l.self l.link);
  few : l.count ≤ l.link;
}
