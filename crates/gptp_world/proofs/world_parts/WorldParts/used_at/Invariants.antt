use Rattle.std.proofs.Common.{◌≡◌, ◌≤◌, length}
use Rattle.gptp_world.proofs.UsedLemmas.{used_before}
use Rattle.gptp_world.proofs.world_parts.WorldParts.used_at.Given as goal

-- those before the link are counted, and it isn't among them
abbrev pub invariant-loop-link : goal.invariant-loop-link
invariant-loop-link l = record {
  is : l.before ≡ length (used_before l.self l.link);
  few : l.before ≤ l.link;
  sooner : l.before ≤ l.place;
}
