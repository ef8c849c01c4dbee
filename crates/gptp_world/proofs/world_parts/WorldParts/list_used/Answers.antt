use Rattle.std.proofs.Common.{◌<◌, ◌++◌, List, length, ap, sym, ◌∙◌, arith}
use Rattle.gptp_graph.specs.Snapshot.{Link}
use Rattle.gptp_lists.proofs.PlaceLemmas.{member_there}
use Rattle.gptp_invariants.specs.WorldStanding.{live_stations}
use Rattle.gptp_world.specs.Used.{used_if}
use Rattle.gptp_world.proofs.UsedLemmas.{one_more}
use Rattle.gptp_world.proofs.world_parts.WorldParts.list_used.Goals as goal

pub loop-link-preserved : goal.loop-link-preserved
loop-link-preserved c =
    let parts = c.args.self.now in let link = c.loop-link.link in let test = c.loop-link-test.true in
    let all = c.links-link-end.ensures in
    let within : link < length parts.net.traffic.net.channels = omega arith in
    let (channel, here) = member_there parts.net.traffic.net.channels link within in
    let last = used_if (live_stations parts.stations.items) channel in
    c.in_ok-push_used.ensures channel here
    ∙ ap (λ (ls : List Link). ls ++ last) c.loop-link.invariant
    ∙ sym (one_more parts link channel here)
