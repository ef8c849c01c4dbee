use Rattle.std.proofs.Common.{Some, ap, sym, ◌∙◌}
use Rattle.gptp_invariants.specs.WorldStanding.{live_stations}
use Rattle.gptp_traffic.specs.declared.joined_link.Join.{Join}
use Rattle.gptp_world.specs.Used.{snapshot_link}
use Rattle.gptp_world.proofs.UsedLemmas.{used_yes}
use Rattle.gptp_world.proofs.world_parts.WorldParts.used_link.Goals as goal

pub returns : goal.returns
returns c = λ channel here.
    let parts = c.args.self.now in
    ap (λ (j : Join). Some (snapshot_link (j.a, j.b))) (c.join-join.ensures channel here)
    ∙ sym (used_yes (live_stations parts.stations.items) channel
    (sym (c.is_in_use.ensures channel here) ∙ c.if-not-is_in_use.false))
