use Rattle.std.proofs.Common.{◌≡◌, length, ◌∙◌}
use Rattle.gptp_traffic.specs.Traffic.{channels_from}
use Rattle.gptp_traffic.proofs.TrafficLemmas.{many-channels}
use Rattle.gptp_traffic.proofs.traffic.Traffic.next.Goals as goal

pub returns-clause-known : goal.returns-clause-known
returns-clause-known c =
    let t = c.self.inside in
    let count : length (channels_from t.pending.frames 0 t.links.items) ≡ t.pending.links =
    many-channels t.pending.frames 0 t.links.items ∙ c.self.invariant.links in
    rw (← c.self.view_is) (rw count c.next.ensures.known)
