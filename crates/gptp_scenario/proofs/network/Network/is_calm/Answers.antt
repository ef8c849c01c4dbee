-- The parts of the network are those that were looked at, and the seed doesn't matter.
use Rattle.std.proofs.Common.{IsTrue, ◌↔◌}
use Rattle.gptp_scenario.specs.Calm.{IsCalm}
use Rattle.gptp_scenario.specs.Network.{seeded}
use Rattle.gptp_scenario.proofs.NetworkLemmas.{calm_seeded, seeded_calm}
use Rattle.gptp_scenario.proofs.network.Network.is_calm.Goals as goal

pub returns : goal.returns
returns c =
    let n = c.args.self.now in
    let e = c.args.events.now in
    let whole : IsTrue c.is_calm.result ↔ IsCalm (seeded 1 n) e =
    rw (← c.self.view_is, ← c.deref.ensures.value, ← c.deref-2.ensures.value) c.is_calm.ensures in
    (λ yes. seeded_calm n 1 e (whole.0 yes), λ calm. whole.1 (calm_seeded n 1 e calm))
