-- A network is one whatever its seed.
use Rattle.gptp_scenario.proofs.NetworkLemmas.{seeded_kept}
use Rattle.gptp_scenario.proofs.network.Network.set_seed.Goals as goal

pub invariant_of-self : goal.invariant_of-self
invariant_of-self c = seeded_kept _ c.args.seed _ _ c.self.invariant
