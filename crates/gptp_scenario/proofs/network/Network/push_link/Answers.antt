-- A network with a link that can be added is a network.
use Rattle.std.proofs.Common.{subst, sym}
use Rattle.gptp_scenario.specs.Network.{CanAddLink}
use Rattle.gptp_scenario.proofs.NetworkLemmas.{link_added}
use Rattle.gptp_scenario.proofs.network.Network.push_link.Goals as goal

pub invariant_of-self-2 : goal.invariant_of-self-2
invariant_of-self-2 c =
    rw c.in_ok-push.ensures.items
    (link_added _ c.args.wire _ _ c.self.invariant
    (subst (λ n. CanAddLink n c.args.wire) (sym c.self.view_is) c.requires))
