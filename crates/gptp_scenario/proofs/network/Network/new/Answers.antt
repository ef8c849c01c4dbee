-- A network of these values with no member is a network.
use Rattle.std.proofs.Common.{refl}
use Rattle.gptp_scenario.proofs.NetworkLemmas.{none_yet}
use Rattle.gptp_scenario.proofs.network.Network.new.Goals as goal

pub invariant_of-result : goal.invariant_of-result
invariant_of-result c =
    rw (c.new.ensures.items, c.new-in-None.ensures.items) (none_yet c.args.params (c.in-None.ensures.kept refl))
