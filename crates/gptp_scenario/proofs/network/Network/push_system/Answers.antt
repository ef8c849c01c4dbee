-- A network with a system that can be added is a network.
use Rattle.std.proofs.Common.{rules, subst, sym}
use Rattle.gptp_scenario.specs.Network.{CanAddSystem}
use Rattle.gptp_scenario.proofs.NetworkLemmas.{system_added}
use Rattle.gptp_scenario.proofs.network.Network.push_system.Goals as goal

pub invariant_of-self-2 : goal.invariant_of-self-2
invariant_of-self-2 c =
    let added =
    system_added _ c.args.member _ _ c.self.invariant
    (subst (λ n. CanAddSystem n c.args.member) (sym c.self.view_is) c.requires) (search rules) in
    rw (
      c.in_ok-push.ensures.items,
      c.smallest_with-smallest.ensures,
      c.largest_with-largest.ensures,
      c.as_slice.ensures.value,
      c.as_slice-2.ensures.value,
    ) added
