-- What is kept is the smallest of the network.
use Rattle.std.proofs.Common.{◌≡◌, ◌≤ℤ◌, to_z, of_z, w8, rules, subst, sym}
use Rattle.gptp_setup.specs.Intervals.{IsLog}
use Rattle.gptp_scenario.specs.Network.{smallest_of, IsNetwork}
use Rattle.gptp_scenario.proofs.LogLemmas.{smallest_least, smallest_log}
use Rattle.gptp_scenario.proofs.network.Network.smallest.Goals as goal

pub returns : goal.returns
unfolding smallest_of
returns c =
    let n = c.args.self.now in
    let network : IsNetwork n = subst IsNetwork c.self.view_is c.self.invariant.network in
    let is : to_z w8 (of_z w8 c.unwrap_or.result) ≡ smallest_of n = search rules in
    record {
      is = is;
      least = λ log member. subst (λ v. v ≤ℤ log) (sym is) (smallest_least n log member);
      range = subst IsLog (sym is) (smallest_log n network);
    }
