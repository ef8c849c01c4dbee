-- What is kept is the largest of the network.
use Rattle.std.proofs.Common.{◌≡◌, ◌≤ℤ◌, to_z, of_z, w8, rules, subst, sym}
use Rattle.gptp_setup.specs.Intervals.{IsLog}
use Rattle.gptp_scenario.specs.Network.{largest_of, IsNetwork}
use Rattle.gptp_scenario.proofs.LogLemmas.{largest_greatest, largest_log}
use Rattle.gptp_scenario.proofs.network.Network.largest.Goals as goal

pub returns : goal.returns
unfolding largest_of
returns c =
    let n = c.args.self.now in
    let network : IsNetwork n = subst IsNetwork c.self.view_is c.self.invariant.network in
    let is : to_z w8 (of_z w8 c.unwrap_or.result) ≡ largest_of n = search rules in
    record {
      is = is;
      greatest = λ log member. subst (λ v. log ≤ℤ v) (sym is) (largest_greatest n log member);
      range = subst IsLog (sym is) (largest_log n network);
    }
