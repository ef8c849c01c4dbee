-- No interval is shorter than the smallest.
use Rattle.std.proofs.Common.{◌≡◌, rules}
use Rattle.gptp_setup.specs.Intervals.{interval_of}
use Rattle.gptp_scenario.specs.Network.{smallest_of}
use Rattle.gptp_scenario.proofs.LogLemmas.{interval_least}
use Rattle.gptp_scenario.proofs.network.Network.least_interval.Goals as goal

pub returns-clause-least : goal.returns-clause-least
returns-clause-least c = λ log member.
    let is : c.interval_of.result ≡ interval_of (smallest_of c.args.self.now) = search rules in
    rw is (interval_least c.args.self.now log member)
