-- A system that fails no test can be added.
use Rattle.std.proofs.Common.{rules}
use Rattle.gptp_scenario.proofs.LogLemmas.{all_prompt}
use Rattle.gptp_scenario.proofs.network.Network.system_fault.Goals as goal

pub returns-else-are_any_slower-clause-fits : goal.returns-else-are_any_slower-clause-fits
returns-else-are_any_slower-clause-fits c = λ _. record {
  room = search rules;
  limits = search rules;
  timed = search rules;
  fresh = search rules;
  prompt = all_prompt c.args.self.now.links c.args.member.now.intervals.items (search rules);
}
