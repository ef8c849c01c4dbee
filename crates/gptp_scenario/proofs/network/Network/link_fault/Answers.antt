-- A link that fails no test can be added.
use Rattle.std.proofs.Common.{rules}
use Rattle.gptp_scenario.proofs.network.Network.link_fault.Goals as goal

pub returns-else-least_interval-wire-clause-fits : goal.returns-else-least_interval-wire-clause-fits
returns-else-least_interval-wire-clause-fits c = λ _. record {
  room = search rules;
  limits = record {
    number = c.requires;
    fit = search rules;
    prompt = search rules;
    a = search rules;
    b = search rules;
    apart = search rules;
  };
  free_a = search rules;
  free_b = search rules;
}
