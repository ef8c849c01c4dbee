use Rattle.std.proofs.Common.{◌∙◌}
use Rattle.gptp_world.proofs.net.Net.inject.Goals as goal

pub returns-clause-net : goal.returns-clause-net
returns-clause-net g c = record { joins = c.send.ensures.joins ∙ c.requires.net.joins }

pub returns-clause-sent : goal.returns-clause-sent
returns-clause-sent g c = λ channel here.
    let octets = c.of_octets.ensures.items ∙ c.write_octets.ensures in rw (← octets) (c.send.ensures.sent channel here)
