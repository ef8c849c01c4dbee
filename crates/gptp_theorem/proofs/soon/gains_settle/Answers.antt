use Rattle.gptp_theorem.proofs.SoonLemmas.{gains_settle, links_up_settle}
use Rattle.gptp_theorem.proofs.soon.gains_settle.Goals as goal

pub returns-clause-link_up : goal.returns-clause-link_up
returns-clause-link_up g c = links_up_settle g.F.Fate.answers

pub returns-clause-gain : goal.returns-clause-gain
returns-clause-gain g c = gains_settle g.F.Fate.answers
