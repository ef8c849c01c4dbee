use Rattle.gptp_theorem.proofs.SettlingInvariantLemmas.{events_made}
use Rattle.gptp_theorem.proofs.laws.events_are_made.Goals as goal

pub returns : goal.returns
returns c = events_made
