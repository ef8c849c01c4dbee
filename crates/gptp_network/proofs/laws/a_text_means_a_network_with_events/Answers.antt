use Rattle.gptp_network.proofs.MeantLemmas.{meant_document}
use Rattle.gptp_network.proofs.laws.a_text_means_a_network_with_events.Goals as goal

pub returns : goal.returns
returns c = meant_document
