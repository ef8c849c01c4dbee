use Rattle.gptp_invariants.proofs.DelayMeasuredLinkLemmas.{claimed_measured}
use Rattle.gptp_invariants.proofs.delay_measured_links.links_are_measured.Goals as goal

pub returns : goal.returns
returns c = claimed_measured
