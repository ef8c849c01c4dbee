use Rattle.gptp_invariants.proofs.DelayMeasuredLinkLemmas.{used_measured}
use Rattle.gptp_invariants.proofs.delay_measured_links.used_links_are_measured.Goals as goal

pub returns : goal.returns
returns c = used_measured
