use Rattle.gptp_invariants.proofs.ChoiceSeenOctetLemmas.{octets_say_what_fits}
use Rattle.gptp_invariants.proofs.choice_seen.octets_say_what_fits.Goals as goal

pub returns : goal.returns
returns c = octets_say_what_fits
