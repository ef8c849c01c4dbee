use Rattle.gptp_error_laws.proofs.CutLemmas.{cuts_are_no_more}
use Rattle.gptp_error_laws.proofs.laws.cuts_are_no_more.Goals as goal

pub returns : goal.returns
returns c = cuts_are_no_more
