use Rattle.gptp_messages.proofs.WrittenLemmas.{reads_back}
use Rattle.gptp_messages.proofs.laws.what_is_written_reads_back.Goals as goal

pub returns : goal.returns
returns c = reads_back
