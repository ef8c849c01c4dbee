use Rattle.gptp_system.specs.Sends.{message_sent}
use Rattle.gptp_system.proofs.OctetLemmas.{written_reads}
use Rattle.gptp_system.proofs.sending.Sent.message.Goals as goal

pub returns-clause-reads : goal.returns-clause-reads
returns-clause-reads c = rw c.as_message.ensures (written_reads (message_sent c.args.self.now) c.fits.ensures)
