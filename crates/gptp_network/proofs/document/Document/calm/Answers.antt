-- The parts of the document are those that were looked at.
use Rattle.gptp_network.proofs.document.Document.calm.Goals as goal

pub returns : goal.returns
returns c = rw (← c.self.view_is, ← c.deref.ensures.value) c.is_calm.ensures
