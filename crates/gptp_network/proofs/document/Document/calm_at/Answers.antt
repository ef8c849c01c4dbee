use Rattle.gptp_network.proofs.document.Document.calm_at.Goals as goal

pub returns : goal.returns
returns c = rw (c.network.ensures, c.events_by.ensures, c.events.ensures) at c.is_calm.ensures
