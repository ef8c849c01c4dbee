use Rattle.gptp_messages.proofs.path.read_clocks.Goals as goal

pub returns : goal.returns
returns c = c.read_octets.ensures
