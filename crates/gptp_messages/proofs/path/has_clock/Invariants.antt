use Rattle.gptp_messages.proofs.PathLemmas.{Looked}
use Rattle.gptp_messages.proofs.path.has_clock.Given as goal

abbrev pub invariant-loop-place : goal.invariant-loop-place
invariant-loop-place l = Looked l.octets l.place l.clock l.found
