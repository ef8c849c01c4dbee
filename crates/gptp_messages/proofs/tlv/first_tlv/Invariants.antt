use Rattle.std.proofs.Common.{length}
use Rattle.std.specs.Option.{option_copied}
use Rattle.gptp_messages.proofs.TlvLemmas.{Walked}
use Rattle.gptp_messages.proofs.tlv.first_tlv.Given as goal

abbrev pub invariant-loop-rest : goal.invariant-loop-rest
invariant-loop-rest l = Walked l.kind l.octets l.rest (option_copied l.found)

abbrev pub decreases-loop-rest : goal.decreases-loop-rest
decreases-loop-rest l = length l.rest
