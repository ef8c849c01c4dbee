-- A message that is heard is heard as its octets.
use Rattle.std.proofs.Common.{ℕ, List, [], subst, inl}
use Rattle.std.proofs.lemmas.List.{append-nil}
use Rattle.gptp_messages.specs.declared.message.Message.{Message}
use Rattle.gptp_messages.specs.Grammar.{MessageFits, Reads, Written}
use Rattle.gptp_messages.proofs.WrittenLemmas.{reads_back}
use Rattle.gptp_system.specs.declared.answer.Answer.{Answer}
use Rattle.gptp_system.specs.declared.sending.Sending.{Sending}
use Rattle.gptp_system.specs.State.{SystemState}
use Rattle.gptp_system.specs.Steps.{HearsFrame, HearsMessage}

-- the octets of a message read as it
pub written_reads : (m : Message) → MessageFits m → Reads (Written m) m
written_reads m fits = subst (λ octets. Reads octets m) (append-nil (Written m)) (reads_back m [] fits).same

pub hears_written : (p : ℕ) (m : Message) (now : ℕ) (s s' : SystemState) (sends : List Sending) (answer : Answer)
    → MessageFits m → HearsMessage p m now s s' sends answer → HearsFrame p (Written m) now s s' sends answer
hears_written p m now s s' sends answer fits k =
    inl (record { message = m; reads = written_reads m fits; hears = k })
