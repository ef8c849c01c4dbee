use Rattle.std.proofs.Common.{refl, sym, ◌∙◌}
use Rattle.gptp_messages.proofs.GrammarLemmas.{no_rate, odd_rate}
use Rattle.gptp_messages.proofs.follow_up.read_rate.Goals as goal

pub returns-in-None-clause-refused : goal.returns-in-None-clause-refused
returns-in-None-clause-refused c =
    (refl, λ rate reads. no_rate c.args.octets.now rate (rw c.in-None.is at c.in_ok-first_tlv.ensures.found) reads)

pub returns-in-Some-2-clause-refused : goal.returns-in-Some-2-clause-refused
returns-in-Some-2-clause-refused c = (
  refl,
  λ rate reads. odd_rate c.args.octets.now c.in-Some.value.now rate
      (rw c.in-Some.is at c.in_ok-first_tlv.ensures.found)
      (λ long. c.if-value-from.false (long ∙ sym c.from.ensures)) reads,
)
