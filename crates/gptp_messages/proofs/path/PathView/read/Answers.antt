use Rattle.std.proofs.Common.{refl}
use Rattle.gptp_messages.proofs.GrammarLemmas.{odd_path}
use Rattle.gptp_messages.proofs.path.PathView.read.Goals as goal

pub returns-in-Some-2-clause-refused : goal.returns-in-Some-2-clause-refused
returns-in-Some-2-clause-refused c = (
  refl,
  λ path reads. odd_path c.args.octets.now c.in-Some.value.now path
      (rw c.in-Some.is at c.in_ok-first_tlv.ensures.found) c.if-value-eq0.false reads,
)
