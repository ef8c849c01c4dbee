use Rattle.gptp_invariants.proofs.ChoiceCalmFactLemmas.{facts_with}
use Rattle.gptp_invariants.proofs.ChoiceCalmLemmas.{calm}
use Rattle.gptp_invariants.proofs.choice_calm.worlds_are_calm.Goals as goal

pub returns : goal.returns
returns c = λ p m start times w sound encodable known quiet old capable.
    calm p m start times w sound encodable known quiet (facts_with p m start times w sound encodable known old) capable
