use Rattle.gptp_explain.proofs.OneLemmas as lemmas
use Rattle.gptp_explain.proofs.laws.one_explanation.Goals as goal

pub returns : goal.returns
returns c = record { once = lemmas.one_explanation; apart = lemmas.never_both }
