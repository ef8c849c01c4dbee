use Rattle.gptp_bmca_machine.proofs.LevelLemmas.{clean_sound, invariant_begins, invariant_kept}
use Rattle.gptp_bmca_machine.proofs.network.invariant_is_kept.Goals as goal

pub returns-clause-begins : goal.returns-clause-begins
returns-clause-begins g c = λ n w net. invariant_begins g.C.Coding.says n net w

pub returns-clause-kept : goal.returns-clause-kept
returns-clause-kept g c = λ n w w' net. invariant_kept g.C.Coding.says n net w w'

pub returns-clause-sound : goal.returns-clause-sound
returns-clause-sound g c = λ n w net. clean_sound g.C.Coding.says n net w
