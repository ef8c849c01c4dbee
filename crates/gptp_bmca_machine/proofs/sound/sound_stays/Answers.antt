use Rattle.gptp_bmca_machine.proofs.SoundLemmas.{sound_kept}
use Rattle.gptp_bmca_machine.proofs.sound.sound_stays.Goals as goal

pub returns : goal.returns
returns g c = λ n w w' net. sound_kept g.C.Coding.says n net w w'
