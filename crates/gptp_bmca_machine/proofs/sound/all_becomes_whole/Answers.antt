use Rattle.gptp_bmca_machine.proofs.LevelLemmas.{all_whole}
use Rattle.gptp_bmca_machine.proofs.sound.all_becomes_whole.Goals as goal

pub returns : goal.returns
returns g c = all_whole g.C.Coding.says
