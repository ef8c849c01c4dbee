use Rattle.gptp_bmca_machine.proofs.SoundEverywhereLemmas.{everywhere_sound}
use Rattle.gptp_bmca_machine.proofs.sound_everywhere.all_becomes_sound.Goals as goal

pub returns : goal.returns
returns g c = everywhere_sound g.C.Coding.says
