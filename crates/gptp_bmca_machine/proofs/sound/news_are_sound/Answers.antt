use Rattle.gptp_bmca_machine.proofs.SoundLemmas.{news_sound}
use Rattle.gptp_bmca_machine.proofs.sound.news_are_sound.Goals as goal

pub returns : goal.returns
returns c = λ g g' u a wf news. news_sound g g' news u a
