use Rattle.gptp_theorem.proofs.SoonLemmas.{gains_are_sound, rests_are_sound, sound_goes_on, starts_are_sound}
use Rattle.gptp_theorem.proofs.soon.worlds_stay_sound.Goals as goal

pub returns-clause-start : goal.returns-clause-start
returns-clause-start g c = starts_are_sound g.F.Fate.answers

pub returns-clause-course : goal.returns-clause-course
returns-clause-course g c = sound_goes_on g.F.Fate.answers

pub returns-clause-gain : goal.returns-clause-gain
returns-clause-gain g c = gains_are_sound g.F.Fate.answers

pub returns-clause-rest : goal.returns-clause-rest
returns-clause-rest g c = rests_are_sound
