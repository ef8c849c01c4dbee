use Rattle.gptp_bmca_machine.proofs.SoundEverywhereLemmas.{all_held, calls_sound, on_links, sound_kept, sound_more}
use Rattle.gptp_bmca_machine.proofs.sound_everywhere.sound_is_kept.Goals as goal

pub returns-clause-steps : goal.returns-clause-steps
returns-clause-steps g c = sound_kept g.C.Coding.says

pub returns-clause-calls : goal.returns-clause-calls
returns-clause-calls g c = calls_sound g.C.Coding.says

pub returns-clause-more : goal.returns-clause-more
returns-clause-more g c = λ g1 g2 w well more. sound_more g1 g2 well more g.C.Coding.says w

pub returns-clause-held : goal.returns-clause-held
returns-clause-held g c = all_held g.C.Coding.says

pub returns-clause-links : goal.returns-clause-links
returns-clause-links g c = on_links g.C.Coding.says
