use Rattle.gptp_invariants.proofs.ChoiceRestSoundLemmas.{rest_sound, rest_sound_beside_failed}
use Rattle.gptp_invariants.proofs.world_news.rest_is_sound.Goals as goal

pub returns-clause-live : goal.returns-clause-live
returns-clause-live c = rest_sound

pub returns-clause-beside_failed : goal.returns-clause-beside_failed
returns-clause-beside_failed c = rest_sound_beside_failed
