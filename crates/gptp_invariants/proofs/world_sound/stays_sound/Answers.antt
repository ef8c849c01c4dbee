use Rattle.gptp_invariants.proofs.WorldSoundLemmas.{sound_acts, sound_begins, sound_gains, sound_later}
use Rattle.gptp_invariants.proofs.world_sound.stays_sound.Goals as goal

pub returns-clause-begins : goal.returns-clause-begins
returns-clause-begins g c = sound_begins g.F.Fate.answers

pub returns-clause-acts : goal.returns-clause-acts
returns-clause-acts g c = sound_acts

pub returns-clause-later : goal.returns-clause-later
returns-clause-later g c = sound_later

pub returns-clause-gains : goal.returns-clause-gains
returns-clause-gains g c = sound_gains
