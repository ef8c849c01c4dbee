use Rattle.gptp_determinism.proofs.NameLemmas.{acts_named, initial_named, sound_named}
use Rattle.gptp_determinism.proofs.laws.names_mean_one_thing.Goals as goal

pub returns-clause-sound : goal.returns-clause-sound
returns-clause-sound c = sound_named

pub returns-clause-initial : goal.returns-clause-initial
returns-clause-initial c = initial_named

pub returns-clause-acts : goal.returns-clause-acts
returns-clause-acts c = acts_named
