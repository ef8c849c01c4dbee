use Rattle.std.proofs.Common.{refl}
use Rattle.gptp_invariants.proofs.ChoiceCalmKeptLemmas.{acts_keep, later_quiet, same_network, stays_quiet}
use Rattle.gptp_invariants.proofs.choice_calm.network_is_kept.Goals as goal

pub returns-clause-acts : goal.returns-clause-acts
returns-clause-acts c =
    λ p m start act w draws done w' none k. same_network w w' (acts_keep act w draws done w' none k) p m start

pub returns-clause-time : goal.returns-clause-time
returns-clause-time c = λ p m start w time. refl

pub returns-clause-quiet : goal.returns-clause-quiet
returns-clause-quiet c =
    λ p act w draws done w' none k quiet. stays_quiet w w' (acts_keep act w draws done w' none k) p quiet

pub returns-clause-quiet_later : goal.returns-clause-quiet_later
returns-clause-quiet_later c = later_quiet
