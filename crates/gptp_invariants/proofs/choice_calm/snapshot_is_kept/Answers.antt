use Rattle.std.proofs.Common.{refl}
use Rattle.gptp_invariants.proofs.ChoiceCalmKeptLemmas.{acts_keep, same_snapshot}
use Rattle.gptp_invariants.proofs.choice_calm.snapshot_is_kept.Goals as goal

pub returns-clause-acts : goal.returns-clause-acts
returns-clause-acts c = λ act w draws done w' none k. same_snapshot w w' (acts_keep act w draws done w' none k)

pub returns-clause-time : goal.returns-clause-time
returns-clause-time c = λ w time. refl

pub returns-clause-last : goal.returns-clause-last
returns-clause-last c = λ act w draws done w' none k. (acts_keep act w draws done w' none k).change
