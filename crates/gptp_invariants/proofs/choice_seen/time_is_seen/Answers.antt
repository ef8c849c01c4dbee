use Rattle.std.proofs.Common.{refl}
use Rattle.gptp_invariants.proofs.choice_seen.time_is_seen.Goals as goal

pub returns : goal.returns
returns c = λ w time later. record { time = time; later = later; is = refl }
