use Rattle.std.proofs.Common.{refl}
use Rattle.gptp_setup.specs.declared.timer.Timer.TheVariants as timers
use Rattle.gptp_model.specs.World.{sender}
use Rattle.gptp_invariants.proofs.FailedUnansweredExpiryLemmas.{request_timer_seen}
use Rattle.gptp_invariants.proofs.failed_acts.own_timer_asks.Goals as goal

pub returns : goal.returns
returns c = λ at gone w w' draws l sound old k.
    request_timer_seen gone at at.asking (timers.Pdelay (sender at.direction l.channel).port) w draws w' k sound l old
    refl refl
