use Rattle.std.proofs.Common.{refl}
use Rattle.gptp_setup.specs.declared.timer.Timer.TheVariants as timers
use Rattle.gptp_model.specs.World.{receiver, sender}
use Rattle.gptp_invariants.proofs.DelayLinkExpiryLemmas.{answer_timer_seen, request_timer_seen}
use Rattle.gptp_invariants.proofs.delay_link_acts.own_timers_act.Goals as goal

pub returns-clause-asks : goal.returns-clause-asks
returns-clause-asks c = λ at w w' draws l sound k.
    request_timer_seen at at.asking (timers.Pdelay (sender at.direction l.channel).port) w draws w' k sound l refl refl

pub returns-clause-answers : goal.returns-clause-answers
returns-clause-answers c = λ at w w' draws l sound k.
    answer_timer_seen at at.answering (timers.Respond (receiver at.direction l.channel).port) w draws w' k sound l refl
    refl
