use Rattle.gptp_system.proofs.AnswerLemmas.{steps_react}
use Rattle.gptp_system.proofs.laws.answers_touches.Goals as goal

pub returns : goal.returns
returns c = λ input now s s' sends answer calm shown rest k.
    let a = steps_react input now s s' sends answer calm shown rest k in
    (a.touch, a.seen, a.reacts)
