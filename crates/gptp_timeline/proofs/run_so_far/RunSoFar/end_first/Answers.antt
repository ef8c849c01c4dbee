use Rattle.std.proofs.Common.{[], Err, ap, ◌∙◌, refl}
use Rattle.std.proofs.lemmas.Result.{err_from_is_err_and, IfOk-weaker}
use Rattle.gptp_lists.proofs.SystemSpecLemmas.{In-slice_get}
use Rattle.gptp_timeline.proofs.PassLemmas.{memory_alone, memory_else}
use Rattle.gptp_timeline.proofs.run_so_far.RunSoFar.end_first.Goals as goal

-- no event is made
pub play-requires-clause-events : goal.play-requires-clause-events
play-requires-clause-events g c = λ place timed there. absurd (In-slice_get timed [] place there)

pub play-requires-clause-prompt : goal.play-requires-clause-prompt
play-requires-clause-prompt g c = λ place timed there. absurd (In-slice_get timed [] place there)

pub returns-in_err-play-clause-memory : goal.returns-in_err-play-clause-memory
returns-in_err-play-clause-memory g c =
    let passed = err_from_is_err_and c.from_residual-in_err-play.result c.from_residual-in_err-play.ensures.1 in
    rw (passed.1 ∙ ap Err passed.2) (memory_alone c.in_err-play.field-0.0
    (λ is. c.in_err-play.ensures.fails (ap Err is) refl))

pub returns-clause-memory : goal.returns-clause-memory
returns-clause-memory g c = memory_else c.end_stretch.result (λ is. c.end_stretch.ensures.fails is refl)

pub returns-clause-ended : goal.returns-clause-ended
returns-clause-ended g c =
    let played = c.in_ok-play.ensures.played in
    IfOk-weaker c.end_stretch.result _ _ (λ end is. (
      c.in_ok-plan.plan,
      played.0,
      played.2.lines,
      c.in_ok-plan.ensures.plan,
      played.1,
      played.2.are,
      is,
    )) c.end_stretch.ensures.end
