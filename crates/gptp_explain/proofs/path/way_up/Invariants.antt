use Rattle.gptp_explain.proofs.PathLemmas.{HasClimbed}
use Rattle.gptp_explain.proofs.path.way_up.Given as goal

-- so many parents have been passed
abbrev pub invariant-loop-step : goal.invariant-loop-step
invariant-loop-step l = HasClimbed l.snapshot l.fn.clock l.steps l.step l.last l.way.items
