-- The last change is no later than events may be.
use Rattle.std.proofs.Common.{zero, suc, List, [], ◌∷◌, refl, arith}
use Rattle.gptp_setup.specs.Intervals.{IsMoment}
use Rattle.gptp_scenario.specs.Allowed.{AreAllowed}
use Rattle.gptp_scenario.specs.Calm.{last_change}
use Rattle.gptp_scenario.specs.declared.change.Timed.{Timed}

pub last_change_early : (events : List Timed) → AreAllowed events → IsMoment (last_change events)
last_change_early [] allowed = omega arith
last_change_early (t ∷ []) allowed = omega (arith, (allowed zero t refl).moment)
last_change_early (t ∷ (u ∷ us)) allowed =
    last_change_early (u ∷ us) (λ place e there. allowed (suc place) e there)
