-- Laws: from when on each port has measured the links of the snapshot that are at it.
use Rattle.std.specs.Prelude.{◌+◌, ◌*◌, ◌≤◌}
use Rattle.gptp_setup.specs.SettlingParams.{SettlingParams, largest_interval}
use Rattle.gptp_scenario.specs.Params.{KeepPace}
use Rattle.gptp_scenario.specs.SettlingTime.{window_span}
use Rattle.gptp_model.specs.World.{WorldState}
use Rattle.gptp_invariants.specs.ChoiceCalm.{HaveQuietLinks}
use Rattle.gptp_invariants.specs.WorldCalmFor.{IsCalmFor, measured_span}
use Rattle.gptp_invariants.specs.WorldSettlingInvariant.{SettlingInvariant}
use Rattle.gptp_invariants.specs.ChoiceSettlesAsMachine.{IsWorld}
use Rattle.gptp_invariants.specs.DelayMeasuredLinks.{HaveMeasuredLinks}
use Rattle.gptp_invariants.specs.DelayWatch.{GoodLinksMeasure}

-- where they are watched, from five announce intervals and what a whole window takes more after the last change on
abbrev pub UsedLinksAreMeasured : Type 0
UsedLinksAreMeasured = (p : SettlingParams) (w : WorldState)
    → KeepPace p → IsWorld p w → HaveQuietLinks p.params w → GoodLinksMeasure p w
    → w.last_change + 5 * largest_interval p + window_span p.params ≤ w.time
    → HaveMeasuredLinks w

-- each port of a live system has measured the links of the snapshot that are at it, where the settling invariant holds
-- and the world has been calm for as long as ports take to be capable and to measure over a whole window
abbrev pub ClaimedMeasured : Type 0
ClaimedMeasured = (w : WorldState) → SettlingInvariant w → IsCalmFor measured_span w → HaveMeasuredLinks w
