-- The certificate of a world that has been calm for long enough (profile).
use Rattle.std.specs.Prelude.{List}
use Rattle.gptp_graph.specs.Labelling.{SystemLine}
use Rattle.gptp_graph.specs.SettledChoice.{IsSettledChoice}
use Rattle.gptp_scenario.specs.SettlingTime.{settling_span_with}
use Rattle.gptp_model.specs.World.{WorldState}
use Rattle.gptp_invariants.specs.WorldStanding.{snapshot_of}
use Rattle.gptp_invariants.specs.WorldCalmFor.{IsCalmFor}

-- once the world has been calm for the settling span, the lines are the settled choice of its snapshot
abbrev pub IsRightInTime : WorldState → List SystemLine → Type 0
IsRightInTime w lines = IsCalmFor settling_span_with w → IsSettledChoice (snapshot_of w) lines
