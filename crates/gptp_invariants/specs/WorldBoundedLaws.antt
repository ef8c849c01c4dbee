-- Laws on what the systems of a world state of themselves.
use Rattle.std.specs.Prelude.{ℕ}
use Rattle.gptp_graph.specs.PathBound.{BoundsPaths}
use Rattle.gptp_scenario.specs.Calm.{NothingLapses}
use Rattle.gptp_scenario.specs.SettlingTime.{settling_span_with}
use Rattle.gptp_model.specs.World.{WorldState}
use Rattle.gptp_invariants.specs.WorldBounded.{IsBoundedWorld}
use Rattle.gptp_invariants.specs.WorldCalmFor.{IsCalmFor, at_once_span, span_over}
use Rattle.gptp_invariants.specs.WorldSettlingInvariant.{SettlingInvariant}
use Rattle.gptp_invariants.specs.WorldStanding.{snapshot_of}

-- where a world has been calm for the settling span of its live systems, it is bounded
abbrev pub ClaimedBounded : Type 0
ClaimedBounded = (w : WorldState) → SettlingInvariant w → IsCalmFor settling_span_with w → IsBoundedWorld w

-- a world is bounded where it has been calm for the settling span of m systems, and no path of its snapshot has more
abbrev pub ClaimedBoundedByPaths : Type 0
ClaimedBoundedByPaths = (m : ℕ) (w : WorldState)
    → SettlingInvariant w → BoundsPaths (snapshot_of w) m → IsCalmFor (span_over m) w
    → IsBoundedWorld w

-- where nothing lapses, a world is bounded sooner: once it has been calm for the span in which m systems settle at
-- once, and no path of its snapshot has more
abbrev pub ClaimedBoundedAtOnce : Type 0
ClaimedBoundedAtOnce = (m : ℕ) (w : WorldState)
    → SettlingInvariant w → BoundsPaths (snapshot_of w) m → (calm : IsCalmFor (at_once_span m) w)
    → NothingLapses calm.pace.params
    → IsBoundedWorld w
