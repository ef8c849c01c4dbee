-- What the calls of a world show once it has been calm for long enough.
use Rattle.std.specs.Prelude.{◌≡◌, ◌≢◌, ◌<◌, ◌↔◌, ◌+◌, ◌*◌, ℕ, suc, true, Option}
use Rattle.gptp_setup.specs.SettlingParams.{SettlingParams, largest_interval}
use Rattle.gptp_graph.specs.Distance.{IsDistance, IsNear}
use Rattle.gptp_graph.specs.PathBound.{BoundsPaths}
use Rattle.gptp_graph.specs.SettledChoice.{IsBestIdentity}
use Rattle.gptp_graph.specs.SettledRole.{IsSettledRole}
use Rattle.gptp_graph.specs.Snapshot.{IsLinked, Snapshot, port_of}
use Rattle.gptp_roles.specs.declared.role.Role.{Role}
use Rattle.gptp_roles.specs.declared.role.Role.TheVariants.{Disabled}
use Rattle.gptp_system.specs.State.{SystemState, clock, is_capable_at}
use Rattle.gptp_system.specs.Steps.{HasPortNumber}
use Rattle.gptp_scenario.specs.Calm.{NothingLapses}
use Rattle.gptp_scenario.specs.SettlingTime.{settling_span_with}
use Rattle.gptp_scenario.specs.SyncWait.{step_more}
use Rattle.gptp_scenario.specs.declared.sync_wait.SyncPaths.{SyncPaths}
use Rattle.gptp_model.specs.World.{WorldState}
use Rattle.gptp_bmca_machine.specs.Settled.{IsSlaveOf}
use Rattle.gptp_invariants.specs.WorldStanding.{snapshot_of}
use Rattle.gptp_invariants.specs.ChoiceSettled.{graph_role}
use Rattle.gptp_invariants.specs.WorldCalmFor.{IsCalmFor, at_once_span, capable_span, span_over}
use Rattle.gptp_invariants.specs.ChoiceTraces.{turns_span}

-- ---- capability

-- a port of a system is capable exactly where a link of the snapshot is at it
abbrev pub AreCapable : Snapshot → SystemState → Type 0
AreCapable g s = (n : ℕ) → HasPortNumber s n → (is_capable_at s n ≡ true) ↔ IsLinked g (port_of (clock s) n)

-- a port of the system is capable exactly where a link of the snapshot is at it, once the world has been calm for as
-- long as ports take to become capable
abbrev pub IsCapableInTime : WorldState → SystemState → Type 0
IsCapableInTime w s = IsCalmFor capable_span w → AreCapable (snapshot_of w) s

-- a port of the system with this clock is Disabled exactly where no link of the snapshot is at it, once the world has
-- been calm for as long as ports take to become capable
abbrev pub IsEnabledInTime : ℕ → ℕ → WorldState → Role → Type 0
IsEnabledInTime number port w role =
    IsCalmFor capable_span w → (role ≢ Disabled) ↔ IsLinked (snapshot_of w) (port_of number port)

-- ---- the choice

-- the best's identity, the distance, and the own port of the parent, or none where there is no parent
pub record IsSettledFor (g : Snapshot) (number root steps : ℕ) (slave : Option ℕ) : Type 0 where
  pub best : IsBestIdentity g number root
  pub distance : IsDistance g number steps
  pub parent : IsSlaveOf g number slave

-- that is what the near system with this clock follows, once the world has been calm for the settling span
abbrev pub FollowsInTime : ℕ → WorldState → ℕ → ℕ → Option ℕ → Type 0
FollowsInTime number w root steps slave =
    IsCalmFor settling_span_with w → IsNear (snapshot_of w) number
    → IsSettledFor (snapshot_of w) number root steps slave

-- the near system with this clock follows its component's best, at its distance and over its parent, once the world has
-- been calm for the settling span of m systems, where no path of its snapshot has more
abbrev pub FollowsByPaths : ℕ → WorldState → ℕ → ℕ → Option ℕ → Type 0
FollowsByPaths number w root steps slave = (m : ℕ)
    → BoundsPaths (snapshot_of w) m → IsCalmFor (span_over m) w → IsNear (snapshot_of w) number
    → IsSettledFor (snapshot_of w) number root steps slave

-- Where nothing lapses, so it is once the world has been calm for the sharper span, where no path has more than m
-- systems.
abbrev pub FollowsAtOnce : ℕ → WorldState → ℕ → ℕ → Option ℕ → Type 0
FollowsAtOnce number w root steps slave = (m : ℕ)
    → BoundsPaths (snapshot_of w) m → (calm : IsCalmFor (at_once_span m) w) → NothingLapses calm.pace.params
    → IsNear (snapshot_of w) number
    → IsSettledFor (snapshot_of w) number root steps slave

-- a port of the near system with this clock has its settled role once the world has been calm for the settling span, of
-- all live systems or of m, or for the sharper span where nothing lapses
abbrev pub PlaysInTime : ℕ → ℕ → WorldState → Role → Type 0
PlaysInTime number port w role =
    IsCalmFor settling_span_with w → IsNear (snapshot_of w) number
    → IsSettledRole (snapshot_of w) (port_of number port) (graph_role role)

abbrev pub PlaysByPaths : ℕ → ℕ → WorldState → Role → Type 0
PlaysByPaths number port w role = (m : ℕ)
    → BoundsPaths (snapshot_of w) m → IsCalmFor (span_over m) w → IsNear (snapshot_of w) number
    → IsSettledRole (snapshot_of w) (port_of number port) (graph_role role)

abbrev pub PlaysAtOnce : ℕ → ℕ → WorldState → Role → Type 0
PlaysAtOnce number port w role = (m : ℕ)
    → BoundsPaths (snapshot_of w) m → (calm : IsCalmFor (at_once_span m) w) → NothingLapses calm.pace.params
    → IsNear (snapshot_of w) number
    → IsSettledRole (snapshot_of w) (port_of number port) (graph_role role)

-- ---- by distance

-- two announce intervals for each of d steps, and what a step takes longer where Sync is waited for, after the turns
-- in which all that is held becomes wholly clean
abbrev pub distance_span : ℕ → ℕ → SettlingParams → SyncPaths → ℕ → ℕ
distance_span m d p paths n = turns_span m p paths n + 2 * d * largest_interval p + d * step_more p paths

-- that is when a near system at distance d follows its component's best over its parent, where no path of the snapshot
-- has more than m systems
abbrev pub FollowsByDistance : ℕ → WorldState → ℕ → ℕ → Option ℕ → Type 0
FollowsByDistance number w root steps slave = (m d : ℕ)
    → BoundsPaths (snapshot_of w) m → IsDistance (snapshot_of w) number d → d < 255 → IsCalmFor (distance_span m d) w
    → IsSettledFor (snapshot_of w) number root steps slave

-- a port of a near system at distance d has its settled role once the world has been calm for the span of distance d +
-- 1, where no path of its snapshot has more than m systems
abbrev pub PlaysByDistance : ℕ → ℕ → WorldState → Role → Type 0
PlaysByDistance number port w role = (m d : ℕ)
    → BoundsPaths (snapshot_of w) m → IsDistance (snapshot_of w) number d → d < 255
    → IsCalmFor (distance_span m (suc d)) w
    → IsSettledRole (snapshot_of w) (port_of number port) (graph_role role)
