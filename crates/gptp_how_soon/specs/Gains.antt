-- How soon what comes up is heard at a time: when its ports are capable, and whether an announce interval passes.
use Rattle.std.specs.Prelude.{ℕ, ◌==◌, ◌||◌, Bool, if◌then◌else◌, List, length}
use Rattle.std.specs.List.{list_any}
use Rattle.gptp_setup.specs.SettlingParams.{largest_interval}
use Rattle.gptp_setup.specs.declared.setup.Params.{Params}
use Rattle.gptp_scenario.specs.Network.{NetworkState, pace_of}
use Rattle.gptp_scenario.specs.declared.sync_wait.SyncPaths.{SyncPaths}
use Rattle.gptp_topology.specs.declared.course.Cable.{Cable}
use Rattle.gptp_how_soon.specs.Bounds.{asked_again, two_exchanges}
use Rattle.gptp_how_soon.specs.Kinds.{recovers}
use Rattle.gptp_how_soon.specs.Links.{varies}
use Rattle.gptp_how_soon.specs.declared.kinds.Told.{Told}

-- an end of the link recovers by these events
abbrev pub is_again : List Told → Cable → Bool
is_again told c = recovers told c.a.clock || recovers told c.b.clock

-- From when on ports at new links are capable: after two exchanges. Where a system recovers, a port that stayed on asks
-- for the first of them within an interval.
abbrev pub ready : Params → SyncPaths → List Told → List Cable → ℕ
ready p paths told new =
    if length new == 0 then 0 else if list_any (is_again told) new then asked_again p paths else two_exchanges p paths

-- What is told over a new link may not be heard at once: its delay varies, or an end recovers.
abbrev pub is_hard_to_hear : List Told → Cable → Bool
is_hard_to_hear told c = is_again told c || varies c

-- An announce interval passes where something may not be heard at once.
abbrev pub heard_by : NetworkState → List Told → List Cable → ℕ
heard_by n told new = if list_any (is_hard_to_hear told) new then largest_interval (pace_of n) else 0
