-- By when a calm network has settled after its last change (profile).
use Rattle.std.specs.Prelude.{ℕ, ◌+◌, ◌-◌, ◌*◌, pred, List}
use Rattle.gptp_setup.specs.Intervals.{interval_of}
use Rattle.gptp_setup.specs.SettlingParams.{largest_interval, longest_span, SettlingParams}
use Rattle.gptp_setup.specs.declared.setup.Params.{Params}
use Rattle.gptp_scenario.specs.Calm.{last_change}
use Rattle.gptp_scenario.specs.InUse.{count_live}
use Rattle.gptp_scenario.specs.Network.{NetworkState, pace_of}
use Rattle.gptp_scenario.specs.SyncWait.{step_more, sync_paths}
use Rattle.gptp_scenario.specs.declared.change.Timed.{Timed}
use Rattle.gptp_scenario.specs.declared.sync_wait.SyncPaths.{SyncPaths}

-- Links become capable, or not, after the requests that may be lost and five more. Intervals count as the largest
-- announce interval of any port.
abbrev pub capability_span : SettlingParams → ℕ
capability_span p = (p.params.lost + 5) * largest_interval p

-- How much longer it takes to measure a rate over a whole window than by two exchanges: one interval between requests
-- for each exchange of the window but one.
abbrev pub window_span : Params → ℕ
window_span p = (p.window - 1) * interval_of p.pdelay

-- With n live systems: what isn't of a live system ages within k + 1 announce intervals for each of them, what is left
-- settles within two more for each, and links become capable in the rest. So it is where nothing lapses.
abbrev pub settling_span : SettlingParams → ℕ → ℕ
settling_span p n = ((p.params.timeout + 3) * n + p.params.lost + 5) * largest_interval p

-- How long a network with n live systems takes to settle where Sync has such paths to cross.
abbrev pub settling_span_with : SettlingParams → SyncPaths → ℕ → ℕ
settling_span_with p paths n = settling_span p n + n * step_more p paths

-- the time from which on the network has settled
abbrev pub settles : NetworkState → List Timed → ℕ
settles n events =
    last_change events
    + settling_span_with (pace_of n) (sync_paths n events) (count_live n.systems events)

-- ---- after a loss

-- How long a port beside a system that fails may stay capable. The last of its requests that is answered went before
-- the failure. The next one goes a peer delay interval later, and is lost, as are those after it. Each is given up an
-- interval after it went. The port isn't capable once one more is lost than may be.
abbrev pub silence_span : SettlingParams → ℕ
silence_span p = (p.params.lost + 2) * interval_of p.params.pdelay

-- What a failed system told comes to its neighbours within the greatest delay of a link, and they hold it for the
-- longest receipt timeout. Then it has aged.
abbrev pub aging_span : SettlingParams → SyncPaths → ℕ
aging_span p paths = longest_span p + paths.delay

-- the greatest delay for each system of a path but one
abbrev pub way_span : SyncPaths → ℕ
way_span paths = pred paths.systems * paths.delay

-- An announce interval and the greatest delay for each system of a path but one: so much later who is told a right
-- trace holds it, and tells it.
abbrev pub echo_span : SettlingParams → SyncPaths → ℕ
echo_span p paths = pred paths.systems * (largest_interval p + paths.delay)

-- How long a network that had come to rest takes at most to settle after losses, where this was the greatest delay just
-- before or is now: for each system of a path a turn, in which what was told comes and is dropped. Then an announce
-- interval passes, and a way.
abbrev pub loss_span : SettlingParams → SyncPaths → ℕ → ℕ
loss_span p paths most = paths.systems * (longest_span p + most) + largest_interval p + way_span paths
