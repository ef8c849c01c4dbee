-- For how long a settled system waits for the next Sync of its best at most, and what that adds to settling where what
-- the Slave port holds may lapse for want of Sync (syncReceiptTimeout; IEEE 802.1AS-2020, 10.7.3.1; profile).
use Rattle.std.specs.Prelude.{ℕ, ◌+◌, ◌-◌, ◌*◌, pred, nat_lt, if◌then◌else◌, List}
use Rattle.gptp_setup.specs.declared.setup.Params.{Params}
use Rattle.gptp_setup.specs.Intervals.{interval_of}
use Rattle.gptp_setup.specs.SettlingParams.{SettlingParams, lapse_span, largest_interval}
use Rattle.gptp_scenario.specs.InUse.{greatest_delay, path_systems}
use Rattle.gptp_scenario.specs.Network.{NetworkState}
use Rattle.gptp_scenario.specs.declared.change.Timed.{Timed}
use Rattle.gptp_scenario.specs.declared.sync_wait.SyncPaths.{SyncPaths}

-- what Sync has to cross in a network after the events
abbrev pub sync_paths : NetworkState → List Timed → SyncPaths
sync_paths n events = record {
  systems = path_systems n.systems n.links events;
  delay = greatest_delay n.systems events n.links;
}

-- From any time on the best sends Sync within the sync interval, and each link of a path brings it on within a
-- residence time and the greatest delay.
abbrev pub sync_wait : Params → SyncPaths → ℕ
sync_wait p paths = interval_of p.sync + pred paths.systems * (p.residence + paths.delay)

-- What a step of distance from the best takes longer than the two announce intervals that it takes anyway. A step
-- waits for the next Sync and then for the next Announce, which arrives within the greatest delay. It takes no longer
-- where syncReceiptTimeout is off, whose span is 0.
abbrev pub step_more : SettlingParams → SyncPaths → ℕ
step_more p paths =
    if nat_lt (sync_wait p.params paths) (lapse_span p.params)
    then sync_wait p.params paths + paths.delay - largest_interval p
    else 0
