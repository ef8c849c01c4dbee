-- By when a calm network in which nothing lapses has settled after its last change, sharply (profile).
use Rattle.std.specs.Prelude.{ℕ, ◌+◌, ◌*◌, max, pred}
use Rattle.gptp_setup.specs.SettlingParams.{largest_interval, longest_span, SettlingParams}
use Rattle.gptp_scenario.specs.SettlingTime.{capability_span}
use Rattle.gptp_scenario.specs.declared.sync_wait.SyncPaths.{SyncPaths}

-- Links become capable. Meanwhile frames that were in flight are gone after two announce intervals, and then all that
-- is held becomes wholly clean within the longest span for which it stays and the greatest delay, for each system of a
-- path. Then it takes an announce interval, and the greatest delay for each further system of a path.
abbrev pub settling_span_at_once : SettlingParams → SyncPaths → ℕ
settling_span_at_once p paths =
    max (capability_span p) (2 * largest_interval p + paths.systems * (longest_span p + paths.delay))
    + largest_interval p
    + pred paths.systems * paths.delay
