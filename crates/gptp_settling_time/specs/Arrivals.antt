-- When what was in flight has arrived: as a link was last set, and as a choice came to stand.
use Rattle.std.specs.Prelude.{◌≡◌, ◌<◌, ◌≤◌, ◌⊎◌, ◌+◌, ℕ, Bool, true, false, List, [], ◌∷◌, Option, Some, None, filter}
use Rattle.gptp_setup.specs.SettlingParams.{largest_interval}
use Rattle.gptp_scenario.specs.Calm.{last_change}
use Rattle.gptp_scenario.specs.Network.{NetworkState, pace_of}
use Rattle.gptp_scenario.specs.SyncWait.{sync_paths}
use Rattle.gptp_scenario.specs.declared.change.Act.{Act}
use Rattle.gptp_scenario.specs.declared.change.Act.TheVariants.{Change as Changing}
use Rattle.gptp_scenario.specs.declared.change.Change.TheVariants.{LinkSet}
use Rattle.gptp_scenario.specs.declared.change.Timed.{Timed}
use Rattle.gptp_settling_time.specs.Gains.{HasDelaysWithin}

-- the act sets the bounds of a link
abbrev pub sets_link : Act → Bool
sets_link (Changing (LinkSet number port min max loss)) = true
sets_link act = false

abbrev pub last_of : List Timed → Option ℕ
last_of [] = None
last_of (event ∷ events) = Some (last_change (event ∷ events))

-- when the last of these events was that sets a link, if one does
abbrev pub last_set : List Timed → Option ℕ
last_set events = last_of (filter (λ (event : Timed). sets_link event.act) events)

abbrev pub after_set : ℕ → Option ℕ → ℕ
after_set most None = 0
after_set most (Some time) = time + most

-- By when what was in flight as the last of them set a link has arrived: later by what no link takes longer than. Where
-- none does nothing is in flight for longer than the greatest delay of its link.
abbrev pub arrived_by : ℕ → List Timed → ℕ
arrived_by most events = after_set most (last_set events)

-- what was in flight as the last of these events set a link has arrived by this time
abbrev pub HasArrivedSinceSet : NetworkState → List Timed → ℕ → Type 0
HasArrivedSinceSet n events time = (most : ℕ) × HasDelaysWithin n events most × (arrived_by most events ≤ time)

-- What was sent over a link in use before a time has arrived by another, in ns. It has an announce interval later. It
-- has the greatest delay of a link in use later, where what was in flight as a link was last set has before that time.
abbrev pub HasArrivedBy : NetworkState → List Timed → ℕ → ℕ → Type 0
HasArrivedBy n events time arrived =
    (arrived ≡ time + largest_interval (pace_of n))
    ⊎ ((arrived ≡ time + (sync_paths n events).delay)
    × ((most : ℕ) × HasDelaysWithin n events most × (arrived_by most events < time)))
