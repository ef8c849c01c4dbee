-- Syncs come down from the best: it sends them at its Sync timer, and each system that has settled passes on what its
-- slave port hears. A Sync counts once its Follow_Up has come (IEEE 802.1AS-2020, 10.2.8 and 11.2.14), so it is these
-- that are followed here: by when the next one comes to a system that follows one that has settled.
use Rattle.std.specs.Prelude.{◌≡◌, ◌⊎◌, ◌<◌, ◌≤◌, ◌+◌, ◌*◌, ◌^◌, ℕ, zero, suc, true, List, Some, slice_get}
use Rattle.gptp_graph.specs.Snapshot.{PortIdentity, port_of}
use Rattle.gptp_graph.specs.Parent.{ParentLink, IsParent}
use Rattle.gptp_bmca_machine.specs.Frame.{SaysSync, Lane}
use Rattle.gptp_bmca_machine.specs.Station.{Station, MachineState}
use Rattle.gptp_bmca_machine.specs.Network.{Network, since}
use Rattle.gptp_bmca_machine.specs.Lapsing.{FollowsFarther}
use Rattle.gptp_bmca_machine.specs.Matching.{Matches}

-- ---- each state

-- a system of this identity may be grandmaster: its priority1 is below 255 (IEEE 802.1AS-2020, 10.3.2)
abbrev pub MayLead : ℕ → Type 0
MayLead identity = identity < 255 * 2 ^ 104

-- What is known of a live system: its Sync timer is due within a sync interval, its Relay timer, while that runs,
-- within the residence time; and its lapse timer runs only where its root may be grandmaster.
pub record HasSyncTimers (n : Network) (now : ℕ) (s : Station) : Type 0 where
  pub sync : (now ≤ s.sync) × (s.sync ≤ now + n.syncs.interval)
  pub relay : (due : ℕ) → s.relay ≡ Some due → (now ≤ due) × (due ≤ now + n.syncs.residence)
  pub lapse : (due : ℕ) → s.lapse ≡ Some due → MayLead s.root

-- all live systems are so: nothing due earlier is left, and steps keep it, by acts_tell_syncs
abbrev pub HaveSyncTimers : Network → MachineState → Type 0
HaveSyncTimers n w = (i : ℕ) (s : Station) → slice_get w.stations i ≡ Some s → s.live ≡ true
    → HasSyncTimers n w.time s

-- ---- by when the next Follow_Up comes

-- how long at most it takes from any time to the next one after a system at distance d
abbrev pub wait : Network → ℕ → ℕ
wait n d = n.syncs.interval + d * (n.syncs.residence + n.most) + n.most

-- For every distance that a path allows, a settled system waits no longer than is said, which is shorter than the span
-- of lapse timers; and claims are made of its links once that wait is over. Shown of worlds by claim_is_kept.
pub record IsPrompt (n : Network) : Type 0 where
  -- Where paths have links, `sync_wait` of a world is at least a sync interval, the largest delay for each link of the
  -- longest, and the residence time for each of these links but one.
  pub covers : (d : ℕ) → suc d < n.reach → wait n d ≤ n.sync_wait
  -- in a quiet world, by `SyncsComeInTime` of gptp_scenario
  pub short : n.sync_wait < n.syncs.span
  pub bare : n.bare ≤ since n 0
  pub waits : (d : ℕ) (p : PortIdentity) → since n d + n.sync_wait ≤ n.claimed d p

-- one comes over a lane by this time: it is on the lane, or will be sent early enough
abbrev pub ComesBy : ℕ → (ℕ → Type 0) → (ℕ → Type 0) → ℕ → Type 0
ComesBy most OnLane SentAt by = ((due : ℕ) × OnLane due × (due ≤ by))
    ⊎ ((sent : ℕ) × SentAt sent × (sent + most ≤ by))

-- the system v, at this distance, tells time by this time: the best at its Sync timer, another by its Relay timer,
-- which runs already or will start by what comes from its parent
abbrev pub TellsBy : SaysSync → Network → List Station → List Lane → ℕ → ℕ → ℕ → Type 0
TellsBy says_sync n stations lanes zero v by =
    (s : Station) × (slice_get stations (n.place v) ≡ Some s) × (s.sync ≤ by)
TellsBy says_sync n stations lanes (suc d) v by =
    ((s : Station) × (slice_get stations (n.place v) ≡ Some s)
    × ((due : ℕ) × (s.relay ≡ Some due) × (due ≤ by)))
    ⊎ ((l : ParentLink) × IsParent n.graph v l
    × ((come : ℕ) × ComesBy n.most (Matches says_sync stations lanes (n.lane (port_of l.clock l.port)))
    (TellsBy says_sync n stations lanes d l.clock) come
    × (come + n.syncs.residence ≤ by)))

-- one comes from this port, of a system at distance d, by this time
abbrev pub HearsBy : SaysSync → Network → List Station → List Lane → ℕ → PortIdentity → ℕ → Type 0
HearsBy says_sync n stations lanes d from by =
    ComesBy n.most (Matches says_sync stations lanes (n.lane from)) (TellsBy says_sync n stations lanes d from.clock) by

-- one comes within the wait from when the lapse timer that is due then was started, or within the wait from a time
-- before the system that it comes from had settled
pub record IsExpected (says_sync : SaysSync) (n : Network) (stations : List Station) (lanes : List Lane) (d : ℕ)
    (from : PortIdentity) (due : ℕ) : Type 0 where
  pub by : ℕ
  pub hears : HearsBy says_sync n stations lanes d from by
  pub soon : (by + n.syncs.span ≤ due + wait n d) ⊎ (by < since n d + wait n d)

-- `IsExpected` holds of every system with a lapse timer that follows a near one that has settled. Each step keeps it,
-- by syncs_are_expected; each world keeps it in `IsSettling` of gptp_invariants.
abbrev pub SyncsAreExpected : SaysSync → Network → MachineState → Type 0
SyncsAreExpected says_sync n w = (i : ℕ) (s : Station) (d due : ℕ) → slice_get w.stations i ≡ Some s → s.live ≡ true
    → d < 255 → (follows : FollowsFarther n.graph s d) → since n d ≤ w.time → s.lapse ≡ Some due
    → IsExpected says_sync n w.stations w.lanes d follows.follows.from due
