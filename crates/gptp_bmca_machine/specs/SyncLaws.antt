-- Laws on Syncs: they come in time, so that nothing lapses, and networks in which things may lapse settle.
use Rattle.std.specs.Prelude.{ℕ, ◌<◌, ◌≤◌, ◌+◌, ◌*◌, pred, List, [], ◌∷◌}
use Rattle.gptp_bmca_machine.specs.Frame.{Spelling, SaysSync}
use Rattle.gptp_bmca_machine.specs.Station.{MachineState}
use Rattle.gptp_graph.specs.Snapshot.{PortIdentity}
use Rattle.gptp_bmca_machine.specs.Network.{Network, IsSettlingNetwork, BecomesClean, network_setting, since, settled_from}
use Rattle.gptp_bmca_machine.specs.Facts.{SendersLive}
use Rattle.gptp_bmca_machine.specs.Calm.{Calm}
use Rattle.gptp_bmca_machine.specs.Levels.{Invariant}
use Rattle.gptp_bmca_machine.specs.Run.{last_state, NearHaveSettled}
use Rattle.gptp_bmca_machine.specs.EarlyPorts.{ClaimsWhenReady}
use Rattle.gptp_bmca_machine.specs.Lapsing.{NothingNearLapses}
use Rattle.gptp_bmca_machine.specs.Syncs.{HaveSyncTimers, IsPrompt, SyncsAreExpected}
use Rattle.gptp_bmca_machine.specs.SyncActs.{SyncSteps}

-- before the start no Sync is expected
abbrev pub SyncsBegin : SaysSync → Type 0
SyncsBegin says_sync = (n : Network) (w : MachineState)
    → w.time < n.sound
    → SyncsAreExpected says_sync n w

-- every step keeps by when they are expected
abbrev pub ExpectedSyncsAreKept : Spelling → SaysSync → Type 0
ExpectedSyncsAreKept says says_sync = (n : Network) (w w' : MachineState)
    → IsSettlingNetwork n → n.bare ≤ since n 0 → Calm n w → Calm n w' → Invariant says n w → Invariant says n w'
    → HaveSyncTimers n w → HaveSyncTimers n w' → SyncSteps says says_sync n w w' → SyncsAreExpected says_sync n w
    → SyncsAreExpected says_sync n w'

-- where Syncs are expected in a prompt network, nothing lapses that a system received from a near one
abbrev pub ExpectedSyncsComeInTime : Spelling → SaysSync → Type 0
ExpectedSyncsComeInTime says says_sync = (n : Network) (w : MachineState)
    → IsSettlingNetwork n → IsPrompt n → Calm n w → Invariant says n w → HaveSyncTimers n w
    → SyncsAreExpected says_sync n w
    → NothingNearLapses n w

-- a settled system waits no longer than a sync interval, and for each link of a path a residence time and a delay
abbrev pub WaitIsBounded : Type 0
WaitIsBounded = (n : Network)
    → n.syncs.interval + pred n.reach * (n.syncs.residence + n.most) ≤ n.sync_wait → n.sync_wait < n.syncs.span
    → n.bare ≤ since n 0 → ((d : ℕ) (p : PortIdentity) → since n d + n.sync_wait ≤ n.claimed d p)
    → IsPrompt n

-- each state follows from the one before it by a step, and all are calm; Syncs are told as they should be
abbrev pub IsSyncRun : Spelling → SaysSync → Network → MachineState → List MachineState → Type 0
IsSyncRun says says_sync n w [] = Calm n w × HaveSyncTimers n w
IsSyncRun says says_sync n w (w' ∷ ws) = Calm n w × HaveSyncTimers n w × SyncSteps says says_sync n w w'
    × IsSyncRun says says_sync n w' ws

-- such a run, begun before the start, ends settled, once it is late enough
abbrev pub SyncRunSettles : Spelling → SaysSync → Type 0
SyncRunSettles says says_sync = (n : Network) (w : MachineState) (ws : List MachineState)
    → IsSettlingNetwork n → IsPrompt n → BecomesClean n → ClaimsWhenReady n → IsSyncRun says says_sync n w ws
    → SendersLive (network_setting n) w → w.time < n.start
    → settled_from n ≤ (last_state w ws).time
    → NearHaveSettled n (last_state w ws)
