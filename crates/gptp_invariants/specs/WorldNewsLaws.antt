-- Laws on worlds since news.
use Rattle.std.specs.Prelude.{Option, ◌<◌, ◌≤◌, ◌+◌, ◌*◌, ℕ, pred, List}
use Rattle.gptp_graph.specs.PathBound.{BoundsPaths}
use Rattle.gptp_links.specs.declared.bounds.Bounds.{Bounds}
use Rattle.gptp_links.specs.Fate.{Draw}
use Rattle.gptp_scenario.specs.Network.{IsNetwork, NetworkState, pace_of}
use Rattle.gptp_model.specs.Course.{Begun, WasDone}
use Rattle.gptp_model.specs.Initial.{initial}
use Rattle.gptp_model.specs.Sound.{IsSound}
use Rattle.gptp_scenario.specs.Calm.{NothingLapses}
use Rattle.gptp_scenario.specs.Params.{KeepPace}
use Rattle.gptp_scenario.specs.declared.change.Act.{Act}
use Rattle.gptp_scenario.specs.declared.change.Act.TheVariants.{Change as Changing}
use Rattle.gptp_scenario.specs.declared.change.Change.TheVariants.{LinkUp, Priority1}
use Rattle.gptp_scenario.specs.declared.change.Change.{Change}
use Rattle.gptp_scenario.specs.declared.change.Timed.{Timed}
use Rattle.gptp_invariants.specs.WorldSettlingInvariant.{KeepsAll}
use Rattle.gptp_setup.specs.Intervals.{interval_of}
use Rattle.gptp_scenario.specs.SyncWait.{sync_wait}
use Rattle.gptp_setup.specs.SettlingParams.{SettlingParams, lapse_span, largest_interval}
use Rattle.gptp_model.specs.declared.done.Done.{Done}
use Rattle.gptp_model.specs.Acts.{Acts, at as at_time}
use Rattle.gptp_model.specs.Pending.{NothingBefore}
use Rattle.gptp_model.specs.World.{WorldState, port_id}
use Rattle.gptp_invariants.specs.DelayElsewhere.{IsOtherLink}
use Rattle.gptp_invariants.specs.DelayLinkView.{LinkPlace}
use Rattle.gptp_invariants.specs.FailedUnanswered.{FailedNeighboursAreSilent, StandsUnanswered}
use Rattle.gptp_scenario.specs.SettlingTime.{capability_span}
use Rattle.gptp_invariants.specs.ChoiceCalm.{HaveQuietLinks, delay_in, paths_with, step_with}
use Rattle.gptp_invariants.specs.ChoiceSettlesAsMachine.{IsWorld}
use Rattle.gptp_invariants.specs.WorldEncodableLaws.{SetsAnOctet}
use Rattle.gptp_invariants.specs.DelayMeasured.{LinkIsMeasured}
use Rattle.gptp_invariants.specs.WorldNews.{AllLive, AreReadyBy, AreSilentBy, IsNews}
use Rattle.gptp_invariants.specs.ChoiceSeenLaws.{IsNoChange}
use Rattle.gptp_invariants.specs.ChoiceSettled.{Settled}
use Rattle.gptp_invariants.specs.WorldSound.{IsGain, IsSoundWorld}
use Rattle.gptp_invariants.specs.DelayWatch.{GoodLinksMeasure}
use Rattle.gptp_invariants.specs.WorldStanding.{snapshot_of}

-- the claim begins: before the start it says nothing of the choice
abbrev pub NewsBegin : Type 0
NewsBegin = (p : SettlingParams) (start : ℕ) (w : WorldState)
    → KeepPace p → IsWorld p w → LinkIsMeasured w → AreSilentBy p start w → IsSoundWorld w → AreReadyBy p start w
    → w.time < start
    → IsNews p start w

-- every act that changes nothing of the network keeps it
abbrev pub NewsAreKept : Type 0
NewsAreKept = (p : SettlingParams) (start : ℕ) (act : Act) (w : WorldState) (draws : List Draw) (done : Done)
    (w' : WorldState)
    → IsNoChange act → SetsAnOctet act → Acts act w draws done w' → IsNews p start w
    → IsNews p start w'

-- time that passes, up to when something is due, keeps what is claimed of a world since news
abbrev pub NewsGoOn : Type 0
NewsGoOn = (p : SettlingParams) (start time : ℕ) (w : WorldState)
    → w.time ≤ time → NothingBefore time w.net.pending → IsNews p start w
    → IsNews p start (at_time time w)

-- once an announce interval has passed from the start, and the greatest delay for each further system of a path, the
-- world is settled
abbrev pub NewsWorldsSettle : Type 0
NewsWorldsSettle = (p : SettlingParams) (start m : ℕ) (w : WorldState)
    → IsNews p start w → NothingLapses p.params → HaveQuietLinks p.params w → BoundsPaths (snapshot_of w) m
    → start + largest_interval p + pred m * delay_in w ≤ w.time
    → Settled w

-- where something may lapse for want of Sync, but Syncs come in time, the world is settled system by system: once a
-- step has passed from the start for each further system of a path
abbrev pub NewsWorldsSettleInTurn : Type 0
NewsWorldsSettleInTurn = (p : SettlingParams) (start m : ℕ) (w : WorldState)
    → IsNews p start w → sync_wait p.params (paths_with m w) < lapse_span p.params → HaveQuietLinks p.params w
    → BoundsPaths (snapshot_of w) m → start + pred m * step_with p (paths_with m w) ≤ w.time
    → Settled w

-- A link that comes up, and leads to no failed system, is such news, where each other link in use is ready: from when
-- both its ends will be, one interval between requests and one exchange later.
abbrev pub LinkUpIsNews : Type 0
LinkUpIsNews = (p : SettlingParams) (start number port : ℕ) (w : WorldState) (draws : List Draw) (done : Done)
    (w' : WorldState)
    → KeepPace p → IsWorld p w → IsWorld p w' → LinkIsMeasured w → AreSilentBy p start w → IsSoundWorld w
    → AreReadyBy p start w → ((at : LinkPlace) → StandsUnanswered at w' → IsOtherLink at (port_id number port) w)
    → w.time + interval_of p.params.pdelay + (delay_in w' + p.params.turnaround + delay_in w') < start
    → Acts (Changing (LinkUp number port)) w draws done w'
    → IsNews p start w'

-- what is claimed of a world since news holds of the world of a network as it begins, from one interval between
-- requests and one exchange on
abbrev pub StartIsNews : {F : Type 0} → (Bounds → ℕ → F → Option ℕ → F → Type 0) → Type 0
StartIsNews {F} answers = (n : NetworkState) (fate fate_after : F) (w : WorldState) (start : ℕ)
    → IsNetwork n → IsSound (initial n) → Begun answers n fate fate_after w → IsWorld (pace_of n) w
    → interval_of (pace_of n).params.pdelay + (delay_in w + (pace_of n).params.turnaround + delay_in w) < start
    → IsNews (pace_of n) start w

-- What is watched since the last change is ready by when old frames are gone and three intervals between requests over.
abbrev pub WatchedIsReady : Type 0
WatchedIsReady = (p : SettlingParams) (start : ℕ) (w : WorldState)
    → GoodLinksMeasure p w → w.last_change + largest_interval p < start
    → w.last_change + 2 * largest_interval p + 3 * interval_of p.params.pdelay ≤ start
    → AreReadyBy p start w

-- where ports ask at least as often as they announce, each port beside a failed system is silent from a time on by
-- which it has been unanswered for long enough since the last change
abbrev pub UnansweredIsSilent : Type 0
UnansweredIsSilent = (p : SettlingParams) (start : ℕ) (w : WorldState)
    → KeepPace p → FailedNeighboursAreSilent p w → w.last_change + capability_span p ≤ start → AreSilentBy p start w

-- what is ready by a time is so by a later one: so news may follow news
abbrev pub ReadyIsReadyLater : Type 0
ReadyIsReadyLater = (p : SettlingParams) (start later : ℕ) (w : WorldState)
    → start ≤ later → AreReadyBy p start w → AreSilentBy p start w
    → AreReadyBy p later w × AreSilentBy p later w

-- every act that changes nothing of the network, done at its time, keeps what is claimed
abbrev pub NewsAreDone : {F : Type 0} → (Bounds → ℕ → F → Option ℕ → F → Type 0) → Type 0
NewsAreDone {F} answers = (p : SettlingParams) (start : ℕ) (timed : Timed) (fate fate_after : F) (w w' : WorldState)
    (done : Done)
    → IsNoChange timed.act → SetsAnOctet timed.act → WasDone answers timed fate fate_after w w' done → IsNews p start w
    → IsNews p start w'

-- a system that gets a priority1 that isn't worse is such news at once
abbrev pub PriorityIsNews : Type 0
PriorityIsNews = (p : SettlingParams) (start number value : ℕ) (w : WorldState) (draws : List Draw) (done : Done)
    (w' : WorldState)
    → KeepPace p → IsWorld p w → IsWorld p w' → LinkIsMeasured w → AllLive w → IsSoundWorld w → AreReadyBy p start w
    → IsGain (Priority1 number value) w → value < 256 → w.time < start
    → Acts (Changing (Priority1 number value)) w draws done w'
    → IsNews p start w'

-- Whatever else a change gains, a system that recovers too: it is such news from when all ports are capable at links in
-- use, by what is claimed after every change, and those beside failed systems are silent.
abbrev pub GainIsNews : Type 0
GainIsNews = (p : SettlingParams) (start : ℕ) (change : Change) (w : WorldState) (draws : List Draw) (done : Done)
    (w' : WorldState)
    → IsWorld p w → KeepsAll p w' → IsGain change w → SetsAnOctet (Changing change)
    → Acts (Changing change) w draws done w' → IsSoundWorld w → AreSilentBy p start w'
    → w'.time + 2 * largest_interval p + 3 * interval_of p.params.pdelay ≤ start
    → IsNews p start w'
