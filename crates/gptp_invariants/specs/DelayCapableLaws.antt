-- Laws on worlds whose good links in use are watched.
use Rattle.std.specs.Prelude.{◌≤◌, ℕ, List, Option}
use Rattle.gptp_setup.specs.SettlingParams.{SettlingParams}
use Rattle.gptp_links.specs.declared.bounds.Bounds.{Bounds}
use Rattle.gptp_links.specs.Fate.{Draw}
use Rattle.gptp_scenario.specs.declared.change.Act.{Act}
use Rattle.gptp_scenario.specs.declared.change.Act.TheVariants.{Change as Changing}
use Rattle.gptp_scenario.specs.declared.change.Change.{Change}
use Rattle.gptp_scenario.specs.declared.change.Timed.{Timed}
use Rattle.gptp_model.specs.declared.done.Done.{Done}
use Rattle.gptp_model.specs.Acts.{Acts, at}
use Rattle.gptp_scenario.specs.Allowed.{IsFitAct}
use Rattle.gptp_model.specs.Course.{Begun, WasDone}
use Rattle.gptp_model.specs.Initial.{initial}
use Rattle.gptp_scenario.specs.Network.{IsNetwork, NetworkState, pace_of}
use Rattle.gptp_scenario.specs.Params.{KeepPace}
use Rattle.gptp_model.specs.Pending.{NothingBefore}
use Rattle.gptp_model.specs.Prompt.{DelaysFitIntervals}
use Rattle.gptp_model.specs.Sound.{IsSound}
use Rattle.gptp_model.specs.World.{WorldState}
use Rattle.gptp_invariants.specs.DelayMeasured.{LinkIsMeasured}
use Rattle.gptp_invariants.specs.WorldEncodableLaws.{SetsAnOctet}
use Rattle.gptp_invariants.specs.ChoiceSeenLaws.{IsNoChange}
use Rattle.gptp_invariants.specs.ChoiceCalm.{HaveQuietLinks}
use Rattle.gptp_invariants.specs.ChoiceSettlesAsMachine.{IsWorld, start_of}
use Rattle.gptp_invariants.specs.DelayWatch.{AreUsedCapable, GoodLinksMeasure}

-- ---- worlds stay measured

-- the world of a network is as it begins
abbrev pub MeasuredAtFirst : {F : Type 0} → (Bounds → ℕ → F → Option ℕ → F → Type 0) → Type 0
MeasuredAtFirst {F} answers = (n : NetworkState) (fate fate_after : F) (w : WorldState)
    → IsSound (initial n) → Begun answers n fate fate_after w
    → LinkIsMeasured w

-- a world stays measured from act to act: stations are as they were set up, their timers are in time, their ports
-- measure, and what is in flight fits
abbrev pub MeasuredDone : {F : Type 0} → (Bounds → ℕ → F → Option ℕ → F → Type 0) → Type 0
MeasuredDone {F} answers = (timed : Timed) (fate fate_after : F) (w w' : WorldState) (done : Done)
    → SetsAnOctet timed.act → WasDone answers timed fate fate_after w w' done → IsSound w → LinkIsMeasured w
    → LinkIsMeasured w'

-- ---- the claim begins

-- after every change of the network
abbrev pub WatchesChanged : Type 0
WatchesChanged = (p : SettlingParams) (change : Change) (w : WorldState) (draws : List Draw) (done : Done)
    (w' : WorldState)
    → KeepPace p → Acts (Changing change) w draws done w' → IsWorld p w' → LinkIsMeasured w'
    → GoodLinksMeasure p w'

-- good links in use are watched in the world of a network as it begins
abbrev pub WatchesAtFirst : {F : Type 0} → (Bounds → ℕ → F → Option ℕ → F → Type 0) → Type 0
WatchesAtFirst {F} answers = (n : NetworkState) (fate fate_after : F) (w : WorldState)
    → IsNetwork n → Begun answers n fate fate_after w → IsWorld (pace_of n) w → LinkIsMeasured w
    → GoodLinksMeasure (pace_of n) w

-- ---- it is kept

-- an act that changes nothing of the network keeps it
abbrev pub WatchesKept : Type 0
WatchesKept = (p : SettlingParams) (act : Act) (w : WorldState) (draws : List Draw) (done : Done) (w' : WorldState)
    → IsNoChange act → Acts act w draws done w' → IsWorld p w → GoodLinksMeasure p w
    → GoodLinksMeasure p w'

-- good links in use stay watched as time passes, up to when something is due
abbrev pub WatchesLater : Type 0
WatchesLater = (p : SettlingParams) (w : WorldState) (time : ℕ)
    → w.time ≤ time → NothingBefore time w.net.pending → IsWorld p w → GoodLinksMeasure p w
    → GoodLinksMeasure p (at time w)

-- good links in use stay watched from act to act, a change included
abbrev pub WatchesDone : {F : Type 0} → (Bounds → ℕ → F → Option ℕ → F → Type 0) → Type 0
WatchesDone {F} answers = (p : SettlingParams) (timed : Timed) (fate fate_after : F) (w w' : WorldState) (done : Done)
    → KeepPace p → IsFitAct timed.act → DelaysFitIntervals w timed.act → SetsAnOctet timed.act
    → WasDone answers timed fate fate_after w w' done → IsWorld p w → LinkIsMeasured w → GoodLinksMeasure p w
    → GoodLinksMeasure p w'

-- ---- ports become capable

-- a world with quiet links of which it holds has capable ports at all links of its snapshot, from the start on
abbrev pub UsedPortsCapable : Type 0
UsedPortsCapable = (p : SettlingParams) (w : WorldState)
    → KeepPace p → IsWorld p w → HaveQuietLinks p.params w → GoodLinksMeasure p w → start_of p w ≤ w.time
    → AreUsedCapable w
