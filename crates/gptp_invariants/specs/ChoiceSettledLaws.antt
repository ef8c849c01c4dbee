-- Laws on worlds that settle.
use Rattle.std.specs.Prelude.{◌<◌, ◌≤◌, ◌+◌, ℕ, List, length, Option}
use Rattle.gptp_graph.specs.PathBound.{BoundsPaths}
use Rattle.gptp_links.specs.declared.bounds.Bounds.{Bounds}
use Rattle.gptp_links.specs.Fate.{Draw}
use Rattle.gptp_setup.specs.Intervals.{IsLog}
use Rattle.gptp_setup.specs.SettlingParams.{SettlingParams, largest_interval}
use Rattle.gptp_scenario.specs.declared.change.Act.{Act}
use Rattle.gptp_scenario.specs.declared.change.Act.TheVariants.{Change as Changing}
use Rattle.gptp_scenario.specs.declared.change.Change.{Change}
use Rattle.gptp_scenario.specs.declared.change.Timed.{Timed}
use Rattle.gptp_model.specs.declared.done.Done.{Done}
use Rattle.gptp_model.specs.Acts.{Acts, at}
use Rattle.gptp_scenario.specs.Allowed.{IsFitAct}
use Rattle.gptp_model.specs.Course.{Begun, WasDone}
use Rattle.gptp_scenario.specs.Network.{IsNetwork, NetworkState, pace_of}
use Rattle.gptp_scenario.specs.SettlingTime.{settling_span_with}
use Rattle.gptp_model.specs.Prompt.{DelaysFitIntervals}
use Rattle.gptp_model.specs.Sound.{IsSound}
use Rattle.gptp_model.specs.World.{WorldState}
use Rattle.gptp_invariants.specs.WorldEncodableLaws.{SetsAnOctet}
use Rattle.gptp_invariants.specs.ChoiceSeenLaws.{IsNoChange}
use Rattle.gptp_invariants.specs.ChoiceCalm.{IsQuietWith, IsQuietWorld, paths_with, sync_paths_of}
use Rattle.gptp_invariants.specs.WorldStanding.{snapshot_of}
use Rattle.gptp_invariants.specs.ChoiceSettlesAsMachine.{BecomeCapable, SettlesAsMachine, IsWorld}
use Rattle.gptp_invariants.specs.ChoiceSettled.{Settled}

-- ---- worlds

-- every act that keeps the limits leaves a world one
abbrev pub ActsStayWorlds : Type 0
ActsStayWorlds = (p : SettlingParams) (act : Act) (w : WorldState) (draws : List Draw) (done : Done) (w' : WorldState)
    → IsFitAct act → DelaysFitIntervals w act → SetsAnOctet act → Acts act w draws done w' → IsWorld p w
    → IsWorld p w'

-- a world of a network stays one as time passes, up to a time before which nothing is due, so that it is sound then
abbrev pub TimeStaysWorld : Type 0
TimeStaysWorld = (p : SettlingParams) (w : WorldState) (time : ℕ)
    → w.time ≤ time → IsSound (at time w) → IsWorld p w
    → IsWorld p (at time w)

-- a world of a network stays one from act to act, where acts keep the limits
abbrev pub DoneStaysWorld : {F : Type 0} → (Bounds → ℕ → F → Option ℕ → F → Type 0) → Type 0
DoneStaysWorld {F} answers = (p : SettlingParams) (timed : Timed) (fate fate_after : F) (w w' : WorldState)
    (done : Done)
    → IsFitAct timed.act → DelaysFitIntervals w timed.act → SetsAnOctet timed.act
    → WasDone answers timed fate fate_after w w' done → IsWorld p w
    → IsWorld p w'

-- ---- the claim begins

-- until the largest announce interval has passed from the last change it holds of every world
abbrev pub HoldsBegins : Type 0
HoldsBegins = (p : SettlingParams) (w : WorldState)
    → IsWorld p w → w.time < w.last_change + largest_interval p
    → SettlesAsMachine p w

-- the claim that a world settles as the machine of gptp_bmca_machine does holds after every change of the network
abbrev pub HoldsChanged : Type 0
HoldsChanged = (p : SettlingParams) (change : Change) (w : WorldState) (draws : List Draw) (done : Done)
    (w' : WorldState)
    → IsLog p.largest → Acts (Changing change) w draws done w' → IsWorld p w'
    → SettlesAsMachine p w'

-- the claim that a world settles as the machine of gptp_bmca_machine does holds of the world of a network as it begins
abbrev pub HoldsAtFirst : {F : Type 0} → (Bounds → ℕ → F → Option ℕ → F → Type 0) → Type 0
HoldsAtFirst {F} answers = (n : NetworkState) (fate fate_after : F) (w : WorldState)
    → IsNetwork n → Begun answers n fate fate_after w → IsWorld (pace_of n) w
    → SettlesAsMachine (pace_of n) w

-- ---- it is kept

-- an act that changes nothing of the network keeps it
abbrev pub HoldsKept : Type 0
HoldsKept = (p : SettlingParams) (act : Act) (w : WorldState) (draws : List Draw) (done : Done) (w' : WorldState)
    → IsNoChange act → Acts act w draws done w' → IsWorld p w → BecomeCapable p w → BecomeCapable p w'
    → SettlesAsMachine p w
    → SettlesAsMachine p w'

-- time that passes keeps the claim that a world settles as the machine of gptp_bmca_machine does, where the ports are
-- capable before and after it
abbrev pub HoldsLater : Type 0
HoldsLater = (p : SettlingParams) (w : WorldState) (time : ℕ)
    → w.time ≤ time → IsWorld p w → IsWorld p (at time w) → BecomeCapable p w → BecomeCapable p (at time w)
    → SettlesAsMachine p w
    → SettlesAsMachine p (at time w)

-- the claim that a world settles as the machine of gptp_bmca_machine does is kept from act to act, where the ports are
-- capable before the act, at its time, and after it
abbrev pub HoldsDone : {F : Type 0} → (Bounds → ℕ → F → Option ℕ → F → Type 0) → Type 0
HoldsDone {F} answers = (p : SettlingParams) (timed : Timed) (fate fate_after : F) (w w' : WorldState) (done : Done)
    → IsLog p.largest → IsFitAct timed.act → DelaysFitIntervals w timed.act → SetsAnOctet timed.act
    → WasDone answers timed fate fate_after w w' done → IsWorld p w
    → BecomeCapable p w → BecomeCapable p (at timed.at w) → BecomeCapable p w' → SettlesAsMachine p w
    → SettlesAsMachine p w'

-- ---- the world settles

-- A world of which it holds, no path of which has more than m systems, and which is quiet by that number, has settled
-- once the span of as many systems or more has passed from the last change.
abbrev pub HoldsSettledByPaths : Type 0
HoldsSettledByPaths = (p : SettlingParams) (m n : ℕ) (w : WorldState)
    → IsWorld p w → BecomeCapable p w → SettlesAsMachine p w
    → BoundsPaths (snapshot_of w) m → IsQuietWith p.params (paths_with m w) w → m ≤ n
    → w.last_change + settling_span_with p (paths_with m w) n ≤ w.time
    → Settled w

-- a world that settles as the machine of gptp_bmca_machine does, and is quiet by its own paths, has settled once the
-- settling span of its live systems has passed from the last change
abbrev pub HoldsSettled : Type 0
HoldsSettled = (p : SettlingParams) (w : WorldState)
    → IsWorld p w → IsQuietWorld p.params w → BecomeCapable p w → SettlesAsMachine p w
    → w.last_change + settling_span_with p (sync_paths_of w) (length (snapshot_of w).systems) ≤ w.time
    → Settled w
