-- Laws on what every world of a network keeps.
use Rattle.std.specs.Prelude.{◌≤◌, ◌+◌, ℕ, Option}
use Rattle.gptp_setup.specs.SettlingParams.{SettlingParams}
use Rattle.gptp_graph.specs.PathBound.{BoundsPaths, path_bound}
use Rattle.gptp_links.specs.declared.bounds.Bounds.{Bounds}
use Rattle.gptp_scenario.specs.declared.change.Timed.{Timed}
use Rattle.gptp_model.specs.declared.done.Done.{Done}
use Rattle.gptp_scenario.specs.Allowed.{IsFitAct}
use Rattle.gptp_scenario.specs.Calm.{NothingLapses}
use Rattle.gptp_model.specs.Acts.{at}
use Rattle.gptp_model.specs.Course.{Begun, WasDone}
use Rattle.gptp_model.specs.Initial.{initial}
use Rattle.gptp_scenario.specs.Network.{IsNetwork, NetworkState, pace_of}
use Rattle.gptp_model.specs.Pending.{NothingBefore}
use Rattle.gptp_scenario.specs.SettlingTime.{settling_span, settling_span_with}
use Rattle.gptp_model.specs.Sound.{IsSound}
use Rattle.gptp_model.specs.World.{WorldState}
use Rattle.gptp_model.specs.Prompt.{HavePace, DelaysFitIntervals}
use Rattle.gptp_invariants.specs.WorldEncodableLaws.{SetsAnOctet}
use Rattle.gptp_invariants.specs.ChoiceCalm.{HaveQuietLinks}
use Rattle.gptp_invariants.specs.ChoiceSettlesAsMachine.{BecomeCapable}
use Rattle.gptp_invariants.specs.ChoiceSettled.{Settled}
use Rattle.gptp_invariants.specs.WorldStanding.{snapshot_of}
use Rattle.gptp_invariants.specs.WorldCalmFor.{ArePortsSettled, IsCalmFor, at_once_span, capable_span, span_over}
use Rattle.gptp_invariants.specs.WorldSettlingInvariant.{SettlingInvariant, KeepsAll}

-- ---- with the parameters of the network and its largest announce interval

-- the world of a network keeps it as it begins
abbrev pub ClaimBegins : {F : Type 0} → (Bounds → ℕ → F → Option ℕ → F → Type 0) → Type 0
ClaimBegins {F} answers = (n : NetworkState) (fate fate_after : F) (w : WorldState)
    → IsNetwork n → IsSound (initial n) → Begun answers n fate fate_after w
    → KeepsAll (pace_of n) w

-- it is kept from act to act, a change included
abbrev pub ClaimKept : {F : Type 0} → (Bounds → ℕ → F → Option ℕ → F → Type 0) → Type 0
ClaimKept {F} answers = (p : SettlingParams) (timed : Timed) (fate fate_after : F) (w w' : WorldState) (done : Done)
    → IsFitAct timed.act → DelaysFitIntervals w timed.act → SetsAnOctet timed.act
    → WasDone answers timed fate fate_after w w' done → KeepsAll p w
    → KeepsAll p w'

-- what every world of a network with these parameters keeps is kept as time passes, up to when something is due
abbrev pub ClaimLater : Type 0
ClaimLater = (p : SettlingParams) (w : WorldState) (time : ℕ)
    → w.time ≤ time → NothingBefore time w.net.pending → KeepsAll p w
    → KeepsAll p (at time w)

-- from the start on the ports of live systems are disabled exactly where no link of the snapshot is at them
abbrev pub ClaimIsCapable : Type 0
ClaimIsCapable = (p : SettlingParams) (w : WorldState) → KeepsAll p w → BecomeCapable p w

-- ---- without them

-- the world of a network keeps it as it begins
abbrev pub ClaimedBegins : {F : Type 0} → (Bounds → ℕ → F → Option ℕ → F → Type 0) → Type 0
ClaimedBegins {F} answers = (n : NetworkState) (fate fate_after : F) (w : WorldState)
    → IsNetwork n → IsSound (initial n) → Begun answers n fate fate_after w
    → SettlingInvariant w

-- it is kept from act to act, a change included
abbrev pub ClaimedKept : {F : Type 0} → (Bounds → ℕ → F → Option ℕ → F → Type 0) → Type 0
ClaimedKept {F} answers = (timed : Timed) (fate fate_after : F) (w w' : WorldState) (done : Done)
    → IsFitAct timed.act → DelaysFitIntervals w timed.act → SetsAnOctet timed.act
    → WasDone answers timed fate fate_after w w' done → SettlingInvariant w
    → SettlingInvariant w'

-- what every world of a network keeps, in words that name no parameters, is kept as time passes, up to when something
-- is due
abbrev pub ClaimedLater : Type 0
ClaimedLater = (w : WorldState) (time : ℕ)
    → w.time ≤ time → NothingBefore time w.net.pending → SettlingInvariant w
    → SettlingInvariant (at time w)

-- ---- what it promises

-- Where the world has been calm for L + 5 announce intervals, L being how many requests may be lost, each port of a
-- live system is capable exactly where a link of the snapshot is at it, and Disabled exactly where it isn't.
abbrev pub ClaimedCapable : Type 0
ClaimedCapable = (w : WorldState) → SettlingInvariant w → IsCalmFor capable_span w → ArePortsSettled w

-- where it has been for the settling span of its live systems, it has settled
abbrev pub ClaimedSettled : Type 0
ClaimedSettled = (w : WorldState) → SettlingInvariant w → IsCalmFor settling_span_with w → Settled w

-- a world has settled where it has been calm for the settling span of m systems, and no path of its snapshot has more
abbrev pub ClaimedSettledByPaths : Type 0
ClaimedSettledByPaths = (m : ℕ) (w : WorldState)
    → SettlingInvariant w → BoundsPaths (snapshot_of w) m → IsCalmFor (span_over m) w
    → Settled w

-- where nothing lapses, a world has settled sooner: once it has been calm for the span in which m systems settle at
-- once, and no path of its snapshot has more
abbrev pub ClaimedSettledAtOnce : Type 0
ClaimedSettledAtOnce = (m : ℕ) (w : WorldState)
    → SettlingInvariant w → BoundsPaths (snapshot_of w) m → (calm : IsCalmFor (at_once_span m) w)
    → NothingLapses calm.pace.params
    → Settled w

-- which is so of the number that is read off the links: two, and those that have two neighbours
abbrev pub ClaimedSettledByNeighbours : Type 0
ClaimedSettledByNeighbours = (w : WorldState)
    → SettlingInvariant w → IsCalmFor (span_over (path_bound (snapshot_of w))) w
    → Settled w

-- Where syncReceiptTimeout is 0 a world is calm by its links alone, and has been for the settling span of m systems
-- once their intervals have passed.
abbrev pub CalmWithoutTimeout : Type 0
CalmWithoutTimeout = (p : SettlingParams) (m : ℕ) (w : WorldState)
    → NothingLapses p.params → HavePace p w → HaveQuietLinks p.params w → w.last_change + settling_span p m ≤ w.time
    → IsCalmFor (span_over m) w

-- by then its ports have too
abbrev pub SettledIsCapable : Type 0
SettledIsCapable = (w : WorldState) → IsCalmFor settling_span_with w → IsCalmFor capable_span w

abbrev pub SettledIsCapableByPaths : Type 0
SettledIsCapableByPaths = (m : ℕ) (w : WorldState) → IsCalmFor (span_over m) w → IsCalmFor capable_span w
