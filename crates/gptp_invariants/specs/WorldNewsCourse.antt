-- Laws on courses of a world: it starts, or a change takes nothing away, and then nothing is changed for so long.
use Rattle.std.specs.Prelude.{◌≡◌, ◌<◌, ◌≤◌, ◌⊎◌, ◌+◌, ◌*◌, ℕ, Option, pred, List}
use Rattle.gptp_graph.specs.PathBound.{BoundsPaths}
use Rattle.gptp_links.specs.declared.bounds.Bounds.{Bounds}
use Rattle.gptp_scenario.specs.Calm.{NothingLapses}
use Rattle.gptp_scenario.specs.Network.{IsNetwork, NetworkState, pace_of}
use Rattle.gptp_scenario.specs.SettlingTime.{capability_span}
use Rattle.gptp_scenario.specs.SyncWait.{sync_wait}
use Rattle.gptp_scenario.specs.declared.change.Act.TheVariants.{Change as Changing}
use Rattle.gptp_scenario.specs.declared.change.Change.{Change}
use Rattle.gptp_scenario.specs.declared.change.Change.TheVariants.{LinkUp}
use Rattle.gptp_setup.specs.Intervals.{interval_of}
use Rattle.gptp_setup.specs.SettlingParams.{SettlingParams, lapse_span, largest_interval}
use Rattle.gptp_model.specs.declared.done.Done.{Done}
use Rattle.gptp_model.specs.Acts.{at as at_time}
use Rattle.gptp_model.specs.Advancing.{Advanced, Told}
use Rattle.gptp_model.specs.Course.{Begun, WasDone}
use Rattle.gptp_model.specs.Initial.{initial}
use Rattle.gptp_model.specs.Sound.{IsSound}
use Rattle.gptp_model.specs.World.{WorldState, port_id}
use Rattle.gptp_invariants.specs.WorldBounded.{IsBoundedWorld}
use Rattle.gptp_invariants.specs.ChoiceCalm.{HaveQuietLinks, IsQuietWith, delay_in, paths_with, step_with}
use Rattle.gptp_bmca_machine.specs.Network.{machine_clean_from}
use Rattle.gptp_invariants.specs.WorldSettlingInvariant.{KeepsAll}
use Rattle.gptp_invariants.specs.ChoiceSettlesAsMachine.{settling_network}
use Rattle.gptp_invariants.specs.DelayElsewhere.{IsOtherLink}
use Rattle.gptp_invariants.specs.DelayLinkView.{LinkPlace}
use Rattle.gptp_invariants.specs.WorldNews.{AllLive, IsNews}
use Rattle.gptp_invariants.specs.ChoiceSettled.{Settled}
use Rattle.gptp_invariants.specs.WorldEncodableLaws.{SetsAnOctet}
use Rattle.gptp_invariants.specs.WorldSound.{IsGain, IsSoundWorld}
use Rattle.gptp_invariants.specs.WorldStanding.{snapshot_of}
use Rattle.gptp_invariants.specs.FailedUnanswered.{StandsUnanswered}

-- from when both ends of a link are capable that asked first at a time: one interval between requests and one exchange
-- later
abbrev pub capable_from : SettlingParams → WorldState → ℕ → ℕ
capable_from p w time =
    time + interval_of p.params.pdelay + (delay_in w + p.params.turnaround + delay_in w) + 1

-- A world whose ports at links are all capable from a start has settled by its time: where nothing lapses, after an
-- announce interval, and the greatest delay for each further system of a path; where Syncs come in time, after a step
-- for each.
abbrev pub HasSettledBy : SettlingParams → ℕ → ℕ → WorldState → Type 0
HasSettledBy p m start w =
    (NothingLapses p.params × (start + largest_interval p + pred m * delay_in w ≤ w.time))
    ⊎ ((sync_wait p.params (paths_with m w) < lapse_span p.params)
    × (start + pred m * step_with p (paths_with m w) ≤ w.time))

-- a world goes on by itself, and what is claimed of it stays
abbrev pub NewsAdvance : {F : Type 0} → (Bounds → ℕ → F → Option ℕ → F → Type 0) → Type 0
NewsAdvance {F} answers = (p : SettlingParams) (start until : ℕ) (told : List Told) (fate fate_after : F)
    (w w' : WorldState)
    → Advanced answers until told fate fate_after w w' → IsNews p start w
    → IsNews p start w'

-- A network that starts, and in which nothing is changed, settles so soon, whatever is drawn for its frames, and what
-- its systems state of themselves is bounded.
abbrev pub BegunSettles : {F : Type 0} → (Bounds → ℕ → F → Option ℕ → F → Type 0) → Type 0
BegunSettles {F} answers = (n : NetworkState) (fate begun fate_after : F) (until m : ℕ) (told : List Told)
    (w w' : WorldState)
    → IsNetwork n → IsSound (initial n) → Begun answers n fate begun w
    → Advanced answers until told begun fate_after w w'
    → HaveQuietLinks (pace_of n).params w' → BoundsPaths (snapshot_of w') m
    → HasSettledBy (pace_of n) m (capable_from (pace_of n) w' 0) w'
    → Settled w' × IsBoundedWorld w'

-- A network in which a link comes up that leads to no failed system settles by the time of HasSettledBy, and what its
-- systems state of themselves is bounded. That holds where all that is held before is sound, and the network has been
-- left alone for so long that each port at a link in use is capable.
abbrev pub LinkUpSettles : {F : Type 0} → (Bounds → ℕ → F → Option ℕ → F → Type 0) → Type 0
LinkUpSettles {F} answers = (p : SettlingParams) (number port time : ℕ) (fate drawn fate_after : F) (until m : ℕ)
    (told : List Told) (done : Done) (w between w' : WorldState)
    → KeepsAll p w → IsSoundWorld w → w.last_change + capability_span p ≤ time
    → WasDone answers (record { at = time; act = Changing (LinkUp number port) }) fate drawn w between done
    → KeepsAll p between
    → ((at : LinkPlace) → StandsUnanswered at between → IsOtherLink at (port_id number port) w)
    → Advanced answers until told drawn fate_after between w'
    → HaveQuietLinks p.params w' → BoundsPaths (snapshot_of w') m
    → HasSettledBy p m (capable_from p w' time) w'
    → Settled w' × IsBoundedWorld w'

-- from when ports at links in use are capable by what is claimed after every change; those beside failed systems are
-- silent later
abbrev pub SettlesFrom : SettlingParams → ℕ → ℕ → WorldState → Type 0
SettlesFrom p time start w =
    (start ≡ time + capability_span p)
    ⊎ (AllLive w × (start ≡ time + 2 * largest_interval p + 3 * interval_of p.params.pdelay))

-- After every change that takes nothing away, at any time, a network settles by the time of HasSettledBy, where all
-- that was held was sound. What its systems state of themselves is bounded then.
abbrev pub GainSettles : {F : Type 0} → (Bounds → ℕ → F → Option ℕ → F → Type 0) → Type 0
GainSettles {F} answers = (p : SettlingParams) (change : Change) (time start : ℕ) (fate drawn fate_after : F)
    (until m : ℕ)
    (told : List Told) (done : Done) (w between w' : WorldState)
    → KeepsAll p w → IsSoundWorld w → IsGain change (at_time time w) → SetsAnOctet (Changing change)
    → WasDone answers (record { at = time; act = Changing change }) fate drawn w between done
    → KeepsAll p between
    → Advanced answers until told drawn fate_after between w'
    → HaveQuietLinks p.params w' → BoundsPaths (snapshot_of w') m
    → SettlesFrom p time start between → HasSettledBy p m start w'
    → Settled w' × IsBoundedWorld w'

-- A delay after what is held has become wholly clean all that is held and in flight is sound, whatever came before,
-- where all systems live.
abbrev pub RestIsSound : Type 0
RestIsSound = (p : SettlingParams) (m : ℕ) (w : WorldState)
    → KeepsAll p w → AllLive w → BoundsPaths (snapshot_of w) m → IsQuietWith p.params (paths_with m w) w
    → machine_clean_from (settling_network p m w) + delay_in w ≤ w.time
    → IsSoundWorld w

-- beside failed systems too, an announce interval after that
abbrev pub RestIsSoundBesideFailed : Type 0
RestIsSoundBesideFailed = (p : SettlingParams) (m : ℕ) (w : WorldState)
    → KeepsAll p w → BoundsPaths (snapshot_of w) m → IsQuietWith p.params (paths_with m w) w
    → machine_clean_from (settling_network p m w) + largest_interval p ≤ w.time
    → IsSoundWorld w
