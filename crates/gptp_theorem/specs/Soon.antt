-- How soon after a start, or after a gain: the theorem sharper, where it is known what a world came from.
--
-- A *gain* is a change that takes nothing away: a link comes up or gets other bounds, a system recovers, a priority1
-- doesn't get worse (`IsGain`). A world *goes on by itself* up to a time where all that is pending up to then happens,
-- one act after the other, and nothing is changed (`Advanced`). All that it holds is *sound* where each Announce that
-- is held or in flight comes from a live system, and names a root worse than the best of that, or is wholly clean
-- (`IsSoundWorld`). So it is as a network begins, and after any acts and gains; and at rest it is so again.
--
-- By `capable_from` of a time each port at a link is capable that first asks then: one peer delay interval, one
-- exchange over the slowest link of the snapshot, and 1 ns later. By `HasSettledBy` of that, or of any start by which
-- ports are capable, a world has settled: after one announce interval more, and the greatest delay of a link for each
-- system of a path but one; or where something may lapse for want of Sync, after a step of distance for each but one.
use Rattle.std.specs.Prelude.{◌≤◌, ◌+◌, ℕ, List, Option, length}
use Rattle.gptp_graph.specs.PathBound.{BoundsPaths, path_bound}
use Rattle.gptp_links.specs.declared.bounds.Bounds.{Bounds}
use Rattle.gptp_setup.specs.SettlingParams.{SettlingParams}
use Rattle.gptp_scenario.specs.Allowed.{IsFitAct}
use Rattle.gptp_scenario.specs.Network.{IsNetwork, NetworkState, pace_of}
use Rattle.gptp_scenario.specs.SettlingTime.{capability_span}
use Rattle.gptp_scenario.specs.declared.change.Act.TheVariants.{Change as Changing}
use Rattle.gptp_scenario.specs.declared.change.Change.{Change}
use Rattle.gptp_scenario.specs.declared.change.Change.TheVariants.{LinkUp}
use Rattle.gptp_model.specs.Acts.{at as at_time}
use Rattle.gptp_model.specs.Advancing.{Advanced, Told}
use Rattle.gptp_model.specs.Course.{Begun, WasDone}
use Rattle.gptp_model.specs.declared.done.Done.{Done}
use Rattle.gptp_model.specs.Prompt.{DelaysFitIntervals}
use Rattle.gptp_model.specs.World.{WorldState, port_id}
use Rattle.gptp_invariants.specs.ChoiceCalm.{delay_in, sync_paths_of}
use Rattle.gptp_invariants.specs.WorldSettlingInvariant.{KeepsAll}
use Rattle.gptp_invariants.specs.DelayElsewhere.{IsOtherLink}
use Rattle.gptp_invariants.specs.WorldEncodableLaws.{SetsAnOctet}
use Rattle.gptp_invariants.specs.DelayLinkView.{LinkPlace}
use Rattle.gptp_invariants.specs.WorldNewsCourse.{HasSettledBy, SettlesFrom, capable_from}
use Rattle.gptp_invariants.specs.WorldNews.{AllLive}
use Rattle.gptp_invariants.specs.WorldSound.{IsGain, IsSoundWorld}
use Rattle.gptp_invariants.specs.WorldStanding.{snapshot_of}
use Rattle.gptp_invariants.specs.ChoiceTraces.{clean_span}
use Rattle.gptp_invariants.specs.FailedUnanswered.{StandsUnanswered}
use Rattle.gptp_theorem.specs.Headline.{WorldIsCalm, IsSettled}

-- a network that starts, and goes on by itself
abbrev pub StartsSettle : {F : Type 0} → (Bounds → ℕ → F → Option ℕ → F → Type 0) → Type 0
StartsSettle {F} answers = (n : NetworkState) (fate begun fate_after : F) (until m : ℕ) (told : List Told)
    (w w' : WorldState)
    → IsNetwork n → Begun answers n fate begun w → Advanced answers until told begun fate_after w w'
    → WorldIsCalm (pace_of n) w' → BoundsPaths (snapshot_of w') m
    → HasSettledBy (pace_of n) m (capable_from (pace_of n) w' 0) w'
    → IsSettled w'

-- A network in which all that is held is sound, and which has been left alone for L + 5 announce intervals, when a link
-- comes up that leads to no failed system, and which then goes on by itself.
abbrev pub LinksUpSettle : {F : Type 0} → (Bounds → ℕ → F → Option ℕ → F → Type 0) → Type 0
LinksUpSettle {F} answers = (p : SettlingParams) (number port time : ℕ) (fate drawn fate_after : F) (until m : ℕ)
    (told : List Told) (done : Done) (w between w' : WorldState)
    → KeepsAll p w → IsSoundWorld w → w.last_change + capability_span p ≤ time
    → WasDone answers (record { at = time; act = Changing (LinkUp number port) }) fate drawn w between done
    → ((at : LinkPlace) → StandsUnanswered at between → IsOtherLink at (port_id number port) w)
    → Advanced answers until told drawn fate_after between w'
    → WorldIsCalm p w' → BoundsPaths (snapshot_of w') m → HasSettledBy p m (capable_from p w' time) w'
    → IsSettled w'

-- A network in which all that is held is sound, whenever it gains something, and which then goes on by itself: counted
-- from two announce intervals and three of peer delay after the gain, or L + 5 announce intervals beside failed
-- systems.
abbrev pub GainsSettle : {F : Type 0} → (Bounds → ℕ → F → Option ℕ → F → Type 0) → Type 0
GainsSettle {F} answers = (p : SettlingParams) (change : Change) (time start : ℕ) (fate drawn fate_after : F)
    (until m : ℕ)
    (told : List Told) (done : Done) (w between w' : WorldState)
    → KeepsAll p w → IsSoundWorld w → IsGain change (at_time time w)
    → IsFitAct (Changing change) → DelaysFitIntervals w (Changing change) → SetsAnOctet (Changing change)
    → WasDone answers (record { at = time; act = Changing change }) fate drawn w between done
    → Advanced answers until told drawn fate_after between w'
    → WorldIsCalm p w' → BoundsPaths (snapshot_of w') m
    → SettlesFrom p time start between → HasSettledBy p m start w'
    → IsSettled w'

-- ---- what is held is sound

-- all that a world holds is sound as a network begins
abbrev pub StartsAreSound : {F : Type 0} → (Bounds → ℕ → F → Option ℕ → F → Type 0) → Type 0
StartsAreSound {F} answers = (n : NetworkState) (fate begun : F) (w : WorldState)
    → IsNetwork n → Begun answers n fate begun w
    → IsSoundWorld w

-- all that a world holds stays sound while it goes on by itself
abbrev pub SoundGoesOn : {F : Type 0} → (Bounds → ℕ → F → Option ℕ → F → Type 0) → Type 0
SoundGoesOn {F} answers = (p : SettlingParams) (until : ℕ) (told : List Told) (fate fate_after : F) (w w' : WorldState)
    → KeepsAll p w → IsSoundWorld w → Advanced answers until told fate fate_after w w'
    → IsSoundWorld w'

-- all that a world holds stays sound through a gain
abbrev pub GainsAreSound : {F : Type 0} → (Bounds → ℕ → F → Option ℕ → F → Type 0) → Type 0
GainsAreSound {F} answers = (p : SettlingParams) (change : Change) (time : ℕ) (fate fate_after : F) (w w' : WorldState)
    (done : Done)
    → KeepsAll p w → IsSoundWorld w → IsGain change (at_time time w)
    → IsFitAct (Changing change) → DelaysFitIntervals w (Changing change) → SetsAnOctet (Changing change)
    → WasDone answers (record { at = time; act = Changing change }) fate fate_after w w' done
    → IsSoundWorld w'

-- All that is held is sound again, whatever came before, in a calm world in which all systems live. By then 2 announce
-- intervals have passed from its last change, k of them and the greatest delay of a link for each system of a path, and
-- that delay once more.
abbrev pub RestsAreSound : Type 0
RestsAreSound = (p : SettlingParams) (w : WorldState)
    → KeepsAll p w → AllLive w → WorldIsCalm p w
    → w.last_change + clean_span (path_bound (snapshot_of w)) p (sync_paths_of w) (length (snapshot_of w).systems)
    + delay_in w
    ≤ w.time
    → IsSoundWorld w
