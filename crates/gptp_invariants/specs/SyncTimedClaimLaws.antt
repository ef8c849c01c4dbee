-- Laws on the claim on carried time.
use Rattle.std.specs.Prelude.{◌≡◌, ◌≤◌, ◌^◌, ℕ, suc, ℤ, ◌-ℤ◌, List, Option, Some, slice_get}
use Rattle.gptp_scaled.specs.Counts.{AreWithin}
use Rattle.gptp_links.specs.declared.bounds.Bounds.{Bounds}
use Rattle.gptp_links.specs.declared.link.Direction.{Direction}
use Rattle.gptp_links.specs.Fate.{Draw}
use Rattle.gptp_setup.specs.SettlingParams.{SettlingParams}
use Rattle.gptp_scenario.specs.Allowed.{IsFitAct}
use Rattle.gptp_scenario.specs.declared.change.Act.TheVariants.{Deliver}
use Rattle.gptp_scenario.specs.declared.change.Timed.{Timed}
use Rattle.gptp_scenario.specs.Network.{IsNetwork, NetworkState, pace_of}
use Rattle.gptp_system.specs.declared.answer.Answer.TheVariants as answers
use Rattle.gptp_system.specs.State.{local_time}
use Rattle.gptp_system.specs.Takeover.{told_time}
use Rattle.gptp_error_laws.specs.TimeError.{time_error_at}
use Rattle.gptp_model.specs.Acts.{Acts, TellsHearing, at}
use Rattle.gptp_model.specs.Course.{Begun, WasDone}
use Rattle.gptp_model.specs.declared.done.Done.{Done}
use Rattle.gptp_model.specs.declared.station.Station.{Station}
use Rattle.gptp_model.specs.Initial.{initial}
use Rattle.gptp_model.specs.Pending.{NothingBefore}
use Rattle.gptp_model.specs.Prompt.{DelaysFitIntervals}
use Rattle.gptp_model.specs.Sound.{IsSound}
use Rattle.gptp_model.specs.World.{WorldState, port_id}
use Rattle.gptp_sync_machine.specs.Follower.{from}
use Rattle.gptp_invariants.specs.WorldSettlingInvariant.{KeepsAll}
use Rattle.gptp_invariants.specs.SyncExact.{IsHeardExact}
use Rattle.gptp_invariants.specs.SyncFollowers.{HasWay, IsFollower, follower_clock, follower_setting, follower_state}
use Rattle.gptp_invariants.specs.WorldEncodableLaws.{SetsAnOctet}
use Rattle.gptp_invariants.specs.DelayLinkView.{LinkPlace}
use Rattle.gptp_invariants.specs.SyncTimedClaim.{WorldInvariant, CarriesWhereCalm, IsCalmBy}
use Rattle.gptp_invariants.specs.SyncTimedLaws.{AreFollowUp, IsRootOf}

-- ---- every world

-- it is so of the world of a network as it begins
abbrev pub CarriesBegins : {F : Type 0} → (Bounds → ℕ → F → Option ℕ → F → Type 0) → Type 0
CarriesBegins {F} answers = (n : NetworkState) (fate fate_after : F) (w : WorldState)
    → IsNetwork n → IsSound (initial n) → Begun answers n fate fate_after w
    → CarriesWhereCalm (pace_of n) w

-- the claim that time is carried right wherever a world has been calm for long enough is kept from act to act, a change
-- included
abbrev pub CarriesKept : {F : Type 0} → (Bounds → ℕ → F → Option ℕ → F → Type 0) → Type 0
CarriesKept {F} answers = (p : SettlingParams) (timed : Timed) (fate fate_after : F) (w w' : WorldState) (done : Done)
    → IsFitAct timed.act → DelaysFitIntervals w timed.act → SetsAnOctet timed.act
    → WasDone answers timed fate fate_after w w' done → KeepsAll p w → CarriesWhereCalm p w
    → CarriesWhereCalm p w'

-- the claim that time is carried right wherever a world has been calm for long enough is kept as time passes, up to
-- when something is due
abbrev pub CarriesLater : Type 0
CarriesLater = (p : SettlingParams) (w : WorldState) (time : ℕ)
    → w.time ≤ time → NothingBefore time w.net.pending → KeepsAll p w → CarriesWhereCalm p w
    → CarriesWhereCalm p (at time w)

-- all that is claimed of every world holds of the world of a network as it begins
abbrev pub AllBegins : {F : Type 0} → (Bounds → ℕ → F → Option ℕ → F → Type 0) → Type 0
AllBegins {F} answers = (n : NetworkState) (fate fate_after : F) (w : WorldState)
    → IsNetwork n → IsSound (initial n) → Begun answers n fate fate_after w
    → WorldInvariant w

-- all that is claimed of every world is kept from act to act, a change included
abbrev pub AllKept : {F : Type 0} → (Bounds → ℕ → F → Option ℕ → F → Type 0) → Type 0
AllKept {F} answers = (timed : Timed) (fate fate_after : F) (w w' : WorldState) (done : Done)
    → IsFitAct timed.act → DelaysFitIntervals w timed.act → SetsAnOctet timed.act
    → WasDone answers timed fate fate_after w w' done → WorldInvariant w
    → WorldInvariant w'

-- all that is claimed of every world is kept as time passes, up to when something is due
abbrev pub AllLater : Type 0
AllLater = (w : WorldState) (time : ℕ)
    → w.time ≤ time → NothingBefore time w.net.pending → WorldInvariant w
    → WorldInvariant (at time w)

-- ---- offsets

-- Where a system that follows uses a Follow_Up, the offset that this leaves, if it leaves one, is what the clock of the
-- system shows less what its root tells, within the time error of the system's way. That holds once a calm network has
-- settled and the time has passed that frames take down that way.
abbrev pub CalmOffsetsAreExact : Type 0
CalmOffsetsAreExact = (p : SettlingParams) (m settled link : ℕ) (direction : Direction) (w : WorldState)
    (draws : List Draw)
    (done : Done) (w' : WorldState) (place : LinkPlace) (f : IsFollower place w) (steps port : ℕ) (octets : List ℕ)
    (root after : Station) (offset : ℤ)
    → (h : HasWay p.params place w f steps)
    → Acts (Deliver link direction) w draws done w'
    → TellsHearing (port_id (follower_clock place w f) port) (Some answers.Used) octets done → AreFollowUp octets
    → KeepsAll p w → CarriesWhereCalm p w → IsCalmBy p m settled w → w.time ≤ 10 ^ 18
    → from (follower_setting p.params settled p.params.threshold place w f steps h) ≤ w.time
    → IsRootOf w (follower_clock place w f) root
    → slice_get w'.stations place.answering ≡ Some after → after.system.offset ≡ Some offset
    → AreWithin (time_error_at h.way (suc steps)) offset
    (local_time (follower_state place w f) w.time -ℤ told_time root.system w.time)

-- In words that name no place: what an act delivers leaves exact offsets, in every world of a network.
abbrev pub ReceiptsAreExact : {F : Type 0} → (Bounds → ℕ → F → Option ℕ → F → Type 0) → Type 0
ReceiptsAreExact {F} answers = (timed : Timed) (fate fate_after : F) (w w' : WorldState) (done : Done)
    → WorldInvariant w → WasDone answers timed fate fate_after w w' done → timed.at ≤ 10 ^ 18
    → IsHeardExact w timed.at w' done
