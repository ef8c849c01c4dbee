-- Laws on the time that is carried in a settled world.
use Rattle.std.specs.Prelude.{◌≡◌, ◌≢◌, ◌+◌, ◌^◌, ◌<◌, ◌≤◌, ℕ, suc, ℤ, ◌-ℤ◌, true, List, Option, Some, slice_get}
use Rattle.gptp_graph.specs.Best.{IsBest}
use Rattle.gptp_graph.specs.Distance.{IsNear}
use Rattle.gptp_graph.specs.Snapshot.{System}
use Rattle.gptp_scaled.specs.Counts.{AreWithin}
use Rattle.gptp_messages.specs.declared.follow_up.FollowUp.{FollowUp}
use Rattle.gptp_messages.specs.declared.message.Message.TheVariants as messages
use Rattle.gptp_messages.specs.Grammar.{Reads}
use Rattle.gptp_links.specs.declared.bounds.Bounds.{Bounds}
use Rattle.gptp_links.specs.declared.link.Direction.{Direction}
use Rattle.gptp_links.specs.Fate.{Draw}
use Rattle.gptp_setup.specs.declared.setup.Params.{Params}
use Rattle.gptp_setup.specs.SettlingParams.{SettlingParams, largest_interval}
use Rattle.gptp_scenario.specs.declared.change.Act.{Act}
use Rattle.gptp_scenario.specs.declared.change.Act.TheVariants.{Deliver}
use Rattle.gptp_scenario.specs.declared.change.Timed.{Timed}
use Rattle.gptp_system.specs.declared.answer.Answer.TheVariants as answers
use Rattle.gptp_system.specs.State.{clock, local_time}
use Rattle.gptp_system.specs.Takeover.{told_time}
use Rattle.gptp_error_laws.specs.TimeError.{time_error_at}
use Rattle.gptp_model.specs.Acts.{Acts, TellsHearing, at}
use Rattle.gptp_model.specs.Course.{WasDone}
use Rattle.gptp_model.specs.declared.done.Done.{Done}
use Rattle.gptp_model.specs.declared.station.Station.{Station}
use Rattle.gptp_model.specs.World.{WorldState, port_id}
use Rattle.gptp_sync_machine.specs.Follower.{from}
use Rattle.gptp_invariants.specs.ChoiceCalm.{HaveQuietLinks}
use Rattle.gptp_invariants.specs.WorldSettlingInvariant.{KeepsAll}
use Rattle.gptp_invariants.specs.SyncFollowers.{HasWay, IsFollower, follower_clock, follower_setting, follower_state}
use Rattle.gptp_invariants.specs.WorldKnown.{IsKnown}
use Rattle.gptp_invariants.specs.DelayLinkView.{LinkPlace}
use Rattle.gptp_invariants.specs.DelayMeasuredLinks.{HaveMeasuredLinks}
use Rattle.gptp_invariants.specs.ChoiceSeenLaws.{IsNoChange}
use Rattle.gptp_invariants.specs.ChoiceSettled.{Settled}
use Rattle.gptp_invariants.specs.WorldStanding.{snapshot_of}
use Rattle.gptp_invariants.specs.SyncTimed.{AllMeasureRight, ArriveBy, CarriesTime, IsSettledFrom}

-- ---- the claim

-- it begins as the time comes from which the network is settled
abbrev pub TimeBegins : Type 0
TimeBegins = (p : SettlingParams) (settled longest : ℕ) (w : WorldState) (time : ℕ)
    → w.time < settled → IsKnown p w → ArriveBy settled w → IsSettledFrom p settled longest (at time w)
    → CarriesTime p.params settled longest (at time w)

-- every act that changes nothing of the network keeps it
abbrev pub ActsCarryTime : Type 0
ActsCarryTime = (p : SettlingParams) (settled longest : ℕ) (act : Act) (w : WorldState) (draws : List Draw)
    (done : Done)
    (w' : WorldState)
    → IsNoChange act → Acts act w draws done w'
    → IsSettledFrom p settled longest w → IsSettledFrom p settled longest w' → AllMeasureRight p.params w
    → CarriesTime p.params settled longest w
    → CarriesTime p.params settled longest w'

-- the claim on the time that is carried in a settled world is kept as time passes
abbrev pub TimeCarriesTime : Type 0
TimeCarriesTime = (p : SettlingParams) (settled longest : ℕ) (w : WorldState) (time : ℕ)
    → w.time ≤ time → CarriesTime p.params settled longest w
    → CarriesTime p.params settled longest (at time w)

-- the claim on the time that is carried in a settled world is kept by each act that changes nothing of the network,
-- where the network is settled at the time of the act and after it
abbrev pub DoneCarriesTime : {F : Type 0} → (Bounds → ℕ → F → Option ℕ → F → Type 0) → Type 0
DoneCarriesTime {F} answers = (p : SettlingParams) (settled longest : ℕ) (timed : Timed) (fate fate_after : F)
    (w w' : WorldState) (done : Done)
    → IsNoChange timed.act → WasDone answers timed fate fate_after w w' done → IsKnown p w → ArriveBy settled w
    → IsSettledFrom p settled longest (at timed.at w) → AllMeasureRight p.params (at timed.at w)
    → IsSettledFrom p settled longest w'
    → (settled ≤ w.time → CarriesTime p.params settled longest w)
    → CarriesTime p.params settled longest w'

-- ---- offsets

-- the station of the root of a system
pub record IsRootOf (w : WorldState) (number : ℕ) (root : Station) : Type 0 where
  pub place : ℕ
  pub here : slice_get w.stations place ≡ Some root
  pub best : System
  pub is_best : IsBest (snapshot_of w) number best
  pub named : clock root.system ≡ best.clock

-- octets are a Follow_Up
abbrev pub AreFollowUp : List ℕ → Type 0
AreFollowUp octets = (m : FollowUp) × Reads octets (messages.FollowUp m)

-- Where a Follow_Up is used by a system that follows, from when on what comes left the root in the settled network: the
-- offset that it leaves, if it leaves one, is within the time error of the way of the system of what its clock shows
-- then less what the root tells.
abbrev pub OffsetsAreExact : Type 0
OffsetsAreExact = (p : SettlingParams) (settled longest link : ℕ) (direction : Direction) (w : WorldState)
    (draws : List Draw)
    (done : Done) (w' : WorldState) (place : LinkPlace) (f : IsFollower place w) (steps port : ℕ) (octets : List ℕ)
    (root after : Station) (offset : ℤ)
    → (h : HasWay p.params place w f steps)
    → Acts (Deliver link direction) w draws done w'
    → TellsHearing (port_id (follower_clock place w f) port) (Some answers.Used) octets done → AreFollowUp octets
    → IsSettledFrom p settled longest w → AllMeasureRight p.params w → CarriesTime p.params settled longest w
    → from (follower_setting p.params settled longest place w f steps h) ≤ w.time
    → IsRootOf w (follower_clock place w f) root
    → slice_get w'.stations place.answering ≡ Some after → after.system.offset ≡ Some offset
    → AreWithin (time_error_at h.way (suc steps)) offset
    (local_time (follower_state place w f) w.time -ℤ told_time root.system w.time)

-- ---- settled worlds

-- the world of a network of which all is claimed, whose links in use are quiet and whose systems have settled, is one
-- that is settled from this time on; no delay of it is above the threshold
abbrev pub ClaimedIsSettledFrom : Type 0
ClaimedIsSettledFrom = (p : SettlingParams) (settled : ℕ) (w : WorldState)
    → KeepsAll p w → HaveQuietLinks p.params w → Settled w
    → w.last_change + largest_interval p ≤ settled → settled ≤ w.time → w.time ≤ 10 ^ 18
    → IsSettledFrom p settled p.params.threshold w

-- each near live system that isn't the best of its component follows, and has a way as long as its distance is
pub record AllNearFollow (p : Params) (w : WorldState) (number : ℕ) : Type 0 where
  pub place : LinkPlace
  pub follower : IsFollower place w
  pub is : follower_clock place w follower ≡ number
  pub steps : ℕ
  pub way : HasWay p place w follower steps

abbrev pub OthersFollow : Type 0
OthersFollow = (p : SettlingParams) (settled longest : ℕ) (w : WorldState) (place : ℕ) (station : Station)
    (best : System)
    → IsSettledFrom p settled longest w → slice_get w.stations place ≡ Some station → station.live ≡ true
    → IsNear (snapshot_of w) (clock station.system) → IsBest (snapshot_of w) (clock station.system) best
    → best.clock ≢ clock station.system
    → AllNearFollow p.params w (clock station.system)

-- what was measured of the links that are followed is right where ports have measured the links of the snapshot
abbrev pub MeasuredIsRight : Type 0
MeasuredIsRight = (p : SettlingParams) (settled longest : ℕ) (w : WorldState)
    → IsSettledFrom p settled longest w → HaveMeasuredLinks w
    → AllMeasureRight p.params w
