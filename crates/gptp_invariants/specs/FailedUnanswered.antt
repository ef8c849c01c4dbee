-- A world as the machine of gptp_pdelay_machine sees a port of a live station on a link whose other end has failed.
use Rattle.std.specs.Prelude.{◌≡◌, ◌⊎◌, ◌<◌, ◌≤◌, ◌+◌, ℕ, Bool, true, false, List, Some, None, slice_get}
use Rattle.gptp_lists.specs.Members.{In}
use Rattle.gptp_links.specs.Queue.{Frame}
use Rattle.gptp_pdelay.specs.Peer.{PeerState, is_capable}
use Rattle.gptp_pdelay.specs.declared.progress.Progress.{Progress}
use Rattle.gptp_pdelay.specs.declared.progress.Progress.TheVariants.{Closed, Sent, Answered}
use Rattle.gptp_setup.specs.Intervals.{interval_of}
use Rattle.gptp_setup.specs.SettlingParams.{SettlingParams, largest_interval}
use Rattle.gptp_system.specs.Measures.{measure_at}
use Rattle.gptp_system.specs.State.{clock}
use Rattle.gptp_model.specs.declared.station.Station.{Station}
use Rattle.gptp_model.specs.World.{Channel, WorldState, world_queue, receiver, sender}
use Rattle.gptp_pdelay_machine.specs.Asker.{Asker}
use Rattle.gptp_pdelay_machine.specs.Messages.{Reply}
use Rattle.gptp_pdelay_machine.specs.Setting.{Setting}
use Rattle.gptp_pdelay_machine.specs.Silence.{InvUnanswered, Unanswered}
use Rattle.gptp_invariants.specs.DelayMeasured.{StationIsLiveAt}
use Rattle.gptp_invariants.specs.DelayLinkView.{IsEndAmong, LinkPlace, asker_view, other_direction, reads_as_reply, setting_view}

-- a response is recorded
abbrev pub is_answered : Progress → Bool
is_answered Closed = false
is_answered (Sent request) = false
is_answered (Answered request response) = true

-- no exchange was full, and no response is recorded
abbrev pub IsUnmeasured : PeerState → Type 0
IsUnmeasured p = (p.last ≡ None) × (is_answered p.progress ≡ false)

-- the station at a place has failed, and has this clock
pub record IsFailedAmong (place number : ℕ) (stations : List Station) : Type 0 where
  pub station : Station
  pub here : slice_get stations place ≡ Some station
  pub failed : station.live ≡ false
  pub named : clock station.system ≡ number

-- Where all stands: a link that is up, a live station at its one end, and one that has failed at its other.
pub record StandsUnanswered (at : LinkPlace) (w : WorldState) : Type 0 where
  pub channel : Channel
  pub here : slice_get w.net.channels at.link ≡ Some channel
  pub up : channel.up ≡ true
  pub asking : StationIsLiveAt at.asking (sender at.direction channel).clock w
  pub answering : IsFailedAmong at.answering (receiver at.direction channel).clock w.stations

-- a link that is up stands at this place, between a port of a live station, which measures, and a station that has
-- failed
pub record IsUnansweredAmong (at : LinkPlace) (channels : List Channel) (stations : List Station) : Type 0 where
  pub channel : Channel
  pub here : slice_get channels at.link ≡ Some channel
  pub up : channel.up ≡ true
  pub asking : IsEndAmong at.asking (sender at.direction channel) stations
  pub answering : IsFailedAmong at.answering (receiver at.direction channel).clock stations

abbrev pub IsUnansweredAt : LinkPlace → WorldState → Type 0
IsUnansweredAt at w = IsUnansweredAmong at w.net.channels w.stations

-- what the machine takes as settled there
abbrev pub silent_setting : (at : LinkPlace) (w : WorldState) → IsUnansweredAt at w → Setting
silent_setting at w l = setting_view at.direction l.channel l.asking.station.setup l.answering.station.setup

-- what the machine sees of a port whose link leads to a failed station: the time, and the port that asks
abbrev pub silent_view : (at : LinkPlace) (w : WorldState) → IsUnansweredAt at w → Unanswered
silent_view at w l = record {
  time = w.time;
  asker = asker_view (interval_of l.asking.station.setup.params.pdelay) (measure_at l.asking.state);
}

-- what is in flight from the failed end is due by this time
abbrev pub IsOldBy : ℕ → (at : LinkPlace) (w : WorldState) → IsUnansweredAt at w → Type 0
IsOldBy gone at w l = (f : Frame) → In f (world_queue (other_direction at.direction) l.channel) → f.due ≤ gone

-- the port stands there, old frames are gone by a time, and the invariant of the machine holds
pub record IsSilent (gone : ℕ) (at : LinkPlace) (w : WorldState) : Type 0 where
  pub link : IsUnansweredAt at w
  pub old : IsOldBy gone at w link
  pub inv : InvUnanswered (silent_setting at w link) gone (silent_view at w link)

-- A reply to a port whose last request is known comes by this time, or before the next request goes where that one went
-- by then.
abbrev pub IsLastReply : Setting → ℕ → Asker → ℕ → Type 0
IsLastReply k sent a due = (due ≤ sent) ⊎ ((a.asked ≤ sent) × (due < a.asked + k.period))

-- The last request of the port there that is answered went by this time. Replies that are in flight are to such a
-- request, and those that go later are lost.
pub record IsLastAnswered (sent : ℕ) (at : LinkPlace) (w : WorldState) : Type 0 where
  pub link : IsUnansweredAt at w
  pub replies : (f : Frame) → In f (world_queue (other_direction at.direction) link.channel) → (r : Reply)
      → reads_as_reply f.octets r
      → IsLastReply (silent_setting at w link) sent (silent_view at w link).asker f.due
  pub inv : InvUnanswered (silent_setting at w link) sent (silent_view at w link)

-- The port there isn't capable, and stays so: no reply to it is in flight.
pub record IsOff (at : LinkPlace) (w : WorldState) : Type 0 where
  pub link : IsUnansweredAt at w
  pub mute : (f : Frame) → In f (world_queue (other_direction at.direction) link.channel) → (r : Reply)
      → reads_as_reply f.octets r → ⊥
  pub off : is_capable link.asking.state.peer ≡ false

-- wherever all stands so, old frames are gone the largest announce interval after the last change
abbrev pub FailedNeighboursAreSilent : SettlingParams → WorldState → Type 0
FailedNeighboursAreSilent p w = (at : LinkPlace) → StandsUnanswered at w
    → IsSilent (w.last_change + largest_interval p) at w

-- the link stands as it did, no frame comes from the failed end, and what is seen becomes what this allows
pub record IsSeenUnanswered (So : Setting → Unanswered → Unanswered → Type 0) (gone : ℕ) (at : LinkPlace)
    (w w' : WorldState)
    (l : IsUnansweredAt at w) : Type 0 where
  pub after : IsUnansweredAt at w'
  pub settled : silent_setting at w' after ≡ silent_setting at w l
  pub old : IsOldBy gone at w' after
  pub so : So (silent_setting at w l) (silent_view at w l) (silent_view at w' after)
