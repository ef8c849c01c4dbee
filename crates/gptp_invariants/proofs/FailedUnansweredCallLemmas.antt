-- What a call, and a frame that leaves its lane, make of the link and of the port that asks.
use Rattle.std.proofs.Common.{◌≡◌, ◌≢◌, ℕ, true, List, Some, slice_get, refl, sym, ap, ◌∙◌}
use Rattle.gptp_lists.specs.Members.{In}
use Rattle.gptp_vector.specs.declared.port.PortId.{PortId}
use Rattle.gptp_links.specs.Fate.{Draw}
use Rattle.gptp_links.specs.Queue.{Frame}
use Rattle.gptp_system.specs.declared.answer.Answer.{Answer}
use Rattle.gptp_setup.specs.declared.setup.Setup.{Setup}
use Rattle.gptp_system.specs.Input.{Input}
use Rattle.gptp_setup.specs.Intervals.{interval_of}
use Rattle.gptp_system.specs.Measures.{measure_at}
use Rattle.gptp_system.specs.State.{clock}
use Rattle.gptp_model.specs.declared.station.Station.{Station}
use Rattle.gptp_model.specs.Act.{Calls, in_state}
use Rattle.gptp_model.specs.Sound.{HaveOwnClocks}
use Rattle.gptp_model.specs.World.{WorldState, receiver, sender, world_queue}
use Rattle.gptp_lists.proofs.MappedLemmas.{same_there}
use Rattle.gptp_lists.proofs.PlaceLemmas.{get-set_other}
use Rattle.gptp_model.proofs.StayLemmas.{sender_same}
use Rattle.gptp_invariants.specs.DelayLinkView.{IsEndOf, LinkPlace, asker_view, link_identity, other_direction, setup_stamps}
use Rattle.gptp_invariants.proofs.DelayEndLemmas.{EndStep, HearsWhatFits, PartStep, call_end, renamed}
use Rattle.gptp_invariants.proofs.DelayLinkLemmas.{receiver_same, sender_opposite}
use Rattle.gptp_invariants.specs.FailedUnanswered.{IsFailedAmong, IsOldBy, IsUnansweredAt, silent_setting, silent_view}
use Rattle.gptp_invariants.proofs.FailedUnansweredLaneLemmas.{ShrinksAt, calls_shrink}

-- the lane from the failed end only gets less
abbrev pub LaneShrinks : (at : LinkPlace) (w w' : WorldState) → IsUnansweredAt at w → Type 0
LaneShrinks at w w' l = ShrinksAt at.link (other_direction at.direction) l.channel w'.net.channels

-- the link with another channel, and the two ends as they are then
module _ (at : LinkPlace) (w w' : WorldState) (l : IsUnansweredAt at w) (lane : LaneShrinks at w w' l)
    (asking : IsEndOf at.asking (sender at.direction l.channel) w')
    (answering : IsFailedAmong at.answering (receiver at.direction l.channel).clock w'.stations) where
  pub same_sender : sender at.direction lane.new ≡ sender at.direction l.channel
  same_sender = sender_same at.direction l.channel lane.new lane.shrinks.a lane.shrinks.b

  pub same_receiver : receiver at.direction lane.new ≡ receiver at.direction l.channel
  same_receiver = receiver_same at.direction l.channel lane.new lane.shrinks.a lane.shrinks.b

  abbrev pub relinked : IsUnansweredAt at w'
  relinked = record {
    channel = lane.new;
    here = lane.here;
    up = lane.shrinks.up ∙ l.up;
    asking = renamed at.asking (sender at.direction l.channel) (sender at.direction lane.new) w' (sym same_sender)
        asking;
    answering = record {
      station = answering.station;
      here = answering.here;
      failed = answering.failed;
      named = answering.named ∙ ap (λ (p : PortId). p.clock) (sym same_receiver);
    };
  }

  pub relinked_settled : asking.station.setup ≡ l.asking.station.setup
      → answering.station.setup ≡ l.answering.station.setup
      → silent_setting at w' relinked ≡ silent_setting at w l
  relinked_settled asker answerer = λ i. record {
    asking = link_identity (same_sender i);
    answering = link_identity (same_receiver i);
    most = (lane.shrinks.bounds i).max;
    turnaround = (answerer i).params.turnaround;
    period = interval_of (asker i).params.pdelay;
    allowed = (asker i).params.lost;
    window = (asker i).params.window;
    asking_clock = setup_stamps (asker i);
    answering_clock = setup_stamps (answerer i);
  }

-- a failed station isn't at the place of a live one
pub failed_apart : (place other number : ℕ) (w : WorldState) (station : Station)
    → slice_get w.stations place ≡ Some station → station.live ≡ true → (e : IsFailedAmong other number w.stations)
    → other ≢ place
failed_apart place other number w station here live e same =
    let one : station ≡ e.station =
    same_there w.stations place station e.station here (ap (slice_get w.stations) (sym same) ∙ e.here) in
    let both = sym live ∙ ap (λ (x : Station). x.live) one ∙ e.failed in
    absurd cc

-- the link after a call, and what the call made of the port that asks
pub record CallStep (place : ℕ) (input : Input) (gone : ℕ) (at : LinkPlace) (w w' : WorldState)
    (l : IsUnansweredAt at w) : Type 0 where
  pub after : IsUnansweredAt at w'
  pub settled : silent_setting at w' after ≡ silent_setting at w l
  pub old : IsOldBy gone at w' after
  pub fewer : (f : Frame) → In f (world_queue (other_direction at.direction) after.channel)
      → In f (world_queue (other_direction at.direction) l.channel)
  pub time : w'.time ≡ w.time
  pub setup : after.asking.station.setup ≡ l.asking.station.setup
  pub part : PartStep place input w.time at.asking l.asking.station.system (sender at.direction l.channel).port
      (measure_at l.asking.state) (measure_at after.asking.state)

module _ (gone : ℕ) (at : LinkPlace) (place : ℕ) (input : Input) (w : WorldState) (draws : List Draw) (answer : Answer)
    (w' : WorldState) (k : Calls place input w draws answer w') (clocks : HaveOwnClocks w) (l : IsUnansweredAt at w)
    (old : IsOldBy gone at w l)
    (given : at.asking ≡ place → HearsWhatFits (sender at.direction l.channel).port input) where
  apart : at.answering ≢ place
  apart = failed_apart place at.answering (receiver at.direction l.channel).clock w k.station k.here k.live l.answering

  other_clock : (sender (other_direction at.direction) l.channel).clock ≢ clock k.station.system
  other_clock e =
      apart (clocks at.answering place l.answering.station k.station l.answering.here k.here
      (l.answering.named ∙ ap (λ (p : PortId). p.clock) (sym (sender_opposite at.direction l.channel)) ∙ e))

  lane : LaneShrinks at w w' l
  lane =
      calls_shrink at.link (other_direction at.direction) place input w draws answer w' k l.channel l.here other_clock

  end : EndStep place input w w' at.asking (sender at.direction l.channel) l.asking
  end = call_end place input w draws answer w' k at.asking (sender at.direction l.channel) l.asking given

  abbrev answering : IsFailedAmong at.answering (receiver at.direction l.channel).clock w'.stations
  answering = record {
    station = l.answering.station;
    here = ap (λ (v : WorldState). slice_get v.stations at.answering) k.is
        ∙ get-set_other w.stations place at.answering (in_state k.after k.station) apart ∙ l.answering.here;
    failed = l.answering.failed;
    named = l.answering.named;
  }

  pub call_seen : CallStep place input gone at w w' l
  call_seen = record {
    after = relinked at w w' l lane end.after answering;
    settled = relinked_settled at w w' l lane end.after answering end.setup refl;
    old = λ f member. old f (lane.shrinks.fewer f member);
    fewer = lane.shrinks.fewer;
    time = ap (λ (v : WorldState). v.time) k.is;
    setup = end.setup;
    part = end.part;
  }

-- what is seen after a call
module _ {place : ℕ} {input : Input} {gone : ℕ} {at : LinkPlace} {w w' : WorldState} {l : IsUnansweredAt at w}
    (step : CallStep place input gone at w w' l) where
  pub asker_is : (silent_view at w' step.after).asker
      ≡ asker_view (interval_of l.asking.station.setup.params.pdelay) (measure_at step.after.asking.state)
  asker_is = ap (λ (x : Setup). asker_view (interval_of x.params.pdelay) (measure_at step.after.asking.state))
      step.setup

  -- where the port measures on as it did nothing is seen
  pub view_stays :
      asker_view (interval_of l.asking.station.setup.params.pdelay) (measure_at step.after.asking.state)
      ≡ asker_view (interval_of l.asking.station.setup.params.pdelay) (measure_at l.asking.state)
      → silent_view at w' step.after ≡ silent_view at w l
  view_stays same = λ i. record { time = step.time i; asker = (asker_is ∙ same) i }
