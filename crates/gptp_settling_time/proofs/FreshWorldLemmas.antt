-- A failed system starts anew, and none of its ports has come up yet: the world then, and its ports beside failed
-- systems.
use Rattle.std.proofs.Common.{◌≡◌, ◌≢◌, ◌<◌, ◌≤◌, ℕ, zero, suc, true, false, Some, None, slice_get, refl, sym, ap, subst, ◌∙◌, inl, inr, arith}
use Rattle.std.proofs.lemmas.Option.{none-some}
use Rattle.gptp_lists.specs.Members.{In}
use Rattle.gptp_lists.proofs.MappedLemmas.{same_there}
use Rattle.gptp_lists.proofs.PlaceLemmas.{get-set_all, get-set_other, get-set_same}
use Rattle.gptp_vector.specs.declared.port.PortId.{PortId}
use Rattle.gptp_roles.specs.Selection.{clock_of}
use Rattle.gptp_links.specs.declared.link.Direction.{Direction}
use Rattle.gptp_links.specs.Queue.{Frame}
use Rattle.gptp_setup.specs.Intervals.{AreParams, interval_of}
use Rattle.gptp_setup.specs.SettlingParams.{SettlingParams}
use Rattle.gptp_system.specs.declared.port.Port.{Port}
use Rattle.gptp_system.specs.Start.{started}
use Rattle.gptp_system.specs.State.{SystemState, number as port_number}
use Rattle.gptp_system.proofs.StartLemmas.{new_port_at}
use Rattle.gptp_model.specs.declared.station.Station.{Station}
use Rattle.gptp_model.specs.Act.{all_timers}
use Rattle.gptp_model.specs.Changing.{fresh, with_station}
use Rattle.gptp_model.specs.World.{WorldState, receiver, sender, world_queue}
use Rattle.gptp_model.proofs.StayLemmas.{Stays, refreshed_stays, stays_apart, stays_clocks, stays_ports, stays_setups}
use Rattle.gptp_invariants.specs.ChoiceSettlesAsMachine.{IsWorld}
use Rattle.gptp_invariants.specs.DelayLinkView.{IsEndOf, LinkPlace, asked_at, other_direction}
use Rattle.gptp_invariants.specs.DelayMeasured.{IsStationMeasured, LinkIsMeasured, StationIsLiveAt}
use Rattle.gptp_invariants.specs.FailedUnanswered.{IsFailedAmong, IsOff, IsUnansweredAt, IsUnmeasured, StandsUnanswered}
use Rattle.gptp_invariants.specs.WorldNews.{AreSilentBy, IsSilentBy}
use Rattle.gptp_invariants.proofs.DelayCapableKeptLemmas.{HaveParams, known_params}
use Rattle.gptp_invariants.proofs.DelayLinkKeptLemmas.{started_measured}
use Rattle.gptp_invariants.proofs.DelayLinkLemmas.{IsOrderly, sound_orderly}
use Rattle.gptp_invariants.proofs.DelayLinkStandLemmas.{end_is}
use Rattle.gptp_invariants.proofs.UnmeasuredLemmas.{unmeasured_off}
use Rattle.gptp_settling_time.proofs.AskedInTimeLemmas.{AreAskedInTime, IsAskedInTime}
use Rattle.gptp_settling_time.proofs.AsksSoonLemmas.{due_now}
use Rattle.gptp_settling_time.proofs.BetweenFailedLemmas.{AreGoneBetween, StandsFailed}

-- A port of a system as it starts answers nothing, hasn't asked, and has measured nothing.
pub record IsFreshPort (q : Port) : Type 0 where
  pub respond : q.respond ≡ None
  pub pdelay : q.pdelay ≡ None
  pub unmeasured : IsUnmeasured q.peer

pub fresh_port : (place now : ℕ) (port : PortId) (station : Station) (w : WorldState) (e : IsEndOf place port w)
    → e.station.system ≡ started station.setup now → IsFreshPort e.state
fresh_port place now port station w e is = by port.port e.there
  where
    by : (i : ℕ) → port_number e.station.system.ports i ≡ Some e.state → IsFreshPort e.state
    by zero there = absurd (none-some e.state there)
    by (suc i) there =
        let set = station.setup in
        let (log, found, port_is) = new_port_at (clock_of set.identity) set.params set.intervals.items i e.state
        (subst (λ (s : SystemState). slice_get s.ports i ≡ Some e.state) is there) in
        subst IsFreshPort (sym port_is) (record { respond = refl; pdelay = refl; unmeasured = (refl, refl) })

-- a failed system starts anew, before its ports come up
abbrev pub fresh_world : ℕ → Station → WorldState → WorldState
fresh_world place old w =
    let new : Station = fresh w.time old in
    record (with_station place new (record w { last_change = w.time })) { net = all_timers place new w.net }

module _ (p : SettlingParams) (w : WorldState) (is : IsWorld p w) (measured : LinkIsMeasured w) (place : ℕ)
    (old : Station) (there : slice_get w.stations place ≡ Some old) where
  abbrev now : WorldState
  now = record w { last_change = w.time }

  abbrev new : Station
  new = fresh w.time old

  abbrev begun : WorldState
  begun = fresh_world place old w

  pub fresh_stays : Stays now begun
  fresh_stays = refreshed_stays place old now there is.sound.wired.setups

  pub fresh_orderly : IsOrderly begun
  fresh_orderly =
      let before = sound_orderly w is.sound in
      record {
        setups = stays_setups now begun fresh_stays;
        clocks = stays_clocks now begun fresh_stays is.sound.wired.clocks;
        apart = stays_apart now begun fresh_stays is.sound.wired.apart;
        params = get-set_all (λ (x : Station). AreParams x.system.params) w.stations place old new there
            (subst AreParams (measured.stations place old there).set_up.params (before.params place old there))
            before.params;
      }

  pub fresh_measured : LinkIsMeasured begun
  fresh_measured = record {
    stations = get-set_all (IsStationMeasured w.time) w.stations place old new there
        (started_measured old.setup w.time true) measured.stations;
    frames = measured.frames;
  }

  pub fresh_params : HaveParams p begun
  fresh_params =
      let before = known_params p w is.known.set in
      get-set_all (λ (x : Station). x.setup.params ≡ p.params) w.stations place old new there
      (before place old there) before

  here_new : slice_get begun.stations place ≡ Some new
  here_new = get-set_same w.stations place old new there

  -- a system that stands at its place then is it, and one at another place is as it was
  pub is_new : (here : ℕ) (x : Station) → here ≡ place → slice_get begun.stations here ≡ Some x → x ≡ new
  is_new here x same at =
      same_there begun.stations place x new (ap (slice_get begun.stations) (sym same) ∙ at) here_new

  abbrev pub lived : (here clock_is : ℕ) → here ≢ place → StationIsLiveAt here clock_is begun
      → StationIsLiveAt here clock_is w
  lived here clock_is apart x = record {
    station = x.station;
    here = sym (get-set_other w.stations place here new apart) ∙ x.here;
    live = x.live;
    named = x.named;
  }

  -- what has failed then is another system, which had failed
  failed_apart : (here clock_is : ℕ) → IsFailedAmong here clock_is begun.stations → here ≢ place
  failed_apart here clock_is x same =
      let one : x.station ≡ new = is_new here x.station same x.here in
      let off : false ≡ new.live = sym x.failed ∙ ap (λ (y : Station). y.live) one in
      absurd cc

  failed_before : (here clock_is : ℕ) → IsFailedAmong here clock_is begun.stations
      → IsFailedAmong here clock_is w.stations
  failed_before here clock_is x = record {
    station = x.station;
    here = sym (get-set_other w.stations place here new (failed_apart here clock_is x)) ∙ x.here;
    failed = x.failed;
    named = x.named;
  }

  pub fresh_gone : (gone : ℕ) → AreGoneBetween gone w → AreGoneBetween gone begun
  fresh_gone gone all at s =
      all at (record {
        channel = s.channel;
        here = s.here;
        up = s.up;
        asking = failed_before at.asking (sender at.direction s.channel).clock s.asking;
        answering = failed_before at.answering (receiver at.direction s.channel).clock s.answering;
      })

  -- ---- a port of another system beside a failed one

  module _ (at : LinkPlace) (s : StandsUnanswered at begun) (apart : at.asking ≢ place) where
    was : StandsUnanswered at w
    was = record {
      channel = s.channel;
      here = s.here;
      up = s.up;
      asking = lived at.asking (sender at.direction s.channel).clock apart s.asking;
      answering = failed_before at.answering (receiver at.direction s.channel).clock s.answering;
    }

    abbrev unanswered : IsUnansweredAt at w → IsUnansweredAt at begun
    unanswered l = record {
      channel = l.channel;
      here = l.here;
      up = l.up;
      asking = record {
        station = l.asking.station;
        state = l.asking.state;
        here = get-set_other w.stations place at.asking new apart ∙ l.asking.here;
        live = l.asking.live;
        set_up = l.asking.set_up;
        named = l.asking.named;
        there = l.asking.there;
        measures = l.asking.measures;
      };
      answering = record {
        station = l.answering.station;
        here = get-set_other w.stations place at.answering new
            (failed_apart at.answering (receiver at.direction s.channel).clock s.answering)
            ∙ l.answering.here;
        failed = l.answering.failed;
        named = l.answering.named;
      };
    }

    pub others_silent : (next : ℕ) → AreSilentBy p next w → IsSilentBy p next at begun
    others_silent next silent = elim (silent at was) [
      | inl off ↦ inl (record { link = unanswered off.link; mute = off.mute; off = off.off })
      | inr (sent, last, from) ↦
          inr (sent, record { link = unanswered last.link; replies = last.replies; inv = last.inv }, from)
    ]

    pub others_in_time : (gone : ℕ) → AreAskedInTime gone w → IsAskedInTime gone at begun
    others_in_time gone asked =
        let one = asked at was in
        record {
          link = unanswered one.link;
          asked = one.asked;
          frames = one.frames;
          requests = one.requests;
          old = one.old;
        }

  -- ---- where it had failed

  module _ (failed : old.live ≡ false) where
    pub had_failed : (here clock_is : ℕ) → here ≡ place → StationIsLiveAt here clock_is begun
        → IsFailedAmong here clock_is w.stations
    had_failed here clock_is same x =
        let near = fresh_stays.stations here x.station x.here in
        let one : near.old ≡ old =
        same_there w.stations place near.old old (ap (slice_get w.stations) (sym same) ∙ near.here) there in
        record {
          station = near.old;
          here = near.here;
          failed = ap (λ (y : Station). y.live) one ∙ failed;
          named = sym near.same.named ∙ x.named;
        }

    -- its own port beside a failed system
    module _ (at : LinkPlace) (s : StandsUnanswered at begun) (here : at.asking ≡ place) (gone : ℕ)
        (all : AreGoneBetween gone w) where
      between : StandsFailed at w
      between = record {
        channel = s.channel;
        here = s.here;
        up = s.up;
        asking = had_failed at.asking (sender at.direction s.channel).clock here s.asking;
        answering = failed_before at.answering (receiver at.direction s.channel).clock s.answering;
      }

      abbrev end : IsEndOf at.asking (sender at.direction s.channel) begun
      end = end_is at.asking (sender at.direction s.channel) begun fresh_measured s.asking
          (stays_ports now begun fresh_stays is.sound.wired.ports at.link at.asking at.direction s.channel
          s.asking.station s.here s.asking.here s.asking.named)

      fresh_end : IsFreshPort end.state
      fresh_end =
          fresh_port at.asking w.time (sender at.direction s.channel) old begun end
          (ap (λ (x : Station). x.system) (is_new at.asking s.asking.station here s.asking.here))

      own_link : IsUnansweredAt at begun
      own_link = record { channel = s.channel; here = s.here; up = s.up; asking = end; answering = s.answering }

      due_by : (direction : Direction) (f : Frame) → In f (world_queue direction s.channel) → f.due ≤ gone
      unfolding between
      due_by direction f member = all at between direction f member

      pub own_in_time : IsAskedInTime gone at begun
      unfolding own_link
      own_in_time = record {
        link = own_link;
        asked =
            (let never : asked_at (interval_of end.station.setup.params.pdelay) end.state.pdelay ≡ 0 =
            ap (asked_at (interval_of end.station.setup.params.pdelay)) fresh_end.pdelay in
            omega (arith, never));
        frames = λ lossless f member. (let due = due_by at.direction f member in omega (arith, due));
        requests = λ lossless f r member says. (let due = due_by at.direction f member in omega (arith, due));
        old = due_by (other_direction at.direction);
      }

      -- it is off
      pub own_off : gone < w.time → IsOff at begun
      unfolding own_link
      own_off past = record {
        link = own_link;
        mute = λ f member r says.
            let due = due_by (other_direction at.direction) f member in
            let late = due_now w is.sound at.link (other_direction at.direction) s.channel s.here f member in
            absurd (omega (arith, due, late, past));
        off = unmeasured_off end.state.peer fresh_end.unmeasured;
      }
