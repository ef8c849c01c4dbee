-- An act that is ready is done with some draws of a fate.
use Rattle.std.proofs.Common.{◌≡◌, ◌≤◌, ℕ, Bool, true, false, if◌then◌else◌, List, [], ◌∷◌, Option, Some, None, slice_get, slice_set, refl, sym, ap, subst, ◌∙◌, arith}
use Rattle.std.specs.List.{AllByRecursion}
use Rattle.gptp_lists.proofs.PlaceLemmas.{get-set_all}
use Rattle.gptp_links.specs.declared.bounds.Bounds.{Bounds}
use Rattle.gptp_links.specs.declared.link.Direction.{Direction}
use Rattle.gptp_links.specs.declared.link.Direction.TheVariants.{FromA, FromB}
use Rattle.gptp_links.specs.Fate.{Draw}
use Rattle.gptp_links.specs.Queue.{frame, Frame}
use Rattle.gptp_setup.specs.declared.timer.Timer.{Timer}
use Rattle.gptp_system.specs.declared.answer.Answer.{Answer}
use Rattle.gptp_system.specs.Input.{Expires as TimerExpires, Frame as FrameHeard}
use Rattle.gptp_system.specs.State.{clock, due}
use Rattle.gptp_system.specs.Steps.{IsDue, IsUp}
use Rattle.gptp_scenario.specs.declared.change.Act.{Act}
use Rattle.gptp_scenario.specs.declared.change.Act.TheVariants.{Deliver, Expire, Change as Changing}
use Rattle.gptp_scenario.specs.Allowed.{IsFitAct}
use Rattle.gptp_model.specs.declared.done.Done.{Done}
use Rattle.gptp_model.specs.declared.done.Done.TheVariants.{Quiet, Heard}
use Rattle.gptp_model.specs.declared.item.Item.TheVariants.{Arrival}
use Rattle.gptp_model.specs.declared.station.Station.{Station}
use Rattle.gptp_model.specs.Act.{TimerRunsOut, Hears, TakesFrame}
use Rattle.gptp_model.specs.Acts.{at, Acts, AtPlace, AtSystem, Changes, Delivery, IsOldestDue, IsReadyAct}
use Rattle.gptp_model.specs.Agrees.{stopped}
use Rattle.gptp_model.specs.Pending.{without_first_entry}
use Rattle.gptp_model.specs.Sound.{IsWired}
use Rattle.gptp_model.specs.World.{world_queue, receiver, station_due, with_queue, Channel, Net, WorldState}
use Rattle.gptp_model.proofs.AheadLemmas.{live_due, requeued_fit}
use Rattle.gptp_model.proofs.StayLemmas.{carry_join, net_stays, takes_carry}
use Rattle.gptp_model.proofs.WiredLemmas.{time_wired}
use Rattle.gptp_determinism.specs.ExistenceLaws.{StepsExist}
use Rattle.gptp_determinism.specs.GoingOn.{AnswersAll, InjectsOctets, IsOfOctets}
use Rattle.gptp_determinism.proofs.CallExistLemmas.{calls_exist, IsCalled}
use Rattle.gptp_determinism.proofs.ChangeExistLemmas.{changes_exist, still_there}
use Rattle.gptp_determinism.proofs.ComeLemmas.{comes_from, comes_so, comes_without, itself_on, time_on, CanCall, Comes, GoesOn, HasEnd, HaveEnds}
use Rattle.gptp_determinism.proofs.SendExistLemmas.{queue_frames, HasFrames}

-- ---- a delivery

-- the port at the end of a link is one of a system
receiving_end : (w : WorldState) (link : ℕ) (direction : Direction) (channel : Channel) → HaveEnds w
    → slice_get w.net.channels link ≡ Some channel → HasEnd (receiver direction channel) w.stations
receiving_end w link FromA channel ends here = ends link FromB channel here
receiving_end w link FromB channel ends here = ends link FromA channel here

-- it measures its link, where that is up
receiver_up : (w : WorldState) (link place : ℕ) (direction : Direction) (channel : Channel) (station : Station)
    → IsWired w → slice_get w.net.channels link ≡ Some channel → channel.up ≡ true
    → slice_get w.stations place ≡ Some station → station.live ≡ true
    → clock station.system ≡ (receiver direction channel).clock
    → IsUp station.system (receiver direction channel).port
receiver_up w link place FromA channel station is here up there live named =
    is.linked link place FromB channel station here up there live named
receiver_up w link place FromB channel station is here up there live named =
    is.linked link place FromA channel station here up there live named

-- a link on which a frame is in flight is up
in_flight_up : (up : Bool) (frames : List Frame) (oldest : Frame) (rest : List Frame) → (up ≡ false → frames ≡ [])
    → frames ≡ oldest ∷ rest → up ≡ true
in_flight_up true frames oldest rest still front = refl
in_flight_up false frames oldest rest still front = let none = still refl in absurd cc

-- the oldest frame of a link is delivered, and something is told of it
abbrev IsDelivered : ℕ → Direction → WorldState → List Draw → WorldState → Type 0
IsDelivered link direction w draws v = (done : Done) × Delivery link direction done w draws v

-- a timer of the system of a clock runs out
abbrev HasExpired : ℕ → Timer → WorldState → List Draw → WorldState → Type 0
HasExpired number timer w draws v = AtSystem number w (λ place station. TimerRunsOut place timer w draws v)

-- an act is done, and something is told of it
abbrev IsDone : Act → WorldState → List Draw → WorldState → Type 0
IsDone act w draws v = (done : Done) × Acts act w draws done v

-- what is due of a timer is due of a live system
runs_live : (live : Bool) (o : Option ℕ) (t : ℕ) → (if live then o else None) ≡ Some t → live ≡ true
runs_live true o t is = refl
runs_live false o t is = absurd cc

module _ {F : Type 0} (answers : Bounds → ℕ → F → Option ℕ → F → Type 0) (all : AnswersAll answers)
    (steps : StepsExist) where
  -- the oldest frame of a link, where it is due, reaches the system at the end
  delivery_exists : (link : ℕ) (direction : Direction) (w : WorldState) (fate : F) → IsWired w → CanCall w → HaveEnds w
      → AtPlace link w.net (IsOldestDue direction w.time) → Comes answers w fate (IsDelivered link direction w)
  delivery_exists link direction w fate is can ends oldest =
      comes_from answers w emptied fate (IsDelivered link direction w) left (by end.station.live refl)
    where
      channel : Channel
      channel = oldest.channel

      octets : List ℕ
      octets = oldest.so.oldest.octets

      rest : List Frame
      rest = oldest.so.rest

      front : world_queue direction channel ≡ frame w.time octets ∷ rest
      front = oldest.so.front ∙ ap (λ (t : ℕ). frame t octets ∷ rest) oldest.so.due

      net : Net
      net = record {
        channels = slice_set w.net.channels link (with_queue direction rest channel);
        pending = without_first_entry (Arrival link direction) w.net.pending;
      }

      emptied : WorldState
      emptied = record w { net = net }

      takes : TakesFrame link direction w.time octets channel w.net net
      takes = record { rest = rest; here = oldest.here; front = front; is = refl }

      frames : AllByRecursion IsOfOctets (oldest.so.oldest ∷ rest)
      frames = subst (AllByRecursion IsOfOctets) oldest.so.front (can.frames link channel oldest.here direction)

      left : GoesOn w emptied
      left = record {
        can = record {
          moment = can.moment;
          stations = can.stations;
          setups = can.setups;
          links = requeued_fit w.net.channels link direction rest channel oldest.here can.links;
          frames = get-set_all HasFrames w.net.channels link channel (with_queue direction rest channel) oldest.here
              (queue_frames direction rest channel frames.1 (can.frames link channel oldest.here)) can.frames;
        };
        stays = net_stays w net can.setups
            (carry_join w.net.channels net.channels
            (takes_carry link direction w.time octets channel w.net net takes));
        count = refl;
      }

      end : HasEnd (receiver direction channel) w.stations
      end = receiving_end w link direction channel ends oldest.here

      port : ℕ
      port = (receiver direction channel).port

      up : channel.up ≡ true
      up =
          in_flight_up channel.up (world_queue direction channel) oldest.so.oldest rest
          (is.flow link direction channel oldest.here).still oldest.so.front

      tells : (answer : Option Answer) (draws : List Draw) (v : WorldState)
          → Hears end.place port octets emptied draws answer v → IsDelivered link direction w draws v
      tells answer draws v hears = (
        Heard (receiver direction channel).clock port answer (record { items = octets; is_written = false }),
        record {
          channel = channel;
          octets = octets;
          answer = answer;
          here = oldest.here;
          told = (refl, refl, refl, refl);
          delivers = record {
            channel = channel;
            net = net;
            place = end.place;
            station = end.station;
            takes = takes;
            there = end.here;
            is_end = end.named;
            hears = hears;
          };
        },
      )

      by : (live : Bool) → end.station.live ≡ live → Comes answers emptied fate (IsDelivered link direction w)
      by true live =
          comes_so answers emptied fate (IsCalled end.place (FrameHeard port octets) emptied)
          (IsDelivered link direction w) (λ draws v called. tells (Some called.0) draws v called.1)
          (calls_exist answers all steps end.place (FrameHeard port octets) emptied end.station fate end.here live
          (receiver_up w link end.place direction channel end.station is oldest.here up end.here live end.named)
          frames.0.0 left.can)
      by false failed =
          comes_without answers emptied emptied fate (IsDelivered link direction w)
          (tells None [] emptied (record { station = end.station; here = end.here; failed = failed }, refl, refl))
          (itself_on emptied left.can)

  -- ---- an expiry

  -- a timer that is due runs out
  expiry_exists : (number : ℕ) (timer : Timer) (w : WorldState) (fate : F) → CanCall w
      → AtSystem number w (λ place station. station_due timer station ≡ Some w.time)
      → Comes answers w fate (HasExpired number timer w)
  expiry_exists number timer w fate can out =
      comes_from answers w between fate (HasExpired number timer w) left
      (comes_so answers between fate (IsCalled out.place (TimerExpires timer) between) (HasExpired number timer w)
      (λ draws v called. record {
        place = out.place;
        station = out.station;
        is = out.is;
        so = record {
          station = out.station;
          answer = called.0;
          here = out.is.here;
          now_due = out.so;
          calls = called.1;
        };
      })
      (calls_exist answers all steps out.place (TimerExpires timer) between out.station fate out.is.here live timely tt
      left.can))
    where
      between : WorldState
      between = stopped out.place timer w

      left : GoesOn w between
      left = time_on w w.time w.last_change between.net.pending can.moment can

      live : out.station.live ≡ true
      live = runs_live out.station.live (due timer out.station.system) w.time out.so

      timely : IsDue out.station.system timer w.time
      timely =
          let now : due timer out.station.system ≡ Some w.time = sym (live_due out.station timer live) ∙ out.so in
          let least : w.time ≤ w.time = omega arith in
          rw now least

  -- ---- all acts

  -- an act that is ready is done
  pub acts_come : (act : Act) (time : ℕ) (w : WorldState) (fate : F) → IsWired w → CanCall (at time w) → HaveEnds w
      → IsFitAct act → InjectsOctets act → IsReadyAct act time w
      → Comes answers (at time w) fate (IsDone act (at time w))
  acts_come (Deliver link direction) time w fate is can ends fit octets ready =
      comes_so answers (at time w) fate (IsDelivered link direction (at time w))
      (IsDone (Deliver link direction) (at time w)) (λ draws v k. k)
      (delivery_exists link direction (at time w) fate (time_wired w time w.last_change is) can ends ready.due)
  acts_come (Expire number timer) time w fate is can ends fit octets ready =
      let out = ready.due in
      comes_so answers (at time w) fate (HasExpired number timer (at time w)) (IsDone (Expire number timer) (at time w))
      (λ draws v k. (Quiet, (refl, k)))
      (expiry_exists number timer (at time w) fate can (record {
        place = out.place;
        station = out.station;
        is = record { here = out.is.here; named = out.is.named };
        so = out.so;
      }))
  acts_come (Changing c) time w fate is can ends fit octets ready =
      let changed : WorldState = record w { time = time; last_change = time } in
      let on : GoesOn (at time w) changed = time_on (at time w) time time w.net.pending can.moment can in
      comes_so answers (at time w) fate (Changes c changed) (IsDone (Changing c) (at time w))
      (λ draws v k. (Quiet, (refl, k)))
      (comes_from answers (at time w) changed fate (Changes c changed) on
      (changes_exist answers all steps c changed fate on.can ends fit octets (still_there c w time time ready.there)))
