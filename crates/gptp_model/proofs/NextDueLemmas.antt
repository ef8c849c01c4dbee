-- Where what is pending agrees with the state, what is next is due by the state too.
use Rattle.std.proofs.Common.{◌≡◌, ℕ, ◌≤◌, Bool, true, false, List, [], ◌∷◌, Option, Some, None, slice_get, refl, ap, ◌∙◌, arith}
use Rattle.std.specs.List.{AllByRecursion}
use Rattle.std.proofs.lemmas.Option.{none-some}
use Rattle.gptp_links.specs.declared.link.Direction.{Direction}
use Rattle.gptp_links.specs.Queue.{Frame, AreDueInOrder}
use Rattle.gptp_setup.specs.declared.timer.Timer.{Timer}
use Rattle.gptp_system.specs.State.{due}
use Rattle.gptp_system.specs.Steps.{IsTimerOf}
use Rattle.gptp_system.proofs.TimelyLemmas.{due_timer}
use Rattle.gptp_model.specs.declared.item.Item.TheVariants.{Expiry, Arrival}
use Rattle.gptp_model.specs.declared.station.Station.{Station}
use Rattle.gptp_model.specs.Pending.{IsNext}
use Rattle.gptp_model.specs.World.{Channel, WorldState, world_queue, station_due}
use Rattle.gptp_model.specs.Agrees.{Agrees}
use Rattle.gptp_model.proofs.AgreeLemmas.{arriving, dues, running}
use Rattle.gptp_model.proofs.MomentLemmas.{next-due, next-first}

-- ---- a timer

-- a timer of a live system is due
pub record RunsOut (place : ℕ) (timer : Timer) (time : ℕ) (w : WorldState) : Type 0 where
  pub station : Station
  pub here : slice_get w.stations place ≡ Some station
  pub live : station.live ≡ true
  pub timer_of : IsTimerOf station.system timer
  pub due_now : due timer station.system ≡ Some time

pub runs_out : (place : ℕ) (timer : Timer) (time : ℕ) (w : WorldState) (station : Station)
    → slice_get w.stations place ≡ Some station → station_due timer station ≡ Some time → RunsOut place timer time w
runs_out place timer time w station here is = by station.live refl
  where
    by : (live : Bool) → station.live ≡ live → RunsOut place timer time w
    by true live =
        let now : due timer station.system ≡ Some time = rw live at is in record {
          station = station;
          here = here;
          live = live;
          timer_of = due_timer timer station.system time now;
          due_now = now;
        }
    by false failed = let never : None ≡ Some time = rw failed at is in absurd (none-some time never)

-- a timer that is next runs out
pub next_runs_out : (place : ℕ) (timer : Timer) (time : ℕ) (w : WorldState) → Agrees w
    → IsNext w.net.pending time (Expiry place timer) → RunsOut place timer time w
next_runs_out place timer time w agrees next = by (slice_get w.stations place) refl
  where
    by : (here : Option Station) → slice_get w.stations place ≡ here → RunsOut place timer time w
    by None none =
        absurd (none-some time (next-due w.net.pending time (Expiry place timer) None next
        (agrees (Expiry place timer) ∙ ap (running timer) none)))
    by (Some station) here =
        runs_out place timer time w station here
        (next-due w.net.pending time (Expiry place timer) (station_due timer station) next
        (agrees (Expiry place timer) ∙ ap (running timer) here))

-- ---- a frame

-- the oldest frame of a link in a direction is due
pub record Comes (link : ℕ) (direction : Direction) (time : ℕ) (w : WorldState) : Type 0 where
  pub channel : Channel
  pub oldest : Frame
  pub rest : List Frame
  pub here : slice_get w.net.channels link ≡ Some channel
  pub front : world_queue direction channel ≡ oldest ∷ rest
  pub due_now : oldest.due ≡ time

lower : (t u : ℕ) (ts : List ℕ) → t ≤ u → AllByRecursion (λ v. u ≤ v) ts → AllByRecursion (λ v. t ≤ v) ts
lower t u [] below all = tt
lower t u (v ∷ vs) below all = let first = all.0 in (omega arith, lower t u vs below all.1)

-- no frame is due before the oldest
pub later_dues : (f : Frame) (fs : List Frame) → AreDueInOrder (f ∷ fs) → AllByRecursion (λ u. f.due ≤ u) (dues fs)
later_dues f [] order = tt
later_dues f (g ∷ fs) order = (order.0, lower f.due g.due (dues fs) order.0 (later_dues g fs order.1))

-- a frame that is next is the oldest of its queue
pub next_comes : (link : ℕ) (direction : Direction) (time : ℕ) (w : WorldState)
    → ((channel : Channel) → slice_get w.net.channels link ≡ Some channel
    → AreDueInOrder (world_queue direction channel))
    → Agrees w → IsNext w.net.pending time (Arrival link direction) → Comes link direction time w
next_comes link direction time w ordered agrees next = by (slice_get w.net.channels link) refl
  where
    by : (here : Option Channel) → slice_get w.net.channels link ≡ here → Comes link direction time w
    by None none =
        absurd (none-some time (next-due w.net.pending time (Arrival link direction) None next
        (agrees (Arrival link direction) ∙ ap (arriving direction) none)))
    by (Some channel) here = on (world_queue direction channel) refl (ordered channel here)
      where
        on : (frames : List Frame) → world_queue direction channel ≡ frames → AreDueInOrder frames
            → Comes link direction time w
        on [] none order =
            absurd (none-some time (next-due w.net.pending time (Arrival link direction) None next
            (agrees (Arrival link direction) ∙ ap (arriving direction) here ∙ ap dues none)))
        on (f ∷ fs) front order = record {
          channel = channel;
          oldest = f;
          rest = fs;
          here = here;
          front = front;
          due_now = next-first w.net.pending time (Arrival link direction) next f.due (dues fs)
              (agrees (Arrival link direction) ∙ ap (arriving direction) here ∙ ap dues front) (later_dues f fs order);
        }
