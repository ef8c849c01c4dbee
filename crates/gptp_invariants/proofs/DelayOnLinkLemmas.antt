-- Ports of live systems measure only at links that are up, and a call keeps it so.
use Rattle.std.proofs.Common.{◌≡◌, ◌≢◌, ◌⊎◌, ℕ, true, List, Some, slice_get, sym, ap, subst, inl, inr}
use Rattle.gptp_vector.specs.declared.port.PortId.{PortId}
use Rattle.gptp_links.specs.Fate.{Draw}
use Rattle.gptp_system.specs.declared.answer.Answer.{Answer}
use Rattle.gptp_setup.specs.declared.timer.Timer.TheVariants as timers
use Rattle.gptp_system.specs.Input.{Input, PortUp, Expires as TimerExpires}
use Rattle.gptp_system.specs.State.{SystemState, own}
use Rattle.gptp_system.specs.Steps.{IsUp}
use Rattle.gptp_model.specs.declared.station.Station.{Station}
use Rattle.gptp_model.specs.Act.{Calls, all_timers, in_state}
use Rattle.gptp_model.specs.Changing.{with_station}
use Rattle.gptp_model.specs.World.{Net, WorldState, port_id}
use Rattle.gptp_model.proofs.AgreeLemmas.{replaced}
use Rattle.gptp_model.proofs.LinkedLemmas.{NoPort}
use Rattle.gptp_lists.proofs.PlaceLemmas.{set_each}
use Rattle.gptp_model.proofs.SteadyLemmas.{same_clock}
use Rattle.gptp_invariants.specs.DelayLinked.{BeginsLink, MeasureLinks}
use Rattle.gptp_invariants.proofs.DelayTimersLemmas.{KeepLinks, calls_links, came_up, keep_links}

-- ---- all but some ports

-- a port of a live system measures only at a link that is up, or is one of these
abbrev pub MeasureBut : (PortId → Type 0) → WorldState → Type 0
MeasureBut Excepted w = (place : ℕ) (station : Station) → slice_get w.stations place ≡ Some station
    → station.live ≡ true → (n : ℕ) → IsUp station.system n
    → Excepted (own station.system n) ⊎ BeginsLink w.net.channels (own station.system n)

-- either of two facts becomes another
pub either_way : {A B C D : Type 0} → (A → C) → (B → D) → A ⊎ B → C ⊎ D
either_way f g (inl a) = inl (f a)
either_way f g (inr b) = inr (g b)

pub but_none : (w : WorldState) → MeasureLinks w → MeasureBut NoPort w
but_none w measure place station here live n up = inr (measure place station here live n up)

pub none_but : (w : WorldState) → MeasureBut NoPort w → MeasureLinks w
none_but w but place station here live n up = by (but place station here live n up)
  where
    by : NoPort (own station.system n) ⊎ BeginsLink w.net.channels (own station.system n)
        → BeginsLink w.net.channels (own station.system n)
    by (inl none) = absurd none
    by (inr begins) = begins

-- the links that are up stay so
net_but : (Excepted : PortId → Type 0) (w : WorldState) (net : Net) → KeepLinks w.net.channels net.channels
    → MeasureBut Excepted w → MeasureBut Excepted (record w { net = net })
net_but Excepted w net keep but place station here live n up =
    either_way (λ excepted. excepted) (keep (own station.system n)) (but place station here live n up)

pub net_measure : (w : WorldState) (net : Net) → KeepLinks w.net.channels net.channels → MeasureLinks w
    → MeasureLinks (record w { net = net })
net_measure w net keep measure place station here live n up =
    keep (own station.system n) (measure place station here live n up)

-- one system becomes another, and the others have no new exceptions
station_but : (Before After : PortId → Type 0) (w : WorldState) (place : ℕ) (old new : Station)
    → slice_get w.stations place ≡ Some old
    → (new.live ≡ true → (n : ℕ) → IsUp new.system n
    → After (own new.system n) ⊎ BeginsLink w.net.channels (own new.system n))
    → ((other : ℕ) (station : Station) (n : ℕ) → other ≢ place → slice_get w.stations other ≡ Some station
    → Before (own station.system n) → After (own station.system n))
    → MeasureBut Before w → MeasureBut After (with_station place new w)
station_but Before After w place old new here its others but =
    set_each (λ other (x : Station). x.live ≡ true → (n : ℕ) → IsUp x.system n
    → After (own x.system n) ⊎ BeginsLink w.net.channels (own x.system n))
    w.stations place old new here its
    (λ other x apart there live n up. either_way (others other x n apart there) (λ b. b) (but other x there live n up))

pub station_measure : (w : WorldState) (place : ℕ) (old new : Station) → slice_get w.stations place ≡ Some old
    → (new.live ≡ true → (n : ℕ) → IsUp new.system n → BeginsLink w.net.channels (own new.system n))
    → MeasureLinks w → MeasureLinks (with_station place new w)
station_measure w place old new here its measure =
    set_each (λ other (x : Station). x.live ≡ true → (n : ℕ) → IsUp x.system n
    → BeginsLink w.net.channels (own x.system n))
    w.stations place old new here its (λ other x apart there. measure other x there)

-- so it is where its timers are set too
pub replaced_measure : (w : WorldState) (place : ℕ) (old new : Station) → slice_get w.stations place ≡ Some old
    → (new.live ≡ true → (n : ℕ) → IsUp new.system n → BeginsLink w.net.channels (own new.system n))
    → MeasureLinks w → MeasureLinks (replaced place new w)
replaced_measure w place old new here its measure =
    net_measure (with_station place new w) (all_timers place new w.net) (keep_links w.net.channels)
    (station_measure w place old new here its measure)

-- ---- a call

-- the port of a system whose Pdelay timer runs out measures its link
abbrev pub IsDueThere : Input → SystemState → Type 0
IsDueThere input s = (n : ℕ) → input ≡ TimerExpires (timers.Pdelay n) → IsUp s n

module _ (place : ℕ) (input : Input) (w : WorldState) (draws : List Draw) (answer : Answer) (w' : WorldState)
    (calls : Calls place input w draws answer w') where
  -- its ports are those of the system before
  own_same : (n : ℕ) → own calls.after n ≡ own calls.station.system n
  own_same n =
      ap (λ c. port_id c n)
      (same_clock input w.time calls.station.system calls.after calls.sends answer calls.steps)

  pub calls_but : (Before After : PortId → Type 0)
      → ((n : ℕ) → IsUp calls.after n
      → After (own calls.station.system n) ⊎ BeginsLink w.net.channels (own calls.station.system n))
      → ((other : ℕ) (station : Station) (n : ℕ) → other ≢ place → slice_get w.stations other ≡ Some station
      → Before (own station.system n) → After (own station.system n))
      → MeasureBut Before w → MeasureBut After w'
  calls_but Before After its others but =
      let new : Station = in_state calls.after calls.station in
      subst (MeasureBut After) (sym calls.is)
      (net_but After (with_station place new w) calls.net (calls_links place input w draws answer w' calls)
      (station_but Before After w place calls.station new calls.here
      (λ live n up. subst (λ port. After port ⊎ BeginsLink w.net.channels port) (sym (own_same n)) (its n up))
      others but))

  -- a port comes up only where a link that is up begins
  pub calls_measure : IsDueThere input calls.station.system
      → ((n : ℕ) → input ≡ PortUp n → BeginsLink w.net.channels (own calls.station.system n))
      → MeasureLinks w → MeasureLinks w'
  calls_measure out ups measure =
      none_but w' (calls_but NoPort NoPort (λ n up. inr (by n (came n up))) (λ other station n apart there none. none)
      (but_none w measure))
    where
      came : (n : ℕ) → IsUp calls.after n → (input ≡ PortUp n) ⊎ IsUp calls.station.system n
      came n up =
          came_up input w.time calls.station.system calls.after calls.sends answer n (out n) calls.steps up

      by : (n : ℕ) → (input ≡ PortUp n) ⊎ IsUp calls.station.system n
          → BeginsLink w.net.channels (own calls.station.system n)
      by n (inl is) = ups n is
      by n (inr up) = measure place calls.station calls.here calls.live n up
