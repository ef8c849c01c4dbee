-- Ports measure only at links that are up, also where a link goes down.
use Rattle.std.proofs.Common.{◌≡◌, ◌≢◌, ◌⊎◌, ℕ, Bool, true, false, List, Some, slice_get, slice_set, sym, ap, subst, ◌∙◌, inl, inr}
use Rattle.gptp_vector.specs.declared.port.PortId.{PortId}
use Rattle.gptp_links.specs.declared.link.Direction.{Direction}
use Rattle.gptp_links.specs.declared.link.Direction.TheVariants.{FromA, FromB}
use Rattle.gptp_links.specs.Fate.{Draw}
use Rattle.gptp_system.specs.declared.answer.Answer.{Answer}
use Rattle.gptp_system.specs.Input.{PortUp, PortDown}
use Rattle.gptp_system.specs.State.{clock, own}
use Rattle.gptp_system.specs.Steps.{IsUp}
use Rattle.gptp_model.specs.declared.station.Station.{Station}
use Rattle.gptp_model.specs.Act.{Calls, HasFailed}
use Rattle.gptp_model.specs.Changing.{CallsIfLive, GoesDownIf, TellsEnds, lost, taken_down}
use Rattle.gptp_model.specs.Sound.{HaveOwnClocks, HaveTheirSetups, IsWired}
use Rattle.gptp_model.specs.World.{Channel, WorldState, sender}
use Rattle.gptp_model.proofs.LinkedLemmas.{NoPort}
use Rattle.gptp_lists.proofs.MappedLemmas.{same_there}
use Rattle.gptp_lists.proofs.PlaceLemmas.{get-set_other, same_place}
use Rattle.gptp_model.proofs.StayLemmas.{calls_if_live_stay, stays_clocks}
use Rattle.gptp_invariants.specs.DelayLinked.{BeginsLink, MeasureLinks}
use Rattle.gptp_invariants.proofs.DelayTimersLemmas.{came_up, went_down}
use Rattle.gptp_invariants.proofs.DelayOnLinkLemmas.{MeasureBut, calls_but, either_way, none_but}
use Rattle.gptp_invariants.proofs.DelayComesUpLemmas.{IsAt, calls_if_live_at, is_at}

-- the system at a place is told that its port goes down, and is excepted there no more
module _ (port : PortId) (Before After : PortId → Type 0) (place : ℕ) (w : WorldState)
    (split : (from : PortId) → Before from → (from ≡ port) ⊎ After from) (clocks : HaveOwnClocks w)
    (at : IsAt port place w) where
  -- the port is one of that system alone
  elsewhere : (station : Station) → slice_get w.stations place ≡ Some station → (other : ℕ) (x : Station) (n : ℕ)
      → other ≢ place → slice_get w.stations other ≡ Some x → Before (own x.system n) → After (own x.system n)
  elsewhere station here other x n apart there before = by (split (own x.system n) before)
    where
      by : (own x.system n ≡ port) ⊎ After (own x.system n) → After (own x.system n)
      by (inl same) =
          let named : clock x.system ≡ clock station.system =
          ap (λ (q : PortId). q.clock) same ∙ sym (at station here) in
          absurd (apart (clocks other place x station there here named))
      by (inr after) = after

  -- where the system has failed, none of its ports measures
  failed_but : HasFailed place w → MeasureBut Before w → MeasureBut After w
  failed_but failed but other x there live n up = by (but other x there live n up) (same_place other place)
    where
      by : Before (own x.system n) ⊎ BeginsLink w.net.channels (own x.system n) → (other ≡ place) ⊎ (other ≢ place)
          → After (own x.system n) ⊎ BeginsLink w.net.channels (own x.system n)
      by (inr begins) here = inr begins
      by (inl before) (inr apart) = inl (elsewhere failed.station failed.here other x n apart there before)
      by (inl before) (inl same) =
          let it : x ≡ failed.station =
          same_there w.stations place x failed.station (ap (slice_get w.stations) (sym same) ∙ there) failed.here in
          let both : true ≡ false = sym live ∙ ap (λ (y : Station). y.live) it ∙ failed.failed in
          absurd cc

  -- otherwise that port measures no more
  stopped_but : (draws : List Draw) (answer : Answer) (w' : WorldState)
      → Calls place (PortDown port.port) w draws answer w' → MeasureBut Before w → MeasureBut After w'
  stopped_but draws answer w' calls but =
      calls_but place (PortDown port.port) w draws answer w' calls Before After its
      (elsewhere calls.station calls.here) but
    where
      came : (n : ℕ) → IsUp calls.after n → (PortDown port.port ≡ PortUp n) ⊎ IsUp calls.station.system n
      came n up =
          came_up (PortDown port.port) w.time calls.station.system calls.after calls.sends answer n
          (λ same. absurd cc) calls.steps up

      down : (n : ℕ) → IsUp calls.after n → own calls.station.system n ≡ port → ⊥
      down n up same =
          let number : n ≡ port.port = ap (λ (q : PortId). q.port) same in
          went_down w.time calls.station.system calls.after calls.sends answer port.port calls.steps
          (subst (IsUp calls.after) number up)

      still : (n : ℕ) → IsUp calls.after n → Before (own calls.station.system n) → After (own calls.station.system n)
      still n up before = by (split (own calls.station.system n) before)
        where
          by : (own calls.station.system n ≡ port) ⊎ After (own calls.station.system n)
              → After (own calls.station.system n)
          by (inl same) = absurd (down n up same)
          by (inr after) = after

      its : (n : ℕ) → IsUp calls.after n
          → After (own calls.station.system n) ⊎ BeginsLink w.net.channels (own calls.station.system n)
      its n up = by (came n up)
        where
          by : (PortDown port.port ≡ PortUp n) ⊎ IsUp calls.station.system n
              → After (own calls.station.system n) ⊎ BeginsLink w.net.channels (own calls.station.system n)
          by (inl same) = absurd cc
          by (inr before) =
              either_way (still n up) (λ begins. begins) (but place calls.station calls.here calls.live n before)

  port_down_but : (draws : List Draw) (w' : WorldState) → CallsIfLive place (PortDown port.port) w draws w'
      → MeasureBut Before w → MeasureBut After w'
  port_down_but draws w' (inl (answer, calls)) but = stopped_but draws answer w' calls but
  port_down_but draws w' (inr (failed, none, same)) but = subst (MeasureBut After) (sym same) (failed_but failed but)

-- the port is at an end of a link
abbrev IsEnd : Channel → PortId → Type 0
IsEnd channel port = (port ≡ channel.a) ⊎ (port ≡ channel.b)

-- the link at a place goes down: all is as before but at its ends
lost_but : (place : ℕ) (channel : Channel) (w : WorldState) → slice_get w.net.channels place ≡ Some channel
    → MeasureLinks w → MeasureBut (IsEnd channel) (record w { net = taken_down place channel w.net })
lost_but place channel w here measure other station there live n up =
    by (same_place begins.link place)
  where
    begins : BeginsLink w.net.channels (own station.system n)
    begins = measure other station there live n up

    end : (direction : Direction) → sender direction channel ≡ own station.system n
        → IsEnd channel (own station.system n)
    end FromA is = inl (sym is)
    end FromB is = inr (sym is)

    by : (begins.link ≡ place) ⊎ (begins.link ≢ place)
        → IsEnd channel (own station.system n)
        ⊎ BeginsLink (slice_set w.net.channels place (lost channel)) (own station.system n)
    by (inl same) =
        let it : begins.channel ≡ channel =
        same_there w.net.channels place begins.channel channel (ap (slice_get w.net.channels) (sym same) ∙ begins.here)
        here in
        inl (end begins.direction (ap (sender begins.direction) (sym it) ∙ begins.begins))
    by (inr apart) = inr (record {
      link = begins.link;
      direction = begins.direction;
      channel = begins.channel;
      here = get-set_other w.net.channels place begins.link (lost channel) apart ∙ begins.here;
      begins = begins.begins;
      up = begins.up;
    })

ends_go_down : (channel : Channel) (w : WorldState) (draws : List Draw) (w' : WorldState) → HaveTheirSetups w
    → HaveOwnClocks w → MeasureBut (IsEnd channel) w
    → TellsEnds PortDown channel w draws w' → MeasureLinks w'
ends_go_down channel w draws w' setups clocks but k =
    none_but w'
    (port_down_but channel.b (λ port. port ≡ channel.b) NoPort k.place_b k.between (λ from is. inl is) later_clocks
    later_b k.second w' k.at_b
    (port_down_but channel.a (IsEnd channel) (λ port. port ≡ channel.b) k.place_a w (λ from is. is) clocks
    (is_at channel.a k.place_a w k.station_a k.is_a) k.first k.between k.at_a but))
  where
    later_clocks : HaveOwnClocks k.between
    later_clocks =
        stays_clocks w k.between
        (calls_if_live_stay k.place_a (PortDown channel.a.port) w k.first k.between setups k.at_a) clocks

    later_b : IsAt channel.b k.place_b k.between
    later_b =
        calls_if_live_at channel.b k.place_b k.place_a (PortDown channel.a.port) w k.first k.between k.at_a
        (is_at channel.b k.place_b w k.station_b k.is_b)

pub goes_down_measures : (up : Bool) (place : ℕ) (channel : Channel) (w : WorldState) (draws : List Draw)
    (w' : WorldState) → slice_get w.net.channels place ≡ Some channel → IsWired w → MeasureLinks w
    → GoesDownIf up place channel w draws w' → MeasureLinks w'
goes_down_measures false place channel w draws w' here wired measure (none, is) =
    subst MeasureLinks (sym is) measure
goes_down_measures true place channel w draws w' here wired measure k =
    ends_go_down channel (record w { net = taken_down place channel w.net }) draws w' wired.setups wired.clocks
    (lost_but place channel w here measure) k
